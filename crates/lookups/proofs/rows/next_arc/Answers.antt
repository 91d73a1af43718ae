use Rattle.std.proofs.Common.{arith}
use Rattle.lookups.specs.Lookups.{bits_of}
use Rattle.lookups.proofs.RowSteps.{next_read, next_lacks}
use Rattle.lookups.proofs.rows.next_arc.Goals as goal

pub returns-in_err-output-clause-first : goal.returns-in_err-output-clause-first
returns-in_err-output-clause-first g c = next_lacks g.O.Output.kind g.O.Output.meaning (bits_of g.S.Store.bytes c.args.loaded.now) c.args.row (omega arith) c.from_residual.result c.in_err-output.ensures

pub returns-clause-first : goal.returns-clause-first
returns-clause-first g c =
    next_read g.O.Output.kind g.O.Output.meaning (bits_of g.S.Store.bytes c.args.loaded.now) c.args.row (omega arith) _ _ (λ arc h.
    let o = c.in_ok-output.ensures arc h in
    (record { byte = c.byte_at-byte.ensures arc h; target = c.target_at-target.ensures.target arc h; output = o.0 }, o.1)) (omega arith)
