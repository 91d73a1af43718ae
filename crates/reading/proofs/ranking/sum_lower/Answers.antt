use Rattle.std.proofs.Common.{◌+◌, ◌-◌, arith}
use Rattle.machines.specs.Counts.{counts_of}
use Rattle.lookups.specs.Lookups.{bits_of}
use Rattle.reading.proofs.RowScans.{sum_begins, sum_ends, sum_found, sum_above, sum_more}
use Rattle.reading.proofs.ranking.sum_lower.Goals as goal

pub loop-init : goal.loop-init
loop-init g c = λ m h arcs rise row few. sum_begins g.O.Output.kind (bits_of g.S.Store.bytes c.args.loaded.now) c.args.byte arcs (counts_of m.states) c.args.before c.args.row rise row few

pub returns-then-here-byte : goal.returns-then-here-byte
returns-then-here-byte g c = λ m h arcs rise row few.
    sum_above g.O.Output.kind (bits_of g.S.Store.bytes c.args.loaded.now) c.args.byte arcs (counts_of m.states) c.args.before (c.args.row.left - c.loop.counter) c.loop.place c.loop.keys (c.loop.invariant m h arcs rise row few)
    c.byte_at-here.result (omega arith) c.byte_at-here.ensures (omega arith)

pub returns-then-here-byte-2 : goal.returns-then-here-byte-2
returns-then-here-byte-2 g c = λ m h arcs rise row few.
    sum_found g.O.Output.kind (bits_of g.S.Store.bytes c.args.loaded.now) c.args.byte arcs (counts_of m.states) c.args.before (c.args.row.left - c.loop.counter) c.loop.place c.loop.keys (c.loop.invariant m h arcs rise row few)
    c.byte_at-here.result (omega arith) c.byte_at-here.ensures c.target_at-target.result c.target_at-target.ensures.target c.if-here-byte-2.true

pub loop-preserved : goal.loop-preserved
loop-preserved g c = λ m h arcs rise row few.
    sum_more g.O.Output.kind (bits_of g.S.Store.bytes c.args.loaded.now) c.args.byte arcs (counts_of m.states) c.args.before (c.args.row.left - c.loop.counter) c.loop.place c.loop.keys (c.loop.invariant m h arcs rise row few)
    c.byte_at-here.result (omega arith) c.byte_at-here.ensures c.target_at-target.result c.target_at-target.ensures.target c.pass_arc-place.result c.pass_arc-place.ensures (omega arith) (c.args.row.left - (c.loop.counter + 1)) (omega arith)
    c.keys_from.result c.saturating_add-keys.result (c.keys_from.ensures.keys m h) (λ b. omega arith)

pub returns : goal.returns
returns g c = λ m h arcs rise row few.
    sum_ends g.O.Output.kind (bits_of g.S.Store.bytes c.args.loaded.now) c.args.byte arcs (counts_of m.states) c.args.before (c.args.row.left - c.loop.counter) c.loop.place c.loop.keys (c.loop.invariant m h arcs rise row few) (omega arith)
