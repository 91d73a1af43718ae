use Rattle.std.proofs.Common.{arith}
use Rattle.saving.proofs.Laid.{head_small}
use Rattle.saving.proofs.counting.head_length.Goals as goal

pub returns : goal.returns
returns g c =
    let rows = c.args.rows.now in
    omega (arith, c.new-counter.ensures, c.write_head.ensures, head_small g.O.Output.kind g.O.Output.meaning g.met.O.Output.lawful g.met.O.Output.stored rows)
