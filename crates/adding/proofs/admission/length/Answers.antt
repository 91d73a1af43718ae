use Rattle.std.proofs.Common.{arith}
use Rattle.records.specs.Holding.{held}
use Rattle.records.proofs.Counting.{count_open}
use Rattle.adding.proofs.NewestKey.{newest_length}
use Rattle.adding.proofs.admission.length.Goals as goal

pub returns : goal.returns
returns g c =
    let mean = g.O.Output.meaning in
    let b = c.args.core.now in
    omega (arith, newest_length (held mean b).open', count_open mean b, c.highs.ensures, c.saturating_sub.ensures)
