use Rattle.std.proofs.Common.{◌∙◌, arith}
use Rattle.records.specs.Holding.{held}
use Rattle.records.proofs.Counting.{count_open}
use Rattle.adding.proofs.NewestKey.{newest_length, newest_byte}
use Rattle.adding.proofs.admission.byte.Goals as goal

pub last_arc-requires : goal.last_arc-requires
last_arc-requires g c =
    let mean = g.O.Output.meaning in
    let b = c.args.core.now in
    omega (arith, newest_length (held mean b).open', count_open mean b, c.requires)

pub returns : goal.returns
returns g c =
    let os = (held g.O.Output.meaning c.args.core.now).open' in
    c.last_arc.ensures.byte ∙ newest_byte os c.args.place (omega (arith, newest_length os, c.requires))
