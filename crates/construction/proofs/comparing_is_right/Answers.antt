use Rattle.construction.proofs.Theorems.{comparing_right}
use Rattle.construction.proofs.comparing_is_right.Goals as goal

pub returns : goal.returns
returns g c = comparing_right g.O.Output.kind g.met.O.Output.lawful
