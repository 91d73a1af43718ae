use Rattle.construction.proofs.HeldStates.{held_exact}
use Rattle.construction.proofs.construction_is_exact.Goals as goal

pub returns : goal.returns
returns g c = held_exact g.O.Output.kind g.met.O.Output.lawful
