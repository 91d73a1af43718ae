use Rattle.construction.proofs.Theorems.{proper_minimal}
use Rattle.construction.proofs.construction_is_minimal.Goals as goal

pub returns : goal.returns
returns g c = proper_minimal g.O.Output.kind g.met.O.Output.lawful
