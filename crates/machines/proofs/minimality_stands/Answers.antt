use Rattle.machines.proofs.Theorems.{minimality}
use Rattle.machines.proofs.minimality_stands.Goals as goal

pub returns : goal.returns
returns g c = minimality g.O.Output.kind g.met.O.Output.lawful
