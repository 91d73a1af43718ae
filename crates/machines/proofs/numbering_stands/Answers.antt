use Rattle.machines.proofs.Theorems.{numbering}
use Rattle.machines.proofs.numbering_stands.Goals as goal

pub returns : goal.returns
returns g c = numbering g.O.Output.kind g.met.O.Output.lawful
