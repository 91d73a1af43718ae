use Rattle.machines.proofs.Theorems.{can_be_stored}
use Rattle.machines.proofs.storing_stands.Goals as goal

pub returns : goal.returns
returns g c = can_be_stored g.O.Output.kind g.met.O.Output.lawful
