use Rattle.machines.proofs.Theorems.{right_readings}
use Rattle.machines.proofs.readings_stand.Goals as goal

pub returns : goal.returns
returns g c = right_readings g.O.Output.kind g.met.O.Output.lawful
