use Rattle.machines.proofs.Theorems.{right_answers}
use Rattle.machines.proofs.answers_stand.Goals as goal

pub returns : goal.returns
returns g c = right_answers g.O.Output.kind g.met.O.Output.lawful
