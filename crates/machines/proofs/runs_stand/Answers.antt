use Rattle.machines.proofs.Theorems.{run_facts}
use Rattle.machines.proofs.runs_stand.Goals as goal

pub returns : goal.returns
returns g c = run_facts g.O.Output.kind g.met.O.Output.lawful
