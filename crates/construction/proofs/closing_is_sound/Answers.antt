use Rattle.construction.proofs.Theorems.{closing_sound}
use Rattle.construction.proofs.closing_is_sound.Goals as goal

pub returns : goal.returns
returns g c = closing_sound g.O.Output.kind g.met.O.Output.lawful
