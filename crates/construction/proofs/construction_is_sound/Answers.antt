use Rattle.construction.proofs.HeldSound.{held_sound}
use Rattle.construction.proofs.construction_is_sound.Goals as goal

pub returns : goal.returns
returns g c = held_sound g.O.Output.kind g.met.O.Output.lawful
