use Rattle.images.proofs.PairsLoad.{images_differ}
use Rattle.images.proofs.images_differ.Goals as goal

pub returns : goal.returns
returns g c = images_differ g.O.Output.kind g.met.O.Output.lawful
