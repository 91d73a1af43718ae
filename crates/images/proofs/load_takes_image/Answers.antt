use Rattle.images.proofs.RoundTrip.{loads_back}
use Rattle.images.proofs.load_takes_image.Goals as goal

pub returns : goal.returns
returns g c = loads_back g.O.Output.kind g.met.O.Output.lawful
