use Rattle.images.proofs.PairsLoad.{pairs_load_back}
use Rattle.images.proofs.load_takes_minimal.Goals as goal

pub returns : goal.returns
returns g c = pairs_load_back g.O.Output.kind g.met.O.Output.lawful
