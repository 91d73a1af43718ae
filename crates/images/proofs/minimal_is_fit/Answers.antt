use Rattle.images.proofs.MinimalFits.{minimal_fits}
use Rattle.images.proofs.minimal_is_fit.Goals as goal

pub returns : goal.returns
returns g c = minimal_fits g.O.Output.kind g.met.O.Output.lawful
