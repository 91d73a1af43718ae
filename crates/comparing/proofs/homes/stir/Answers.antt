use Rattle.std.proofs.Common.{refl}
use Rattle.records.specs.Registering.{stirred}
use Rattle.comparing.proofs.homes.stir.Goals as goal

pub returns : goal.returns
unfolding stirred
returns c = refl
