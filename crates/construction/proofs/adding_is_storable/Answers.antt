use Rattle.construction.proofs.AddStorable.{joins_storable}
use Rattle.construction.proofs.adding_is_storable.Goals as goal

pub returns : goal.returns
returns g c = joins_storable g.O.Output.kind g.met.O.Output.lawful
