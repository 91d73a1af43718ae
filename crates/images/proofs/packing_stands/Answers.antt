use Rattle.images.proofs.Bytes.{packing}
use Rattle.images.proofs.packing_stands.Goals as goal

pub returns : goal.returns
returns c = packing
