-- What an output of the code means, where there is one. Assumes nothing.
use Rattle.std.specs.Prelude.{Some, None, Option as Maybe}
use Rattle.std.proofs.Math.Option.{Option, none, some}

abbrev pub meant : {O I : Type 0} → (O → I) → Maybe O → Option I
meant meaning None = none
meant meaning (Some x) = some (meaning x)
