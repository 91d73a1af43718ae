-- The numbers of the refusals of a key, and what an add is told. Assumes nothing.
use Rattle.std.proofs.Math.Option.{Option, none, some}
use Rattle.std.specs.Prelude.{ℕ, Ok, Err, Result}
use Rattle.adding.specs.declared.refusal.AddRefusal.{AddRefusal}
use Rattle.adding.specs.declared.refusal.AddRefusal.TheVariants.{LongKey, OutOfOrder, TooManyPairs, NoStateRoom, NoArcRoom}

abbrev pub refusal_number : AddRefusal → ℕ
refusal_number LongKey = 5
refusal_number OutOfOrder = 6
refusal_number TooManyPairs = 7
refusal_number NoStateRoom = 8
refusal_number NoArcRoom = 9

-- the number that is told, if a key is refused
abbrev pub told : {T : Type 0} → Result T AddRefusal → Option ℕ
told (Ok u) = none
told (Err e) = some (refusal_number e)
