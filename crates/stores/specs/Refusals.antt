-- What a store refuses, by number.
use Rattle.std.specs.Prelude.{◌≡◌, ℕ, Bool, true, false, Ok, Err, Result}
use Rattle.stores.specs.declared.Refusal.{Refusal}
use Rattle.stores.specs.declared.Refusal.TheVariants.{Missing, Full, BadMemory, BadPlace}

abbrev pub number : Refusal → ℕ
number (Missing i) = 11
number Full = 12
number BadMemory = 13
number BadPlace = 14

-- a check lets pass exactly what is good, and else gives this refusal
abbrev pub Checked : {X : Type 0} → Bool → Refusal → Result X Refusal → Type 0
Checked good refusal (Ok _) = good ≡ true
Checked good refusal (Err given) = (good ≡ false) × (given ≡ refusal)
