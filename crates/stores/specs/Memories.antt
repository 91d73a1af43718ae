-- Which memory can be a store.
use Rattle.std.specs.Prelude.{◌≡◌, ℕ, Bool, true, false, ◌&&◌, nat_le, Ok, Err, Result}
use Rattle.stores.specs.declared.Refusal.{Refusal}

-- memory of so many bytes, of which so many are used
abbrev pub fits : ℕ → ℕ → Bool
fits bytes used = nat_le bytes 16777216 && nat_le used bytes

-- how many bytes the memory holds, where it fits, and else this refusal
abbrev pub Room : Bool → ℕ → Refusal → Result ℕ Refusal → Type 0
Room fit bytes refusal (Ok room) = (fit ≡ true) × (room ≡ bytes)
Room fit bytes refusal (Err given) = (fit ≡ false) × (given ≡ refusal)
