-- What a store holds after a byte was to be appended.
use Rattle.std.specs.Prelude.{◌≡◌, ℕ, ◌<◌, List, [], ◌∷◌, ◌++◌, length, Ok, Err, Result, slice_set}
use Rattle.stores.specs.declared.Refusal.{Refusal}
use Rattle.stores.specs.declared.Refusal.TheVariants.{Full}

-- the byte joins the end, or the store is full and nothing changes
abbrev pub Appended : {X : Type 0} → List ℕ → ℕ → ℕ → List ℕ → ℕ → Result X Refusal → Type 0
Appended bytes room byte bytes' room' (Ok _) = (length bytes < room) × (bytes' ≡ bytes ++ byte ∷ []) × (room' ≡ room)
Appended bytes room byte bytes' room' (Err refusal) = (length bytes ≡ room) × (refusal ≡ Full) × (bytes' ≡ bytes) × (room' ≡ room)

-- one byte of the memory is written, or none
abbrev pub Wrote : {X : Type 0} → List ℕ → ℕ → ℕ → List ℕ → Result X Refusal → Type 0
Wrote memory place byte memory' (Ok _) = memory' ≡ slice_set memory place byte
Wrote memory place byte memory' (Err _) = memory' ≡ memory
