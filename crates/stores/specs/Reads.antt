-- What a store that holds some bytes answers to a read.
use Rattle.std.specs.Prelude.{◌≡◌, ℕ, ◌<◌, ◌≤◌, List, length, Ok, Err, Result, slice_index}
use Rattle.stores.specs.declared.Refusal.{Refusal}
use Rattle.stores.specs.declared.Refusal.TheVariants.{Missing}

-- byte i, or the refusal that names i where there is none
abbrev pub At : List ℕ → ℕ → Result ℕ Refusal → Type 0
At bytes i (Ok byte) = (i < length bytes) × (byte ≡ slice_index bytes i)
At bytes i (Err refusal) = (length bytes ≤ i) × (refusal ≡ Missing i)
