-- What a store says of a field of bits that runs past its end. Assumes nothing.
use Rattle.std.specs.Prelude.{◌≡◌, ℕ, ◌+◌, ◌/◌, ◌%◌, ◌^◌, ◌<◌, ◌≤◌, max, Bool, List, length, take, drop, Ok, Err, Result}
use Rattle.outputs.specs.Bits.{value, spread}
use Rattle.outputs.specs.Fields.{Field}
use Rattle.stores.specs.declared.Refusal.{Refusal}
use Rattle.stores.specs.declared.Refusal.TheVariants.{Missing}
use Rattle.fields.specs.declared.reading.Cut.{Cut}
use Rattle.fields.specs.declared.reading.Window.{Window}

-- the refusal of the first byte of the field that is not there
abbrev pub missing : ℕ → List ℕ → Refusal
missing place bytes = Missing (max (place / 8) (length bytes))

-- the same, with the place of the field
abbrev pub cut_at : ℕ → List ℕ → Cut
cut_at place bytes = record { place = place; refusal = missing place bytes }

-- so many bytes from a first one on, as one number
abbrev pub Gathered : List ℕ → ℕ → ℕ → Result ℕ Refusal → Type 0
Gathered bytes first count (Ok v) = (first + count ≤ max first (length bytes)) × (v ≡ value (spread (take count (drop first bytes))))
Gathered bytes first count (Err refusal) = (length bytes < first + count) × (refusal ≡ Missing (max first (length bytes)))

-- a window on a field: a shift and a remainder give its number
abbrev pub Windowed : List Bool → ℕ → ℕ → Refusal → Result Window Refusal → Type 0
Windowed all place width short (Ok w) =
    (w.spare < 64) × (0 < w.size) × (w.row / 2 ^ w.spare % w.size < 2 ^ 32) × Field all place width short (Ok (w.row / 2 ^ w.spare % w.size))
Windowed all place width short (Err refusal) = Field {E = Refusal} all place width short (Err refusal)
