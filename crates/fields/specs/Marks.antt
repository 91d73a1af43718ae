-- The mark at the start of an image, two bytes as one number. Assumes nothing.
use Rattle.std.specs.Prelude.{◌≡◌, ℕ, ◌+◌, ◌*◌, ◌<◌, ◌≤◌, Bool, List, length, take, drop, Ok, Err, Result, ◌==◌, slice_index}
use Rattle.outputs.specs.Bits.{bits, value}
use Rattle.outputs.specs.Joins.{Tells}
use Rattle.fields.specs.declared.reading.Cut.{Cut}

-- the letters TD
abbrev pub mark : ℕ
mark = 0x5444

-- the number of two bytes
abbrev pub pair_number : List ℕ → ℕ
pair_number pair = slice_index pair 0 * 256 + slice_index pair 1

-- whether the 16 bits at a place are those of a number, or that they are cut
abbrev pub Holds : ℕ → List Bool → ℕ → Cut → Result Bool Cut → Type 0
Holds number all place cut (Ok told) =
    (place + 16 ≤ length all) × (told ≡ (value (take 16 (drop place all)) == number)) × Tells (take 16 (drop place all)) (bits 16 number) told
Holds number all place cut (Err e) = (length all < place + 16) × (e ≡ cut)
