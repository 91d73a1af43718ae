-- What reading a field of bits answers. Assumes nothing.
use Rattle.std.specs.Prelude.{◌≡◌, ℕ, ◌+◌, ◌^◌, ◌<◌, ◌≤◌, min, max, Bool, List, length, take, drop, Ok, Err, Result}
use Rattle.outputs.specs.Bits.{value}

-- a field has 1 to 32 bits
abbrev pub field_width : ℕ → ℕ
field_width width = max 1 (min width 32)

-- `width` bits at a place: their number if they are all there, else what the source says. A source has fewer than 2 ^ 32 bits.
abbrev pub Field : {E : Type 0} → List Bool → ℕ → ℕ → E → Result ℕ E → Type 0
Field all place width short (Ok v) = (place + width ≤ length all) × (length all < 2 ^ 32) × (v ≡ value (take width (drop place all))) × (v < 2 ^ width)
Field all place width short (Err e) = (length all < place + width) × (e ≡ short)
