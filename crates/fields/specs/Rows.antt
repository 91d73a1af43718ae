-- A row of bits as bytes: the whole ones, and the bits that are left over.
use Rattle.std.specs.Prelude.{ℕ, ◌*◌, ◌/◌, Bool, List, length, drop}
use Rattle.outputs.specs.TextReading.{octets}

-- the whole bytes that a row of bits makes
abbrev pub whole : List Bool → List ℕ
whole row = octets (length row / 8) row

-- the bits behind them, fewer than eight
abbrev pub left : List Bool → List Bool
left row = drop (8 * (length row / 8)) row
