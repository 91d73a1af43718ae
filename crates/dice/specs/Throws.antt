-- Marsaglia's shift register of 64 bits, with the shifts 13, 7 and 17.
use Rattle.std.specs.Prelude.{ℕ, ◌*◌, ◌/◌, ◌%◌, ◌^◌, bit_xor}

-- A number of 64 bits, each bit joined by exclusive or with the one that stands so many places below it.
abbrev pub joined_below : ℕ → ℕ → ℕ
joined_below places n = bit_xor n (n * 2 ^ places % 2 ^ 64)

-- The same with the bit that stands so many places above it.
abbrev pub joined_above : ℕ → ℕ → ℕ
joined_above places n = bit_xor n (n / 2 ^ places)

-- The number that is thrown after another.
abbrev pub next : ℕ → ℕ
next n = joined_below 17 (joined_above 7 (joined_below 13 n))
