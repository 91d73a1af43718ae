-- Numbers written with decimal digits.
use Rattle.std.specs.Prelude.{ℕ, ◌+◌, ◌-◌, ◌*◌, Bool, true, false, cond, List, [], ◌∷◌, nat_le}

-- Whether a byte is one of the digits 0 to 9.
abbrev pub is_digit : ℕ → Bool
is_digit byte = cond (nat_le 48 byte) (nat_le byte 57) false

-- Whether all bytes are digits.
abbrev pub all_digits : List ℕ → Bool
all_digits [] = true
all_digits (byte ∷ bytes) = cond (is_digit byte) (all_digits bytes) false

-- A number with one more digit behind it.
abbrev pub with_digit : ℕ → ℕ → ℕ
with_digit number byte = number * 10 + (byte - 48)

-- A number with more digits behind it.
abbrev pub with_digits : ℕ → List ℕ → ℕ
with_digits number [] = number
with_digits number (byte ∷ bytes) = with_digits (with_digit number byte) bytes
