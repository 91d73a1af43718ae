-- Kind 2: byte strings, joined by concatenation; those of up to 24 bytes are storable. Assumes nothing.
use Rattle.std.specs.Prelude.{ℕ, zero, suc, ◌-◌, Bool, true, false, cond, ◌&&◌, List, [], ◌∷◌, ◌++◌, length, replicate, ◌==◌, nat_le, nat_lt}
use Rattle.outputs.specs.Bits.{bits, value, spread}
use Rattle.outputs.specs.Kinds.{Kind, Reading, got, begun, no_code, and_then, read_field}

-- the longest common prefix
abbrev pub shared : List ℕ → List ℕ → List ℕ
shared [] y = []
shared (a ∷ x) [] = []
shared (a ∷ x) (b ∷ y) = cond (a == b) (a ∷ shared x y) []

-- what follows x in z, and nothing if z does not begin with x
abbrev pub after : List ℕ → List ℕ → List ℕ
after [] z = z
after (a ∷ x) [] = []
after (a ∷ x) (b ∷ z) = cond (a == b) (after x z) []

abbrev pub all_bytes : List ℕ → Bool
all_bytes [] = true
all_bytes (a ∷ x) = nat_lt a 256 && all_bytes x

-- the most bytes of a storable text
abbrev pub longest : ℕ
longest = 24

-- a field of `width` bits that holds a number of at most `most`; fewer bits begin one if zeros behind them make one
abbrev pub read_upto : ℕ → ℕ → List Bool → Reading ℕ
read_upto width most row = elim (read_field width row) [
  | got n more ↦ cond (nat_le n most) (got n more) no_code
  | begun ↦ cond (nat_le (value (row ++ replicate (width - length row) false)) most) begun no_code
  | no_code ↦ no_code
]

-- so many bytes
abbrev pub read_bytes : ℕ → List Bool → Reading (List ℕ)
read_bytes zero row = got [] row
read_bytes (suc n) row = and_then (read_field 8 row) (λ a more. and_then (read_bytes n more) (λ x more'. got (a ∷ x) more'))

-- a length of 5 bits, at most 24, then that many bytes
abbrev pub read_text : List Bool → Reading (List ℕ)
read_text row = and_then (read_upto 5 longest row) (λ n more. and_then (read_bytes n more) (λ x more'. got x more'))

abbrev pub texts : Kind
texts = record {
  Ideal = List ℕ;
  empty = [];
  join = λ x y. x ++ y;
  common = shared;
  rest = after;
  storable = λ x. nat_le (length x) longest && all_bytes x;
  code = λ x. bits 5 (length x) ++ spread x;
  read = read_text;
  number = 2;
}
