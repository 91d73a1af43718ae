-- The number that a row of bits writes, bit by bit. Assumes nothing.
use Rattle.std.proofs.Common.{◌≡◌, ℕ, ◌+◌, ◌*◌, ◌^◌, ◌<◌, ◌≤◌, Bool, true, false, List, [], ◌∷◌, ◌++◌, length, get_or, take, refl, ap, ◌∙◌, add-one, arith, pow_mono}
use native.Mathlib.Nat.{pow-succ'}
use Rattle.std.proofs.lemmas.List.{take_more}
use mir.Val.{bool_byte}
use Rattle.outputs.specs.Bits.{bit, value, value_on}

pub value_on_last : (n : ℕ) (xs : List Bool) (b : Bool) → value_on n (xs ++ b ∷ []) ≡ 2 * value_on n xs + bit b
value_on_last n [] b = refl
value_on_last n (x ∷ xs) b = value_on_last (2 * n + bit x) xs b

pub value_more : (row : List Bool) (i : ℕ) → i < length row → value (take (i + 1) row) ≡ 2 * value (take i row) + bit (get_or row i false)
value_more row i h = ap value (take_more row i false h) ∙ value_on_last 0 (take i row) (get_or row i false)

-- one more bit still fits 32
pub one_more_fits : (n i : ℕ) → n < 2 ^ i → i < 32 → 2 * n + 1 < 2 ^ 32
one_more_fits n i h k = let p : 2 ^ i ≤ 2 ^ 31 = pow_mono {i = i} {j = 31} (omega arith) in omega (arith, p)

-- a number of i bits and one more bit are a number of i + 1 bits
pub one_more_below : (n i : ℕ) (b : Bool) → n < 2 ^ i → 2 * n + bit b < 2 ^ (i + 1)
one_more_below n i true h = omega (arith, pow-succ' 2 i, ap (λ k. 2 ^ k) (add-one i))
one_more_below n i false h = omega (arith, pow-succ' 2 i, ap (λ k. 2 ^ k) (add-one i))

-- a bit as a number
pub bit_of : (b : Bool) → bool_byte b ≡ bit b
bit_of true = refl
bit_of false = refl

pub bit_small : (b : Bool) → bit b ≤ 1
bit_small true = omega arith
bit_small false = omega arith
