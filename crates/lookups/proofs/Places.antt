-- Numbers of a store at places that are computed, and places that do not run over. Assumes nothing.
use Rattle.std.proofs.Common.{◌≡◌, ℕ, ◌+◌, ◌-◌, ◌^◌, ◌≤◌, min, List, length, take, drop, subst, arith}
use Rattle.outputs.specs.Bits.{spread, value}
use Rattle.outputs.specs.Kinds.{Kind}
use Rattle.outputs.specs.TextLaws.{length_spread}
use Rattle.images.specs.Loads.{keys_at}
use Rattle.loading.specs.Index.{There}

-- a place in front of bits that are there does not run over
pub place_on : (bytes : List ℕ) (p n r : ℕ) → length bytes ≤ 16777216 → p + n ≤ length (spread bytes) → r ≡ min (p + n) (2 ^ 64 - 1) → r ≡ p + n
place_on bytes p n r short h e = omega (arith, e, length_spread bytes)

-- the number in a field that is there, by an equal store and an equal place
pub number_at : {S : Type 0} (bytes : S → List ℕ) (s t : S) (w p p' r : ℕ) → s ≡ t → p' ≡ p → p + w ≤ length (spread (bytes t)) → (p' + w ≤ length (spread (bytes s)) → r ≡ value (take w (drop p' (spread (bytes s)))))
    → r ≡ value (take w (drop p (spread (bytes t))))
number_at {S} bytes s t w p p' r e f h is =
    let g : p + w ≤ length (spread (bytes t)) → r ≡ value (take w (drop p (spread (bytes t))))
    = subst (λ (z : S). p + w ≤ length (spread (bytes z)) → r ≡ value (take w (drop p (spread (bytes z))))) e (subst (λ (n : ℕ). n + w ≤ length (spread (bytes s)) → r ≡ value (take w (drop n (spread (bytes s))))) f is) in
    g h

-- the key count of a state, by an equal store and an equal index
pub keys_by : {S : Type 0} (k : Kind) (bytes : S → List ℕ) (s t : S) (i j q r : ℕ) → s ≡ t → i ≡ j → (There k (spread (bytes s)) i q → r ≡ keys_at k (spread (bytes s)) i q) → There k (spread (bytes t)) j q → r ≡ keys_at k (spread (bytes t)) j q
keys_by {S} k bytes s t i j q r e f is =
    subst (λ (z : S). There k (spread (bytes z)) j q → r ≡ keys_at k (spread (bytes z)) j q) e (subst (λ (n : ℕ). There k (spread (bytes s)) n q → r ≡ keys_at k (spread (bytes s)) n q) f is)
