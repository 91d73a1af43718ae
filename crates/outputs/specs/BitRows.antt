-- A number and its bits at a width: both round trips, and reading a field. Assumes nothing.
use Rattle.std.specs.Prelude.{◌≡◌, ℕ, zero, suc, ◌+◌, ◌-◌, ◌*◌, ◌/◌, ◌%◌, ◌^◌, ◌<◌, ◌≤◌, Bool, true, false, cond, List, [], ◌∷◌, ◌++◌, length, take, drop, replicate, ◌==◌, ◌≢◌, nat_lt, refl}
use Rattle.std.proofs.Common.{sym, ap, ap₂, subst, ◌∙◌, append-nil, add-suc, suc-add, zero-add, add-zero, arith, lit<, length-append, take-append-drop, length-take-le, take_at, drop_at, eqb-true, eq-eqb, ne_eqb, le-ltb, ltb-true, ltb-false, lt-ltb}
use Rattle.std.proofs.Math.Nat.{pow-succ'}
use Rattle.std.proofs.lemmas.Bool.{cond-false, eqb-false}
use Rattle.std.proofs.lemmas.List.{length-replicate}
use Rattle.outputs.specs.Bits.{bits, bits_before, bit, value, value_on}
use Rattle.outputs.specs.Kinds.{got, begun, no_code, read_field}

pub bits_before_append : (w n : ℕ) (s t : List Bool) → bits_before w n (s ++ t) ≡ bits_before w n s ++ t
bits_before_append zero n s t = refl
bits_before_append (suc w) n s t = bits_before_append w (n / 2) ((n % 2 == 1) ∷ s) t

pub length_bits_before : (w n : ℕ) (t : List Bool) → length (bits_before w n t) ≡ w + length t
length_bits_before zero n t = sym (zero-add (length t))
length_bits_before (suc w) n t = length_bits_before w (n / 2) ((n % 2 == 1) ∷ t) ∙ omega arith

pub length_bits : (w n : ℕ) → length (bits w n) ≡ w
unfolding bits
length_bits w n = length_bits_before w n [] ∙ add-zero w

pub no_bits : (x : ℕ) → bits 0 x ≡ []
unfolding bits
no_bits x = refl

-- the lowest bit
odd_bit : (n : ℕ) → 2 * (n / 2) + bit (n % 2 == 1) ≡ n
odd_bit n = go (n % 2 == 1) refl
  where
    go : (b : Bool) → (n % 2 == 1) ≡ b → 2 * (n / 2) + bit b ≡ n
    go true e = omega (arith, eqb-true (n % 2) 1 e)
    go false e = omega (arith, eqb-false (n % 2) 1 e)

bit_odd : (a : ℕ) (b : Bool) → ((2 * a + bit b) % 2 == 1) ≡ b
bit_odd a true = eq-eqb ((2 * a + 1) % 2) 1 (omega arith)
bit_odd a false = ne_eqb ((2 * a + 0) % 2) 1 (omega arith)

bit_half : (a : ℕ) (b : Bool) → (2 * a + bit b) / 2 ≡ a
bit_half a true = omega arith
bit_half a false = omega arith

pub value_bits_before : (w n : ℕ) (t : List Bool) → n < 2 ^ w → value (bits_before w n t) ≡ value_on n t
value_bits_before zero n t h = ap (λ m. value_on m t) (omega arith)
value_bits_before (suc w) n t h =
    value_bits_before w (n / 2) ((n % 2 == 1) ∷ t) (omega (arith, pow-succ' 2 w)) ∙ ap (λ m. value_on m t) (odd_bit n)

pub value_bits : (w n : ℕ) → n < 2 ^ w → value (bits w n) ≡ n
unfolding bits
value_bits w n h = value_bits_before w n [] h

pub bits_value_before : (bs : List Bool) (j a : ℕ) (t : List Bool) → bits_before (j + length bs) (value_on a bs) t ≡ bits_before j a (bs ++ t)
bits_value_before [] j a t = ap (λ w. bits_before w a t) (add-zero j)
bits_value_before (b ∷ bs) j a t =
    ap (λ w. bits_before w (value_on (2 * a + bit b) bs) t) (add-suc j (length bs) ∙ sym (suc-add j (length bs)))
    ∙ bits_value_before bs (suc j) (2 * a + bit b) t
    ∙ ap₂ (λ half low. bits_before j half (low ∷ (bs ++ t))) (bit_half a b) (bit_odd a b)

pub bits_value : (bs : List Bool) → bits (length bs) (value bs) ≡ bs
unfolding bits
bits_value bs = ap (λ w. bits w (value bs)) (sym (zero-add (length bs))) ∙ bits_value_before bs 0 0 [] ∙ append-nil bs

pub value_on_below : (bs : List Bool) (j a : ℕ) → a < 2 ^ j → value_on a bs < 2 ^ (j + length bs)
value_on_below [] j a h = rw add-zero h
value_on_below (b ∷ bs) j a h =
    rw (add-suc, ← suc-add) (value_on_below bs (suc j) (2 * a + bit b) (next b))
  where
    next : (b : Bool) → 2 * a + bit b < 2 ^ suc j
    next true = omega (arith, pow-succ' 2 j)
    next false = omega (arith, pow-succ' 2 j)

pub value_below : (bs : List Bool) → value bs < 2 ^ length bs
value_below bs = rw zero-add at (value_on_below bs 0 0 (lit< tt))

-- reading a field of w bits, for any w
pub field_code : (w x : ℕ) → nat_lt x (2 ^ w) ≡ true → (more : List Bool) → read_field w (bits w x ++ more) ≡ got x more
unfolding bits
field_code w x s more =
    let long : w ≤ length (bits w x ++ more) = omega (arith, length-append (bits w x) more, length_bits w x) in
    cond-false (nat_lt (length (bits w x ++ more)) w) begun _ (le-ltb _ w long)
    ∙ ap₂ got
    (ap value (take_at (bits w x) more w (length_bits w x)) ∙ value_bits w x (ltb-true x (2 ^ w) s))
    (drop_at (bits w x) more w (length_bits w x))

pub field_got : (w : ℕ) (bs : List Bool) (x : ℕ) (more : List Bool) → read_field w bs ≡ got x more → (nat_lt x (2 ^ w) ≡ true) × (bs ≡ bits w x ++ more)
field_got w bs x more = go (nat_lt (length bs) w) refl
  where
    go : (b : Bool) → nat_lt (length bs) w ≡ b → cond b begun (got (value (take w bs)) (drop w bs)) ≡ got x more → (nat_lt x (2 ^ w) ≡ true) × (bs ≡ bits w x ++ more)
    go true e r = let z : ◌≡◌ {A = ℕ} 0 1 = cc in absurd (omega arith)
    go false e r =
        let l : length (take w bs) ≡ w = length-take-le w bs (ltb-false (length bs) w e) in
        let ex : value (take w bs) ≡ x = cc in
        let em : drop w bs ≡ more = cc in (
          lt-ltb x (2 ^ w) (subst (λ n. x < 2 ^ n) l (subst (λ y. y < 2 ^ length (take w bs)) ex (value_below (take w bs)))),
          sym (take-append-drop w bs) ∙ ap₂ ◌++◌ (sym (bits_value (take w bs)) ∙ ap₂ bits l ex) em,
        )

pub field_begun : (w : ℕ) (bs : List Bool) → read_field w bs ≡ begun → (x : ℕ) × (nat_lt x (2 ^ w) ≡ true) × ((more : List Bool) × (bs ++ more ≡ bits w x))
field_begun w bs = go (nat_lt (length bs) w) refl
  where
    go : (b : Bool) → nat_lt (length bs) w ≡ b → cond b begun (got (value (take w bs)) (drop w bs)) ≡ begun → (x : ℕ) × (nat_lt x (2 ^ w) ≡ true) × ((more : List Bool) × (bs ++ more ≡ bits w x))
    go true e r =
        let more : List Bool = replicate (w - length bs) false in
        let l : length (bs ++ more) ≡ w = length-append bs more ∙ ap (λ n. length bs + n) (length-replicate (w - length bs) false) ∙ omega (arith, ltb-true (length bs) w e) in (
          value (bs ++ more),
          lt-ltb (value (bs ++ more)) (2 ^ w) (subst (λ n. value (bs ++ more) < 2 ^ n) l (value_below (bs ++ more))),
          (more, sym (bits_value (bs ++ more)) ∙ ap (λ n. bits n (value (bs ++ more))) l),
        )
    go false e r = let z : ◌≡◌ {A = ℕ} 0 1 = cc in absurd (omega arith)

pub field_not_no : (w : ℕ) (bs : List Bool) → read_field w bs ≢ no_code
field_not_no w bs = go (nat_lt (length bs) w)
  where
    go : (b : Bool) → cond b begun (got (value (take w bs)) (drop w bs)) ≢ no_code
    go true r = let z : ◌≡◌ {A = ℕ} 0 1 = cc in omega arith
    go false r = let z : ◌≡◌ {A = ℕ} 0 1 = cc in omega arith
