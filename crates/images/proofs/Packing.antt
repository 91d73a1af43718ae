-- Bytes of a row of bits spread to that row again, with zeros behind it up to a full byte; how many bytes they are. Assumes nothing.
use Rattle.std.proofs.Common.{◌≡◌, ℕ, zero, suc, ◌+◌, ◌*◌, ◌/◌, ◌%◌, ◌^◌, ◌<◌, Bool, true, false, cond, eqb, List, [], ◌∷◌, ◌++◌, length, replicate, sym, refl, ap, ◌∙◌, ap₂, append_assoc, append-nil, add-zero, add-suc, mul_assoc, mul_comm, zero-add, zero-mul, arith, length-append, eq-eqb, ne_eqb, eqb-true}
use native.Mathlib.Nat.{pow-succ'}
use lib.ListN.{length-replicate}
use borrow.Author.Tests.{eqb-false}
use Rattle.outputs.specs.Bits.{bits, bits_before, bit, spread, filling, bytes_from, packed}
use Rattle.outputs.specs.BitRows.{bits_before_append, no_bits}
use Rattle.outputs.specs.TextLaws.{length_spread}

-- one more bit behind those of a number
bits_step : (w x : ℕ) (b : Bool) → bits (suc w) (2 * x + bit b) ≡ bits w x ++ (b ∷ [])
unfolding bits
bits_step w x b =
    ap₂ {C = List Bool} (λ n l. bits_before w n l) (half b) (ap {B = List Bool} (λ c. c ∷ []) (odd b)) ∙ bits_before_append w x [] (b ∷ [])
  where
    half : (b : Bool) → (2 * x + bit b) / 2 ≡ x
    half true = omega arith
    half false = omega arith

    odd : (b : Bool) → eqb ((2 * x + bit b) % 2) 1 ≡ b
    odd true = eq-eqb _ 1 (omega arith)
    odd false = ne_eqb _ 1 (omega arith)

replicate_snoc : (n : ℕ) → replicate n false ++ (false ∷ []) ≡ replicate (suc n) false
replicate_snoc zero = refl
replicate_snoc (suc n) = ap {B = List Bool} (λ l. false ∷ l) (replicate_snoc n)

-- zeros behind the bits of a number
padded : (w j x : ℕ) → bits (w + j) (x * 2 ^ j) ≡ bits w x ++ replicate j false
padded w zero x = ap₂ {C = List Bool} bits (add-zero w) (omega arith) ∙ sym (append-nil (bits w x))
padded w (suc j) x =
    ap₂ {C = List Bool} bits (add-suc w j) (doubled x (2 ^ j) (2 ^ suc j) (pow-succ' 2 j)) ∙ bits_step (w + j) (x * 2 ^ j) false
    ∙ ap (λ l. l ++ (false ∷ [])) (padded w j x) ∙ append_assoc (bits w x) (replicate j false) (false ∷ []) ∙ ap (λ l. bits w x ++ l) (replicate_snoc j)
  where
    mul_two : (a b : ℕ) → a * (2 * b) ≡ 2 * (a * b)
    mul_two a b = sym (mul_assoc a 2 b) ∙ ap (λ c. c * b) (mul_comm a 2) ∙ mul_assoc 2 a b

    doubled : (a b c : ℕ) → c ≡ 2 * b → a * c ≡ 2 * (a * b) + bit false
    doubled a b c e = ap (λ n. a * n) e ∙ mul_two a b ∙ sym (add-zero (2 * (a * b)))

-- the bits of 0
pub zero_bits : (w : ℕ) → bits w 0 ≡ replicate w false
zero_bits w = ap₂ {C = List Bool} bits (sym (zero-add w)) (sym (zero-mul (2 ^ w))) ∙ padded 0 w 0 ∙ ap (λ l. l ++ replicate w false) (no_bits 0)

-- a begun byte of w bits, which wants j more
begun_spread : (row : List Bool) (w j x : ℕ) → w + j ≡ 8 → 0 < j → spread (bytes_from x j row) ≡ bits w x ++ (row ++ replicate (filling (w + length row)) false)
begun_spread row w zero x e h = absurd (omega arith)
begun_spread [] w (suc zero) x e h =
    let f : filling (w + 0) ≡ 1 = omega arith in
    append-nil (bits 8 (x * 2)) ∙ ap (λ n. bits n (x * 2)) (sym e) ∙ padded w 1 x ∙ ap (λ n. bits w x ++ replicate n false) (sym f)
begun_spread (b ∷ row) w (suc zero) x e h =
    let f : filling (0 + length row) ≡ filling (w + suc (length row)) = omega arith in
    ap₂ {C = List Bool} (λ l r. l ++ r)
    (ap (λ n. bits n (2 * x + bit b)) (omega arith) ∙ bits_step w x b)
    (begun_spread row 0 8 0 refl (omega arith) ∙ ap (λ l. l ++ (row ++ replicate (filling (0 + length row)) false)) (no_bits 0) ∙ ap (λ n. row ++ replicate n false) f)
    ∙ append_assoc (bits w x) (b ∷ []) (row ++ replicate (filling (w + suc (length row))) false)
begun_spread [] w (suc (suc n)) x e h = go (eqb n 6) refl
  where
    go : (t : Bool) → eqb n 6 ≡ t → spread (cond {A = List ℕ} t [] (x * 2 ^ suc (suc n) ∷ [])) ≡ bits w x ++ replicate (filling (w + 0)) false
    go true f =
        let z : filling (w + 0) ≡ 0 = omega (arith, eqb-true n 6 f) in
        sym (ap₂ {C = List Bool} (λ l k. l ++ replicate k false) (ap (λ m. bits m x) (omega (arith, eqb-true n 6 f)) ∙ no_bits x) z)
    go false f =
        let z : filling (w + 0) ≡ suc (suc n) = omega (arith, eqb-false n 6 f) in
        append-nil (bits 8 (x * 2 ^ suc (suc n))) ∙ ap (λ m. bits m (x * 2 ^ suc (suc n))) (sym e) ∙ padded w (suc (suc n)) x
        ∙ ap (λ m. bits w x ++ replicate m false) (sym z)
begun_spread (b ∷ row) w (suc (suc n)) x e h =
    let f : suc w + length row ≡ w + suc (length row) = omega arith in
    begun_spread row (suc w) (suc n) (2 * x + bit b) (omega arith) (omega arith)
    ∙ ap₂ {C = List Bool} (λ l m. l ++ (row ++ replicate (filling m) false)) (bits_step w x b) f
    ∙ append_assoc (bits w x) (b ∷ []) (row ++ replicate (filling (w + suc (length row))) false)

-- packing and spreading are inverse up to the filling
pub spread_packed : (row : List Bool) → spread (packed row) ≡ row ++ replicate (filling (length row)) false
spread_packed row =
    begun_spread row 0 8 0 refl (omega arith) ∙ ap (λ l. l ++ (row ++ replicate (filling (0 + length row)) false)) (no_bits 0)
    ∙ ap (λ n. row ++ replicate (filling n) false) (zero-add (length row))

-- the bits of packed bytes, counted: those of the row and the filling
pub packed_bits : (row : List Bool) → 8 * length (packed row) ≡ length row + filling (length row)
packed_bits row =
    sym (length_spread (packed row)) ∙ ap length (spread_packed row) ∙ length-append row (replicate (filling (length row)) false)
    ∙ ap (λ n. length row + n) (length-replicate (filling (length row)) false)

-- the bytes of a row, counted
pub length_packed : (row : List Bool) → length (packed row) ≡ (length row + 7) / 8
length_packed row = omega (arith, packed_bits row)
