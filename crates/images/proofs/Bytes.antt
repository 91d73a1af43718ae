-- What packing makes is bytes; packed bytes come back from their bits; whole bytes are packed by themselves. Assumes nothing.
use Rattle.std.proofs.Common.{◌≡◌, ℕ, zero, suc, ◌+◌, ◌*◌, ◌%◌, ◌^◌, ◌<◌, Bool, true, false, cond, eqb, List, [], ◌∷◌, ◌++◌, length, sym, refl, ap, ◌∙◌, subst, ap₂, mul-lt-mul_of_pos_right, arith, lit<, pow_pos, pow-add, eq-eqb}
use native.Mathlib.Nat.{pow-succ'}
use Rattle.std.proofs.lemmas.Bool.{cond-true}
use Rattle.outputs.specs.Bits.{bits, bit, value, value_on, spread, bytes_from, packed}
use Rattle.outputs.specs.BitRows.{length_bits, value_bits}
use Rattle.machines.specs.Lists.{Each}
use Rattle.images.specs.Packings.{Packing}
use Rattle.images.proofs.Packing.{spread_packed, length_packed}

-- a number below x, with a bit behind it
next_below : (x m : ℕ) (b : Bool) → x < m → 2 * x + bit b < 2 * m
next_below x m true h = omega arith
next_below x m false h = omega arith

-- a begun byte of w bits, which wants j more, becomes a byte
begun_bytes : (row : List Bool) (w j x : ℕ) → w + j ≡ 8 → 0 < j → x < 2 ^ w → Each (λ byte. byte < 256) (bytes_from x j row)
begun_bytes row w zero x e h f = absurd (omega arith)
begun_bytes [] w (suc zero) x e h f =
    let seven : w ≡ 7 = omega arith in
    let low : x < 2 ^ 7 = subst (λ n. x < 2 ^ n) seven f in
    (omega arith, tt)
begun_bytes (b ∷ row) w (suc zero) x e h f =
    let seven : w ≡ 7 = omega arith in
    let low : x < 2 ^ 7 = subst (λ n. x < 2 ^ n) seven f in
    (next_below x 128 b low, begun_bytes row 0 8 0 refl (omega arith) (lit< tt))
begun_bytes [] w (suc (suc n)) x e h f = go (eqb n 6)
  where
    go : (t : Bool) → Each (λ byte. byte < 256) (cond {A = List ℕ} t [] (x * 2 ^ suc (suc n) ∷ []))
    go true = tt
    go false = (subst (λ m. x * 2 ^ suc (suc n) < m) (sym (pow-add 2 w (suc (suc n))) ∙ ap (λ m. 2 ^ m) e) (mul-lt-mul_of_pos_right f (pow_pos (suc (suc n)))), tt)
begun_bytes (b ∷ row) w (suc (suc n)) x e h f =
    begun_bytes row (suc w) (suc n) (2 * x + bit b) (omega arith) (omega arith) (subst (λ m. 2 * x + bit b < m) (sym (pow-succ' 2 w)) (next_below x (2 ^ w) b f))

pub packed_bytes : (row : List Bool) → Each (λ byte. byte < 256) (packed row)
packed_bytes row = begun_bytes row 0 8 0 refl (omega arith) (lit< tt)

-- j bits end a begun byte that wants as many
ended : (bs more : List Bool) (x j : ℕ) → length bs ≡ suc j → bytes_from x (suc j) (bs ++ more) ≡ value_on x bs ∷ packed more
ended [] more x j e = absurd (omega arith)
ended (b ∷ []) more x zero e = refl
ended (b ∷ c ∷ bs) more x zero e = absurd (omega arith)
ended (b ∷ bs) more x (suc j) e = ended bs more (2 * x + bit b) j (omega arith)

-- eight bits are packed by themselves
one_byte : (bs more : List Bool) → length bs ≡ 8 → packed (bs ++ more) ≡ value bs ∷ packed more
one_byte bs more e = ended bs more 0 7 e

pub packed_spread : (bytes : List ℕ) → Each (λ byte. byte < 256) bytes → packed (spread bytes) ≡ bytes
packed_spread [] h = refl
packed_spread (x ∷ xs) h =
    one_byte (bits 8 x) (spread xs) (length_bits 8 x)
    ∙ ap₂ {C = List ℕ} (λ y l. y ∷ l) (value_bits 8 x h.0) (packed_spread xs h.1)

-- a row that ends a begun byte of w bits, which wants j more, is packed without what follows
begun_append : (row more : List Bool) (w j x : ℕ) → w + j ≡ 8 → 0 < j → x < 2 ^ w → (w + length row) % 8 ≡ 0 → bytes_from x j (row ++ more) ≡ bytes_from x j row ++ packed more
begun_append row more w zero x e h f whole = absurd (omega arith)
begun_append [] more w (suc zero) x e h f whole = absurd (omega arith)
begun_append (b ∷ row) more w (suc zero) x e h f whole =
    ap {B = List ℕ} (λ l. (2 * x + bit b) ∷ l) (begun_append row more 0 8 0 refl (omega arith) (lit< tt) (omega arith))
begun_append [] more w (suc (suc n)) x e h f whole =
    let six : n ≡ 6 = omega arith in
    let none_yet : w ≡ 0 = omega arith in
    let low : x < 2 ^ 0 = subst (λ m. x < 2 ^ m) none_yet f in
    ap₂ {C = List ℕ} (λ y m. bytes_from y (suc (suc m)) more) (omega arith) six
    ∙ ap (λ l. l ++ packed more) (sym (cond-true (eqb n 6) [] (x * 2 ^ suc (suc n) ∷ []) (eq-eqb n 6 six)))
begun_append (b ∷ row) more w (suc (suc n)) x e h f whole =
    begun_append row more (suc w) (suc n) (2 * x + bit b) (omega arith) (omega arith) (subst (λ m. 2 * x + bit b < m) (sym (pow-succ' 2 w)) (next_below x (2 ^ w) b f)) (omega arith)

pub packed_append : (row more : List Bool) → length row % 8 ≡ 0 → packed (row ++ more) ≡ packed row ++ packed more
packed_append row more whole = begun_append row more 0 8 0 refl (omega arith) (lit< tt) (omega arith)

pub packing : Packing
packing = record { spread_back = spread_packed; packed_back = packed_spread; all_bytes = packed_bytes; size = length_packed; in_turn = packed_append }
