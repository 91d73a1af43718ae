-- The lowest bits of a number, parted and joined, and the bytes that they make. Assumes nothing.
use Rattle.std.proofs.Common.{◌≡◌, ℕ, zero, suc, ◌+◌, ◌-◌, ◌*◌, ◌/◌, ◌%◌, ◌^◌, ◌<◌, ◌≤◌, Bool, eqb, List, [], ◌∷◌, ◌++◌, length, take, drop, sym, refl, ap, ◌∙◌, append_assoc, add-zero, add-suc, arith}
use Rattle.std.proofs.lemmas.List.{append-nil, take_at, drop_at}
use Rattle.std.proofs.lemmas.Nat.{pow_pos, shr-shr, shr_high, mod_low, field_of, mod-pow-add, mod_below}
use Rattle.outputs.specs.Bits.{bits, value}
use Rattle.outputs.specs.BitRows.{bits_before_append, length_bits, no_bits, value_bits}

-- one bit more at the low end
bits_suc : (n v : ℕ) → bits (suc n) v ≡ bits n (v / 2) ++ eqb (v % 2) 1 ∷ []
unfolding bits
bits_suc n v = bits_before_append n (v / 2) [] (eqb (v % 2) 1 ∷ [])

pub bits_parts : (m n v : ℕ) → bits (m + n) v ≡ bits m (v / 2 ^ n) ++ bits n v
bits_parts m zero v =
    let e : v / 1 ≡ v = omega arith in
    ap (λ (z : ℕ). bits z v) (add-zero m) ∙ sym (append-nil (bits m v)) ∙ ap (λ (z : List Bool). bits m v ++ z) (sym (no_bits v)) ∙ ap (λ (z : ℕ). bits m z ++ bits 0 v) (sym e)
bits_parts m (suc n) v =
    let low : List Bool = eqb (v % 2) 1 ∷ [] in
    let s : suc n ≡ 1 + n = omega arith in
    let e : v / 2 / 2 ^ n ≡ v / 2 ^ suc n = shr-shr v 1 n ∙ ap (λ (z : ℕ). v / 2 ^ z) (sym s) in
    ap (λ (z : ℕ). bits z v) (add-suc m n) ∙ bits_suc (m + n) v
    ∙ ap (λ (z : List Bool). z ++ low) (bits_parts m n (v / 2)) ∙ append_assoc (bits m (v / 2 / 2 ^ n)) (bits n (v / 2)) low
    ∙ ap (λ (z : ℕ). bits m z ++ (bits n (v / 2) ++ low)) e ∙ ap (λ (z : List Bool). bits m (v / 2 ^ suc n) ++ z) (sym (bits_suc n v))

-- only the lowest bits count
pub bits_low : (k n v : ℕ) → k ≤ n → bits k (v % 2 ^ n) ≡ bits k v
bits_low zero n v h = no_bits (v % 2 ^ n) ∙ sym (no_bits v)
bits_low (suc k) zero v h = absurd (omega arith)
bits_low (suc k) (suc n) v h =
    let s : suc n ≡ n + 1 = omega arith in
    let half : v % 2 ^ suc n / 2 ≡ v / 2 % 2 ^ n = ap (λ (z : ℕ). v % 2 ^ z / 2) s ∙ field_of v n 1 in
    let odd : v % 2 ^ suc n % 2 ≡ v % 2 = ap (λ (z : ℕ). v % 2 ^ z % 2) s ∙ omega (arith, mod-pow-add v n 1) in
    bits_suc k (v % 2 ^ suc n)
    ∙ ap (λ (z : ℕ). bits k z ++ eqb (v % 2 ^ suc n % 2) 1 ∷ []) half
    ∙ ap (λ (z : ℕ). bits k (v / 2 % 2 ^ n) ++ eqb z 1 ∷ []) odd
    ∙ ap (λ (z : List Bool). z ++ eqb (v % 2) 1 ∷ []) (bits_low k n (v / 2) (omega arith))
    ∙ sym (bits_suc k v)

pub value_low : (w v : ℕ) → value (bits w v) ≡ v % 2 ^ w
value_low w v = ap value (sym (bits_low w w v (omega arith))) ∙ value_bits w (v % 2 ^ w) (mod_below v (2 ^ w) (pow_pos w))

-- a number's bits behind those of another
pub bits_joined : (f w p v row : ℕ) → row ≡ p * 2 ^ w + v % 2 ^ w → bits (f + w) row ≡ bits f p ++ bits w v
bits_joined f w p v row e =
    let low : v % 2 ^ w < 2 ^ w = mod_below v (2 ^ w) (pow_pos w) in
    let high : row / 2 ^ w ≡ p = ap (λ (z : ℕ). z / 2 ^ w) e ∙ shr_high p w (v % 2 ^ w) low in
    let rest : row % 2 ^ w ≡ v % 2 ^ w = ap (λ (z : ℕ). z % 2 ^ w) e ∙ mod_low p w (v % 2 ^ w) low in
    bits_parts f w row ∙ ap (λ (z : ℕ). bits f z ++ bits w row) high
    ∙ ap (λ (z : List Bool). bits f p ++ z) (sym (bits_low w w row (omega arith)) ∙ ap (bits w) rest ∙ bits_low w w v (omega arith))

-- eight bits of a row, as the byte that a shift gives
pub byte_of : (count i row : ℕ) → 8 * i + 8 ≤ count → value (take 8 (drop (8 * i) (bits count row))) ≡ row / 2 ^ (count - 8 * i - 8) % 256
byte_of count i row h =
    let s : ℕ = count - 8 * i - 8 in
    let e : count ≡ 8 * i + (8 + s) = omega arith in
    let front : List Bool = bits (8 * i) (row / 2 ^ (8 + s)) in
    let d : drop (8 * i) (bits count row) ≡ bits (8 + s) row =
    ap (λ (z : ℕ). drop (8 * i) (bits z row)) e ∙ ap (drop (8 * i)) (bits_parts (8 * i) (8 + s) row)
    ∙ drop_at front (bits (8 + s) row) (8 * i) (length_bits (8 * i) (row / 2 ^ (8 + s))) in
    let t : take 8 (bits (8 + s) row) ≡ bits 8 (row / 2 ^ s) =
    ap (take 8) (bits_parts 8 s row) ∙ take_at (bits 8 (row / 2 ^ s)) (bits s row) 8 (length_bits 8 (row / 2 ^ s)) in
    ap (λ (z : List Bool). value (take 8 z)) d ∙ ap value t ∙ value_low 8 (row / 2 ^ s)

-- the bits behind the whole bytes of a row are its lowest ones
pub left_of : (n row : ℕ) → drop (8 * (length (bits n row) / 8)) (bits n row) ≡ bits (n % 8) row
left_of n row =
    let k : ℕ = n / 8 in
    let e : n ≡ 8 * k + n % 8 = omega arith in
    ap (λ (z : ℕ). drop (8 * (z / 8)) (bits n row)) (length_bits n row) ∙ ap (λ (z : ℕ). drop (8 * k) (bits z row)) e
    ∙ ap (drop (8 * k)) (bits_parts (8 * k) (n % 8) row) ∙ drop_at (bits (8 * k) (row / 2 ^ (n % 8))) (bits (n % 8) row) (8 * k) (length_bits (8 * k) (row / 2 ^ (n % 8)))
