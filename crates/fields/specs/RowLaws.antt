-- Whole bytes, and bits left over, of rows that are joined.
use Rattle.std.specs.Prelude.{◌≡◌, ℕ, zero, suc, ◌+◌, ◌*◌, ◌/◌, ◌%◌, ◌<◌, ◌≤◌, Bool, List, [], ◌∷◌, ◌++◌, length, take, drop, refl}
use Rattle.std.proofs.Common.{ap, sym, ◌∙◌, arith, length-append, length-drop}
use Rattle.std.proofs.lemmas.List.{take-append-le, drop-append-le, drop-drop}
use Rattle.outputs.specs.Bits.{value}
use Rattle.outputs.specs.TextReading.{octets}
use Rattle.fields.specs.Rows.{whole, left}

octets_front : (n : ℕ) (xs ys : List Bool) → 8 * n ≤ length xs → octets n (xs ++ ys) ≡ octets n xs
octets_front zero xs ys h = refl
octets_front (suc n) xs ys h =
    let a : 8 ≤ length xs = omega arith in
    ap (λ (z : List Bool). value z ∷ octets n (drop 8 (xs ++ ys))) (take-append-le 8 xs ys a)
    ∙ ap (λ (z : List Bool). value (take 8 xs) ∷ octets n z) (drop-append-le 8 xs ys a)
    ∙ ap (λ (z : List ℕ). value (take 8 xs) ∷ z) (octets_front n (drop 8 xs) ys (omega (arith, length-drop 8 xs)))

octets_add : (m n : ℕ) (row : List Bool) → octets (m + n) row ≡ octets m row ++ octets n (drop (8 * m) row)
octets_add zero n row = let e : 0 + n ≡ n = omega arith in ap (λ (z : ℕ). octets z row) e
octets_add (suc m) n row =
    let s : suc m + n ≡ suc (m + n) = omega arith in
    let d : 8 + 8 * m ≡ 8 * suc m = omega arith in
    ap (λ (z : ℕ). octets z row) s
    ∙ ap (λ (z : List ℕ). value (take 8 row) ∷ z) (octets_add m n (drop 8 row)
    ∙ ap (λ (z : List Bool). octets m (drop 8 row) ++ octets n z) (drop-drop (8 * m) 8 row ∙ ap (λ (z : ℕ). drop z row) d))

length_left : (row : List Bool) → length (left row) ≡ length row % 8
length_left row = length-drop (8 * (length row / 8)) row ∙ omega arith

left_joined : (xs ys : List Bool) → drop (8 * (length xs / 8)) (xs ++ ys) ≡ left xs ++ ys
left_joined xs ys = drop-append-le (8 * (length xs / 8)) xs ys (omega arith)

pub whole_append : (xs ys : List Bool) → whole (xs ++ ys) ≡ whole xs ++ whole (left xs ++ ys)
whole_append xs ys =
    let m : ℕ = length xs / 8 in
    let n : ℕ = length (left xs ++ ys) / 8 in
    let e : length (xs ++ ys) / 8 ≡ m + n = omega (arith, length-append xs ys, length-append (left xs) ys, length_left xs) in
    ap (λ (z : ℕ). octets z (xs ++ ys)) e ∙ octets_add m n (xs ++ ys)
    ∙ ap (λ (z : List ℕ). z ++ octets n (drop (8 * m) (xs ++ ys))) (octets_front m xs ys (omega arith))
    ∙ ap (λ (z : List Bool). octets m xs ++ octets n z) (left_joined xs ys)

pub left_append : (xs ys : List Bool) → left (xs ++ ys) ≡ left (left xs ++ ys)
left_append xs ys =
    let m : ℕ = length xs / 8 in
    let n : ℕ = length (left xs ++ ys) / 8 in
    let e : 8 * (length (xs ++ ys) / 8) ≡ 8 * m + 8 * n = omega (arith, length-append xs ys, length-append (left xs) ys, length_left xs) in
    ap (λ (z : ℕ). drop z (xs ++ ys)) e ∙ sym (drop-drop (8 * n) (8 * m) (xs ++ ys)) ∙ ap (drop (8 * n)) (left_joined xs ys)

-- fewer than eight bits make no byte
pub none_whole : (row : List Bool) → length row < 8 → whole row ≡ []
none_whole row h = let e : length row / 8 ≡ 0 = omega arith in ap (λ (z : ℕ). octets z row) e

pub all_left : (row : List Bool) → length row < 8 → left row ≡ row
all_left row h = let e : 8 * (length row / 8) ≡ 0 = omega arith in ap (λ (z : ℕ). drop z row) e
