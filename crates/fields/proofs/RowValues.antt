-- The number of a row of bits, from the numbers of its parts. Assumes nothing.
use Rattle.std.proofs.Common.{◌≡◌, ℕ, suc, ◌+◌, ◌*◌, ◌/◌, ◌%◌, ◌^◌, ◌<◌, Bool, List, [], ◌∷◌, ◌++◌, length, take, drop, sym, ap, ◌∙◌, subst, mul_assoc, mul_comm, add-mul, arith, length-drop}
use native.Mathlib.Nat.{pow-succ'}
use Rattle.std.proofs.lemmas.List.{take-append-drop, length-take-le}
use Rattle.std.proofs.lemmas.Nat.{pow-add, shr_high, mod_low}
use Rattle.outputs.specs.Bits.{bit, value, value_on}
use Rattle.outputs.specs.BitRows.{value_below}
use Rattle.outputs.specs.TextLaws.{value_on_append}

value_on_weighs : (ys : List Bool) (n : ℕ) → value_on n ys ≡ n * 2 ^ length ys + value ys
value_on_weighs [] n = omega arith
value_on_weighs (y ∷ ys) n =
    let p : ℕ = 2 ^ length ys in
    let whole : value_on (2 * n + bit y) ys ≡ (2 * n + bit y) * p + value ys = value_on_weighs ys (2 * n + bit y) in
    let alone : value_on (2 * 0 + bit y) ys ≡ (2 * 0 + bit y) * p + value ys = value_on_weighs ys (2 * 0 + bit y) in
    let parts : (2 * n + bit y) * p ≡ 2 * n * p + bit y * p = add-mul (2 * n) (bit y) p in
    let part : (2 * 0 + bit y) * p ≡ 2 * 0 * p + bit y * p = add-mul (2 * 0) (bit y) p in
    let high : n * 2 ^ suc (length ys) ≡ 2 * n * p = ap (λ (z : ℕ). n * z) (pow-succ' 2 (length ys)) ∙ sym (mul_assoc n 2 p) ∙ ap (λ (z : ℕ). z * p) (mul_comm n 2) in
    omega arith

pub value_append : (xs ys : List Bool) → value (xs ++ ys) ≡ value xs * 2 ^ length ys + value ys
value_append xs ys = value_on_append 0 xs ys ∙ value_on_weighs ys (value xs)

-- a part of a row, by a shift and a remainder
pub value_part : (row : List Bool) (o w s : ℕ) → length row ≡ (o + w) + s → value (take w (drop o row)) ≡ (value row / 2 ^ s) % 2 ^ w
value_part row o w s e =
    let rest : List Bool = drop o row in
    let part : List Bool = take w rest in
    let spare : List Bool = drop w rest in
    let r : length rest ≡ w + s = length-drop o row ∙ omega arith in
    let c : length spare ≡ s = length-drop w rest ∙ omega arith in
    let b : length part ≡ w = length-take-le w rest (omega arith) in
    let high : ℕ = value (take o row) in
    let e1 : value row ≡ high * 2 ^ (w + s) + value rest = ap value (sym (take-append-drop o row)) ∙ value_append (take o row) rest ∙ ap (λ (z : ℕ). high * 2 ^ z + value rest) r in
    let e2 : value rest ≡ value part * 2 ^ s + value spare = ap value (sym (take-append-drop w rest)) ∙ value_append part spare ∙ ap (λ (z : ℕ). value part * 2 ^ z + value spare) c in
    let e3 : high * 2 ^ (w + s) ≡ high * 2 ^ w * 2 ^ s = ap (λ (z : ℕ). high * z) (pow-add 2 w s) ∙ sym (mul_assoc high (2 ^ w) (2 ^ s)) in
    let e4 : (high * 2 ^ w + value part) * 2 ^ s ≡ high * 2 ^ w * 2 ^ s + value part * 2 ^ s = add-mul (high * 2 ^ w) (value part) (2 ^ s) in
    let all : value row ≡ (high * 2 ^ w + value part) * 2 ^ s + value spare = omega arith in
    let low : value spare < 2 ^ s = subst (λ (z : ℕ). value spare < 2 ^ z) c (value_below spare) in
    let mid : value part < 2 ^ w = subst (λ (z : ℕ). value part < 2 ^ z) b (value_below part) in
    sym (ap (λ (z : ℕ). z / 2 ^ s % 2 ^ w) all ∙ ap (λ (z : ℕ). z % 2 ^ w) (shr_high (high * 2 ^ w + value part) s (value spare) low) ∙ mod_low high w (value part) mid)
