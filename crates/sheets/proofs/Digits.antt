-- More digits never make a number less, and each digit is one step of the definition. Assumes nothing of the bytes.
use Rattle.std.proofs.Common.{◌≡◌, ℕ, ◌+◌, ◌<◌, ◌≤◌, Bool, true, false, cond, List, [], ◌∷◌, length, get_or, drop, sym, refl, ap, ◌∙◌, le_trans, le_refl, arith}
use Rattle.std.proofs.lemmas.List.{drop_more, drop_all}
use Rattle.sheets.specs.Decimals.{is_digit, all_digits, with_digit, with_digits}

more_digits : (number : ℕ) (bytes : List ℕ) → number ≤ with_digits number bytes
more_digits number [] = le_refl number
more_digits number (byte ∷ bytes) =
    let a : number ≤ with_digit number byte = omega arith in
    le_trans a (more_digits (with_digit number byte) bytes)

first_is_digit : (byte : ℕ) (bytes : List ℕ) → all_digits (byte ∷ bytes) ≡ true → is_digit byte ≡ true
first_is_digit byte bytes h =
    let go : (b : Bool) → cond b (all_digits bytes) false ≡ true → b ≡ true = λ b. elim b as (λ v. cond v (all_digits bytes) false ≡ true → v ≡ true) [ true ↦ λ e. refl | false ↦ λ e. e ] in
    go (is_digit byte) h

-- What is left to read at a place, and what was read so far.
pub record Reads (start : ℕ) (digits : List ℕ) (place number : ℕ) : Type 0 where
  pub rest : all_digits digits ≡ all_digits (drop place digits)
  pub whole : with_digits start digits ≡ with_digits number (drop place digits)

pub reads_more : (start : ℕ) (digits : List ℕ) (place number longer : ℕ)
    → place < length digits
    → Reads start digits place number
    → (is_digit (get_or digits place 0) ≡ true) × (longer ≡ with_digit number (get_or digits place 0))
    → Reads start digits (place + 1) longer
reads_more start digits place number longer l r h =
    let d : drop place digits ≡ get_or digits place 0 ∷ drop (place + 1) digits = drop_more digits place 0 l in
    record {
      rest = r.rest ∙ ap all_digits d ∙ ap (λ (b : Bool). cond b (all_digits (drop (place + 1) digits)) false) h.0;
      whole = r.whole ∙ ap (with_digits number) d ∙ ap (λ (n : ℕ). with_digits n (drop (place + 1) digits)) (sym h.1);
    }

-- Where one digit makes the number too long, so do all.
pub reads_too_much : (start : ℕ) (digits : List ℕ) (place number bound : ℕ)
    → place < length digits
    → Reads start digits place number
    → (is_digit (get_or digits place 0) ≡ true → bound ≤ with_digit number (get_or digits place 0))
    → all_digits digits ≡ true
    → bound ≤ with_digits start digits
reads_too_much start digits place number bound l r h all =
    let d : drop place digits ≡ get_or digits place 0 ∷ drop (place + 1) digits = drop_more digits place 0 l in
    let is : is_digit (get_or digits place 0) ≡ true = first_is_digit (get_or digits place 0) (drop (place + 1) digits) (sym (r.rest ∙ ap all_digits d) ∙ all) in
    let m : with_digit number (get_or digits place 0) ≤ with_digits (with_digit number (get_or digits place 0)) (drop (place + 1) digits) = more_digits (with_digit number (get_or digits place 0)) (drop (place + 1) digits) in
    let e : with_digits start digits ≡ with_digits (with_digit number (get_or digits place 0)) (drop (place + 1) digits) = r.whole ∙ ap (with_digits number) d in
    rw e (le_trans (h is) m)

pub reads_all : (start : ℕ) (digits : List ℕ) (place number : ℕ)
    → length digits ≤ place
    → Reads start digits place number
    → (all_digits digits ≡ true) × (number ≡ with_digits start digits)
reads_all start digits place number l r =
    let d : drop place digits ≡ [] = drop_all place digits l in
    (r.rest ∙ ap all_digits d, sym (r.whole ∙ ap (with_digits number) d))
