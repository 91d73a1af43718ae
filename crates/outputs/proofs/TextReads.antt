-- Reading a text in steps, its length and then its bytes, is reading a text. Assumes nothing.
use Rattle.std.proofs.Common.{◌≡◌, ℕ, zero, suc, ◌+◌, ◌*◌, ◌<◌, ◌≤◌, Bool, true, false, ltb, leb, ◌⊎◌, List, [], ◌∷◌, ◌++◌, length, take, drop, refl, ap, ◌∙◌, inl, inr, arith, length-append, length-drop, le-ltb, lt-ltb}
use Rattle.std.proofs.lemmas.Bool.{cond-true, cond-false, cases_lt}
use Rattle.std.proofs.lemmas.List.{drop-drop}
use Rattle.outputs.specs.Bits.{bits, value, spread}
use Rattle.outputs.specs.Kinds.{Reading, got, begun, and_then, read_field}
use Rattle.outputs.specs.Texts.{texts, read_upto, read_bytes, read_text, longest}
use Rattle.outputs.specs.TextReading.{octets, least_length}
use Rattle.outputs.specs.BitRows.{length_bits}
use Rattle.outputs.specs.TextLaws.{length_spread}

pub field_there : (w : ℕ) (row : List Bool) → w ≤ length row → read_field w row ≡ got (value (take w row)) (drop w row)
field_there w row h = cond-false (ltb (length row) w) begun _ (le-ltb _ w h)

pub field_cut : (w : ℕ) (row : List Bool) → length row < w → read_field w row ≡ begun
field_cut w row h = cond-true (ltb (length row) w) begun _ (lt-ltb _ w h)

-- so many bytes that are there
pub bytes_there : (n : ℕ) (row : List Bool) → 8 * n ≤ length row → read_bytes n row ≡ got (octets n row) (drop (8 * n) row)
bytes_there zero row h = refl
bytes_there (suc n) row h =
    let deep = bytes_there n (drop 8 row) (omega (arith, length-drop 8 row)) in
    ap (λ r. and_then r (λ a more. and_then (read_bytes n more) (λ x more'. got (a ∷ x) more'))) (field_there 8 row (omega arith))
    ∙ ap (λ r. and_then r (λ x more'. got (value (take 8 row) ∷ x) more')) deep
    ∙ ap (λ l. got (value (take 8 row) ∷ octets n (drop 8 row)) l) (drop-drop (8 * n) 8 row ∙ ap (λ m. drop m row) (omega arith))

abbrev behind : ℕ → ℕ → List Bool → Reading (List ℕ)
behind n a more = and_then (read_bytes n more) (λ x more'. got (a ∷ x) more')

-- so many bytes that run past the end
pub bytes_cut : (n : ℕ) (row : List Bool) → length row < 8 * n → read_bytes n row ≡ begun
bytes_cut zero row h = absurd (omega arith)
bytes_cut (suc n) row h = go (cases_lt (length row) 8) (bytes_cut n (drop 8 row))
  where
    go : (length row < 8) ⊎ (8 ≤ length row) → (length (drop 8 row) < 8 * n → read_bytes n (drop 8 row) ≡ begun) → and_then (read_field 8 row) (behind n) ≡ begun
    go (inl few) deep = ap (λ r. and_then r (behind n)) (field_cut 8 row few)
    go (inr there) deep =
        ap (λ r. and_then r (behind n)) (field_there 8 row there)
        ∙ ap (λ r. and_then r (λ x more'. got (value (take 8 row) ∷ x) more')) (deep (omega (arith, length-drop 8 row)))

-- one byte more at the end
pub octets_more : (i : ℕ) (row : List Bool) → octets (suc i) row ≡ octets i row ++ value (take 8 (drop (8 * i) row)) ∷ []
octets_more zero row = refl
octets_more (suc i) row =
    ap (λ l. value (take 8 row) ∷ l)
    (octets_more i (drop 8 row)
    ∙ ap (λ l. octets i (drop 8 row) ++ value (take 8 l) ∷ []) (drop-drop (8 * i) 8 row ∙ ap (λ m. drop m row) (omega arith)))

-- fewer than three bits always begin a length
pub few_begin : (row : List Bool) → length row < 3 → true ≡ leb (least_length row) 24
few_begin [] h = refl
few_begin (true ∷ []) h = refl
few_begin (false ∷ []) h = refl
few_begin (true ∷ true ∷ []) h = refl
few_begin (true ∷ false ∷ []) h = refl
few_begin (false ∷ true ∷ []) h = refl
few_begin (false ∷ false ∷ []) h = refl
few_begin (a ∷ b ∷ c ∷ row) h = absurd (omega arith)

pub length_octets : (n : ℕ) (row : List Bool) → length (octets n row) ≡ n
length_octets zero row = refl
length_octets (suc n) row = ap suc (length_octets n (drop 8 row))

-- a text whose length and bytes are there
pub text_there : (all : List Bool) (p n : ℕ) → read_upto 5 longest (drop p all) ≡ got n (drop 5 (drop p all)) → p + 5 + 8 * n ≤ length all
    → read_text (drop p all) ≡ got (octets n (drop (p + 5) all)) (drop (8 * n) (drop (p + 5) all))
text_there all p n e h =
    ap (λ r. and_then r (λ m more. and_then (read_bytes m more) got)) (e ∙ ap (got n) (drop-drop 5 p all))
    ∙ ap (λ r. and_then r got) (bytes_there n (drop (p + 5) all) (omega (arith, length-drop (p + 5) all)))

-- a text whose bytes run past the end
pub text_cut : (all : List Bool) (p n : ℕ) → read_upto 5 longest (drop p all) ≡ got n (drop 5 (drop p all)) → p + 5 ≤ length all → length all < p + 5 + 8 * n
    → read_text (drop p all) ≡ begun
text_cut all p n e there h =
    ap (λ r. and_then r (λ m more. and_then (read_bytes m more) got)) (e ∙ ap (got n) (drop-drop 5 p all))
    ∙ ap (λ r. and_then r got) (bytes_cut n (drop (p + 5) all) (omega (arith, length-drop (p + 5) all)))

-- a text of this length has a code of so many bits
pub code_length : (x : List ℕ) (n : ℕ) → length x ≡ n → length (texts.code x) ≡ 5 + 8 * n
code_length x n e = omega (arith, length-append (bits 5 (length x)) (spread x), length_bits 5 (length x), length_spread x, e)
