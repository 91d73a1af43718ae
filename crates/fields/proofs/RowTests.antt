-- A row of bits compared by its number. Assumes nothing.
use Rattle.std.proofs.Common.{◌≡◌, ℕ, ◌+◌, ◌^◌, ◌<◌, ◌≤◌, Bool, eqb, List, length, take, drop, Ok, sym, ap, ◌∙◌, subst, ap₂, arith, length-drop, eqb-true}
use borrow.Author.Tests.{eqb-false}
use Rattle.std.proofs.lemmas.List.{length-take-le}
use Rattle.outputs.specs.Bits.{bits, value}
use Rattle.outputs.specs.Joins.{Tells}
use Rattle.outputs.specs.BitRows.{bits_value, value_bits}
use Rattle.fields.specs.declared.reading.Cut.{Cut}
use Rattle.fields.specs.Marks.{Holds}

-- rows of one length are equal exactly if their numbers are
tells_number : (row : List Bool) (width number : ℕ) → length row ≡ width → number < 2 ^ width → Tells row (bits width number) (eqb (value row) number)
tells_number row width number long small = record {
  equal = λ t. sym (bits_value row) ∙ ap₂ bits long (eqb-true (value row) number t);
  different = λ f e. eqb-false (value row) number f (ap value e ∙ value_bits width number small);
}

-- 16 bits that are there, compared with a number
pub holds_number : (all : List Bool) (place v m number : ℕ) (cut : Cut) → place + 16 ≤ length all → v ≡ value (take 16 (drop place all)) → m ≡ number → number < 2 ^ 16 →
    Holds number all place cut (Ok (eqb v m))
holds_number all place v m number cut h ev em small =
    let row : List Bool = take 16 (drop place all) in
    let test : eqb v m ≡ eqb (value row) number = ap₂ eqb ev em in
    let long : length row ≡ 16 = length-take-le 16 (drop place all) (omega (arith, length-drop place all)) in
    (h, test, subst (Tells row (bits 16 number)) (sym test) (tells_number row 16 number long small))
