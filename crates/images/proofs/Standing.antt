-- Bits that stand at a place of a row: what a field and an output read there, and how steps of reading go on. Assumes the laws of a kind.
use Rattle.std.proofs.Common.{◌≡◌, ℕ, ◌+◌, ◌^◌, ◌<◌, ◌≤◌, Bool, true, false, List, ◌++◌, length, take, drop, sym, refl, ap, ◌∙◌, subst, append_assoc, arith, length-append, length-drop, drop-drop, take_at, drop_at, le-leb}
use Rattle.outputs.specs.Bits.{bits, value}
use Rattle.outputs.specs.Kinds.{Kind, Laws}
use Rattle.outputs.specs.BitRows.{length_bits, value_bits}
use Rattle.images.specs.Steps.{Refusal, reads, refuses, Reader, ◌>>=◌, ◌>>◌, refuse, refusal_at, field, field_if, output, output_if}

-- `row` stands in `all` at a place
pub record Stands (all : List Bool) (p : ℕ) (row : List Bool) : Type 0 where
  pub inside : p ≤ length all
  pub more : List Bool
  pub is : drop p all ≡ row ++ more

pub stands_first : (row more : List Bool) → Stands (row ++ more) 0 row
stands_first row more = record { inside = omega arith; more = more; is = refl }

module _ {all : List Bool} {p : ℕ} where
  pub stands_end : {row : List Bool} → Stands all p row → p + length row ≤ length all
  stands_end {row} s = omega (arith, length-drop p all, ap length s.is, length-append row s.more)

  -- the front of what stands there, and what follows the front
  pub stands_front : (a b : List Bool) → Stands all p (a ++ b) → Stands all p a
  stands_front a b s = record { inside = s.inside; more = b ++ s.more; is = s.is ∙ append_assoc a b s.more }

  pub stands_behind : (a b : List Bool) → Stands all p (a ++ b) → Stands all (p + length a) b
  stands_behind a b s = record {
    inside = omega (arith, stands_end s, length-append a b);
    more = s.more;
    is = sym (drop-drop (length a) p all) ∙ ap (drop (length a)) (s.is ∙ append_assoc a b s.more) ∙ drop_at a (b ++ s.more) (length a) refl;
  }

pub stands_at : {all row : List Bool} {p q : ℕ} → p ≡ q → Stands all p row → Stands all q row
stands_at {all} {row} e s = subst (λ n. Stands all n row) e s

-- behind the bits of a number
pub stands_next : {all : List Bool} {p : ℕ} (w x : ℕ) (b : List Bool) → Stands all p (bits w x ++ b) → Stands all (p + w) b
stands_next {p = p} w x b s = stands_at (ap (λ n. p + n) (length_bits w x)) (stands_behind (bits w x) b s)

-- a step that reads hands on, and a refusal ends the steps
pub then_reads : {A B : Type 0} (r : Reader A) (f : A → Reader B) (p p' : ℕ) (x : A) → r p ≡ reads x p' → ◌>>=◌ r f p ≡ f x p'
then_reads r f p p' x e = rw (e, ◌>>=◌)

pub then_none : {A B : Type 0} (r : Reader A) (f : A → Reader B) (p : ℕ) (e : Refusal) → r p ≡ refuses e → ◌>>=◌ r f p ≡ refuses e
then_none r f p e h = rw (h, ◌>>=◌)

pub then_passes : {A B : Type 0} (r : Reader A) (s : Reader B) (p p' : ℕ) (x : A) → r p ≡ reads x p' → ◌>>◌ r s p ≡ s p'
then_passes r s p p' x e = rw (e, ◌>>◌)

pub then_refuses : {A B : Type 0} (r : Reader A) (s : Reader B) (p : ℕ) (e : Refusal) → r p ≡ refuses e → ◌>>◌ r s p ≡ refuses e
then_refuses r s p e h = rw (h, ◌>>◌)

-- a test that finds no fault passes
passes : (n at : ℕ) (t : Bool) (p : ℕ) → t ≡ false → refuse n at t p ≡ reads tt p
passes n at true p e = let z : ◌≡◌ {A = ℕ} 0 1 = cc in absurd (omega arith)
passes n at false p e = refl

pub then_tests : {B : Type 0} (n at : ℕ) (t : Bool) (s : Reader B) (p : ℕ) → t ≡ false → ◌>>◌ (refuse n at t) s p ≡ s p
then_tests n at t s p e = then_passes (refuse n at t) s p p tt (passes n at t p e)

-- a test that finds fault refuses
pub fault : (n at : ℕ) (t : Bool) (p : ℕ) → t ≡ true → refuse n at t p ≡ refuses (refusal_at n at)
fault n at true p e = refl
fault n at false p e = let z : ◌≡◌ {A = ℕ} 0 1 = cc in absurd (omega arith)

module _ {all : List Bool} {p : ℕ} where
  pub value_there : (w x : ℕ) → x < 2 ^ w → Stands all p (bits w x) → value (take w (drop p all)) ≡ x
  value_there w x h s = ap (λ l. value (take w l)) s.is ∙ ap value (take_at (bits w x) s.more w (length_bits w x)) ∙ value_bits w x h

  -- a field reads the number whose bits stand there
  pub field_reads : (w x : ℕ) → x < 2 ^ w → Stands all p (bits w x) → field all w p ≡ reads x (p + w)
  unfolding field
  field_reads w x h s =
      ap (field_if all w p) (le-leb (p + w) (length all) (omega (arith, stands_end s, length_bits w x)))
      ∙ ap (λ v. reads v (p + w)) (value_there w x h s)

  -- and an output the one whose code stands there
  pub output_reads : (k : Kind) → Laws k → (x : k.Ideal) → k.storable x ≡ true → Stands all p (k.code x) → output all k p ≡ reads x (p + length (k.code x))
  unfolding output
  output_reads k laws x h s = ap (λ row. output_if all k p (k.read row)) s.is ∙ ap (output_if all k p) (laws.read_code x h s.more)
