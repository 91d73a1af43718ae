-- The test of the marks by the first that is not there, and a filling of no bits. Assumes nothing.
use Rattle.std.proofs.Common.{◌≡◌, ℕ, zero, suc, ◌+◌, ◌-◌, ◌<◌, ◌≤◌, Bool, true, not, eqb, List, length, get_or, ap, ◌∙◌, arith, le-leb}
use borrow.Author.Tests.{lt-leb}
use Rattle.outputs.specs.Bits.{filling}
use Rattle.outputs.specs.Kinds.{Kind}
use Rattle.images.specs.Steps.{Step, reads, refuses, Reader, ◌>>=◌, ◌>>◌, refuse, refusal_at, field, field_if}
use Rattle.images.specs.Loads.{record_place}
use Rattle.images.proofs.Standing.{then_reads, then_tests}
use Rattle.loading.specs.Ends.{all_marked, filled}

-- a test that finds fault refuses
pub test_refuses : {B : Type 0} (n at : ℕ) (t : Bool) (s : Reader B) (p : ℕ) → t ≡ true → ◌>>◌ (refuse n at t) s p ≡ refuses (refusal_at n at)
test_refuses {B} n at t s p e = ap {A = Bool} {B = Step B} (λ b. ◌>>◌ (refuse n at b) s p) e

module _ (k : Kind) (all : List Bool) (index n p : ℕ) (w : List ℕ) where
  abbrev rest : ℕ → ℕ → Step (Unit {0})
  rest q = all_marked k all index w (suc q) (n - (q + 1))

  -- the states below q are marked: the tests from the start are those from q on
  marked_below : (q : ℕ) → q ≤ n → ((t : ℕ) → t < q → 128 ≤ get_or w t 0) → all_marked k all index w 0 n p ≡ all_marked k all index w q (n - q) p
  unfolding all_marked
  marked_below zero l h = let e : n ≡ n - 0 = omega arith in ap (λ (m : ℕ). all_marked k all index w 0 m p) e
  marked_below (suc q) l h =
      let e : n - q ≡ suc (n - (q + 1)) = omega arith in
      let f : n - (q + 1) ≡ n - suc q = omega arith in
      marked_below q (omega arith) (λ t b. h t (omega arith)) ∙ ap (λ (m : ℕ). all_marked k all index w q m p) e
      ∙ then_tests 25 (record_place k all index q) _ (rest q) p (ap not (le-leb 128 (get_or w q 0) (h q (omega arith)))) ∙ ap (λ (m : ℕ). all_marked k all index w (suc q) m p) f

  -- the first state that is not marked is refused
  pub marked_stop : (q : ℕ) → q < n → get_or w q 0 < 128 → ((t : ℕ) → t < q → 128 ≤ get_or w t 0) → all_marked k all index w 0 n p ≡ refuses (refusal_at 25 (record_place k all index q))
  unfolding all_marked
  marked_stop q l h below =
      let e : n - q ≡ suc (n - (q + 1)) = omega arith in
      marked_below q (omega arith) below ∙ ap (λ (m : ℕ). all_marked k all index w q m p) e ∙ test_refuses 25 (record_place k all index q) _ (rest q) p (ap not (lt-leb 128 (get_or w q 0) h))

  -- all are marked
  pub marked_all : ((t : ℕ) → t < n → 128 ≤ get_or w t 0) → all_marked k all index w 0 n p ≡ reads tt p
  unfolding all_marked
  marked_all h =
      let e : n - n ≡ 0 = omega arith in
      marked_below n (omega arith) h ∙ ap (λ (m : ℕ). all_marked k all index w n m p) e

field_none : (all : List Bool) (p : ℕ) → p ≤ length all → field all 0 p ≡ reads 0 (p + 0)
unfolding field
field_none all p l = ap {A = Bool} {B = Step ℕ} (λ b. field_if all 0 p b) (le-leb (p + 0) (length all) (omega arith))

-- no filling after a whole byte
pub filled_none : (all : List Bool) (p : ℕ) → p ≤ length all → filling p ≡ 0 → filled all p ≡ reads tt p
filled_none all p l e =
    let z : p + 0 ≡ p = omega arith in
    ap {A = ℕ} {B = Step (Unit {0})} (λ w. ◌>>=◌ (field all w) (λ rest. refuse 26 p (not (eqb rest 0))) p) e
    ∙ then_reads (field all 0) (λ rest. refuse 26 p (not (eqb rest 0))) p (p + 0) 0 (field_none all p l) ∙ ap {A = ℕ} {B = Step (Unit {0})} (λ q. reads tt q) z
