-- Which memory is refused, test by test, and how much of it is used. Assumes nothing.
use Rattle.std.proofs.Common.{◌≡◌, ℕ, ◌<◌, ◌≤◌, Bool, true, false, not, ◌&&◌, ltb, leb, [], ◌∷◌, refl, ap, ◌∙◌, arith, ltb-false, le-ltb, lt-ltb, le-leb, leb-true}
use mathlib.Core.Option.{Option, none, some}
use borrow.Author.Tests.{lt-leb}
use Rattle.machines.specs.Memory.{first_fault, memory_refusal, usable}

-- the tests in their order
abbrev first_failed : Bool → Bool → Bool → Bool → Bool → Option ℕ
first_failed t u v w x = first_fault ((not (t && u), 2) ∷ (not (v && w), 3) ∷ (x, 4) ∷ [])

module _ (s a n : ℕ) where
  by_tests : memory_refusal s a n ≡ first_failed (leb 1 s) (leb s 65535) (leb 1 a) (leb a 131071) (ltb n s)
  unfolding memory_refusal
  by_tests = refl

  pub no_states : s ≡ 0 → memory_refusal s a n ≡ some 2
  no_states h = let t = lt-leb 1 s (omega arith) in by_tests ∙ (λ i. first_failed (t i) (leb s 65535) (leb 1 a) (leb a 131071) (ltb n s))

  pub many_states : 65535 < s → memory_refusal s a n ≡ some 2
  many_states h =
      let t = le-leb 1 s (omega arith) in
      let u = lt-leb s 65535 h in
      by_tests ∙ (λ i. first_failed (t i) (u i) (leb 1 a) (leb a 131071) (ltb n s))

  module _ (some_states : 0 < s) (few_states : s ≤ 65535) where
    t : leb 1 s ≡ true
    t = le-leb 1 s (omega arith)

    u : leb s 65535 ≡ true
    u = le-leb s 65535 few_states

    pub no_arcs : a ≡ 0 → memory_refusal s a n ≡ some 3
    no_arcs h = let v = lt-leb 1 a (omega arith) in by_tests ∙ (λ i. first_failed (t i) (u i) (v i) (leb a 131071) (ltb n s))

    pub many_arcs : 131071 < a → memory_refusal s a n ≡ some 3
    many_arcs h =
        let v = le-leb 1 a (omega arith) in
        let w = lt-leb a 131071 h in
        by_tests ∙ (λ i. first_failed (t i) (u i) (v i) (w i) (ltb n s))

    pub few_slots : 0 < a → a ≤ 131071 → n < s → memory_refusal s a n ≡ some 4
    few_slots p q h =
        let v = le-leb 1 a (omega arith) in
        let w = le-leb a 131071 q in
        let x = lt-ltb n s h in
        by_tests ∙ (λ i. first_failed (t i) (u i) (v i) (w i) (x i))

    pub not_refused : 0 < a → a ≤ 131071 → s ≤ n → memory_refusal s a n ≡ none
    not_refused p q h =
        let v = le-leb 1 a (omega arith) in
        let w = le-leb a 131071 q in
        let x = le-ltb n s h in
        by_tests ∙ (λ i. first_failed (t i) (u i) (v i) (w i) (x i))

  pub all_used : memory_refusal s a n ≡ none → usable s a n ≡ s
  unfolding usable
  all_used e = ap {B = ℕ} (λ (o : Option ℕ). elim o [ none ↦ s | some m ↦ 0 ]) e

  pub none_used : (m : ℕ) → memory_refusal s a n ≡ some m → usable s a n ≡ 0
  unfolding usable
  none_used m e = ap {B = ℕ} (λ (o : Option ℕ). elim o [ none ↦ s | some j ↦ 0 ]) e

  used_by : (t u v w x : Bool) → leb s 65535 ≡ u → ltb n s ≡ x → (elim (first_failed t u v w x) [ none ↦ s | some m ↦ 0 ] ≤ s) × (elim (first_failed t u v w x) [ none ↦ s | some m ↦ 0 ] < 65536) × (elim (first_failed t u v w x) [ none ↦ s | some m ↦ 0 ] ≤ n)
  used_by false u v w x p q = (omega arith, omega arith, omega arith)
  used_by true false v w x p q = (omega arith, omega arith, omega arith)
  used_by true true false w x p q = (omega arith, omega arith, omega arith)
  used_by true true true false x p q = (omega arith, omega arith, omega arith)
  used_by true true true true true p q = (omega arith, omega arith, omega arith)
  used_by true true true true false p q = (omega arith, omega (arith, leb-true s 65535 p), ltb-false n s q)

  -- no more is used than is lent, and what is used is small and has its slots
  pub used_within : (usable s a n ≤ s) × (usable s a n < 65536) × (usable s a n ≤ n)
  unfolding memory_refusal usable
  used_within = used_by (leb 1 s) (leb s 65535) (leb 1 a) (leb a 131071) (ltb n s) refl refl

  arcs_by : (t u v w x : Bool) → leb a 131071 ≡ w → 0 < elim (first_failed t u v w x) [ none ↦ s | some m ↦ 0 ] → a ≤ 131071
  arcs_by false u v w x p l = absurd (omega arith)
  arcs_by true false v w x p l = absurd (omega arith)
  arcs_by true true false w x p l = absurd (omega arith)
  arcs_by true true true false x p l = absurd (omega arith)
  arcs_by true true true true x p l = leb-true a 131071 p

  -- where a state is used, all arcs are
  pub used_arcs : 0 < usable s a n → a ≤ 131071
  unfolding memory_refusal usable
  used_arcs l = arcs_by (leb 1 s) (leb s 65535) (leb 1 a) (leb a 131071) (ltb n s) refl l
