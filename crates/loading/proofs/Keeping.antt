-- Working bytes that keep what they should, record by record. Assumes nothing.
use Rattle.std.proofs.Common.{◌≡◌, ℕ, ◌+◌, ◌<◌, ◌≤◌, min, Bool, false, ◌||◌, eqb, List, [], ◌∷◌, ◌++◌, length, get_or, sym, refl, ap, ◌∙◌, inl, inr, arith, length-append}
use mathlib.Core.Bool.{or-false, or_assoc}
use borrow.Author.Tests.{lt-leb}
use Rattle.std.proofs.lemmas.List.{get_or_append_left, get_or-append-add}
use Rattle.std.proofs.lemmas.Bool.{ne_eqb, or_from, cases_lt}
use Rattle.machines.specs.Lists.{Each}
use Rattle.machines.specs.Machines.{Arc, State, aims, targeted, count_arcs}
use Rattle.machines.specs.Lengths.{longest_on, longest_each, longest_from}
use Rattle.loading.specs.Working.{length_in, marked_in, longest_in, Noted, Kept}
use Rattle.loading.proofs.Marking.{longest_small}

targeted_more : {A : Type 0} (q : ℕ) (ss : List (State A)) (s : State A) → targeted q (ss ++ (s ∷ [])) ≡ (targeted q ss || aims q s.arcs)
targeted_more q [] s = or-false (aims q s.arcs)
targeted_more q (a ∷ ss) s = ap {A = Bool} {B = Bool} (λ b. aims q a.arcs || b) (targeted_more q ss s) ∙ sym (or_assoc (aims q a.arcs) (targeted q ss) (aims q s.arcs))

pub count_more : {A : Type 0} (ss : List (State A)) (s : State A) → count_arcs (ss ++ (s ∷ [])) ≡ count_arcs ss + length s.arcs
count_more [] s = omega arith
count_more (a ∷ ss) s = omega (arith, count_more ss s)

-- no arc leads to q or beyond
aims_below : {A : Type 0} (q t : ℕ) (row : List (Arc A)) → Each (λ arc. arc.target < q) row → q ≤ t → aims t row ≡ false
aims_below q t [] h l = refl
aims_below q t (a ∷ row) h l = or_from (eqb a.target t) (aims t row) (ne_eqb a.target t (λ e. omega (arith, e, h.0))) (aims_below q t row h.1 l)

longest_each_more : {A : Type 0} (done : List ℕ) (ss : List (State A)) (s : State A) → longest_each done (ss ++ (s ∷ [])) ≡ longest_each done ss ++ (longest_on (longest_each done ss) s.arcs ∷ [])
longest_each_more done [] s = refl
longest_each_more done (a ∷ ss) s = longest_each_more (done ++ (longest_on done a.arcs ∷ [])) ss s

length_longest : {A : Type 0} (done : List ℕ) (ss : List (State A)) → length (longest_each done ss) ≡ length done + length ss
length_longest done [] = omega arith
length_longest done (a ∷ ss) = omega (arith, length_longest (done ++ (longest_on done a.arcs ∷ [])) ss, length-append done (longest_on done a.arcs ∷ []))

-- lengths that are held up to 100 give the longest up to 100
longest_held : {A : Type 0} (w lengths : List ℕ) (q : ℕ) (row : List (Arc A)) → Each (λ arc. arc.target < q) row → ((t : ℕ) → t < q → length_in w t ≡ min 100 (get_or lengths t 0)) → longest_in w row ≡ min 100 (longest_on lengths row)
longest_held w lengths q [] b h = omega arith
longest_held w lengths q (a ∷ row) b h = omega (arith, h a.target b.0, longest_held w lengths q row b.1 h)

pub kept_none : {A : Type 0} (w : List ℕ) → Kept {A = A} w []
kept_none w = record { lengths = λ q l. absurd (omega arith); marks = λ q l. absurd (omega arith); below = λ q l. refl }

module _ {A : Type 0} (w w' : List ℕ) (ss : List (State A)) (s : State A) (h : Kept w ss) (n : Noted w w' (length ss) s.arcs) where
  abbrev lengths_before : List ℕ
  lengths_before = longest_each [] ss

  many : length lengths_before ≡ length ss
  many = length_longest [] ss ∙ omega arith

  -- one more state
  long : length (ss ++ (s ∷ [])) ≡ length ss + 1
  long = length-append ss (s ∷ [])

  before : (u : ℕ) → u < length ss → longest_from (ss ++ (s ∷ [])) u ≡ longest_from ss u
  before u l = ap (λ (z : List ℕ). get_or z u 0) (longest_each_more [] ss s) ∙ get_or_append_left lengths_before _ 0 u (omega (arith, many))

  here : longest_from (ss ++ (s ∷ [])) (length ss) ≡ longest_on lengths_before s.arcs
  here =
      let e : length ss ≡ length lengths_before + 0 = omega (arith, many) in
      ap (λ (z : List ℕ). get_or z (length ss) 0) (longest_each_more [] ss s) ∙ ap (λ (z : ℕ). get_or (lengths_before ++ (longest_on lengths_before s.arcs ∷ [])) z 0) e
      ∙ get_or-append-add lengths_before (longest_on lengths_before s.arcs ∷ []) 0 0

  own : longest_in w s.arcs ≡ min 100 (longest_on lengths_before s.arcs)
  own = longest_held w lengths_before (length ss) s.arcs n.below h.lengths

  not_targeted : (u : ℕ) → length ss ≤ u → targeted u (ss ++ (s ∷ [])) ≡ false
  not_targeted u l = targeted_more u ss s ∙ or_from (targeted u ss) (aims u s.arcs) (h.below u l) (aims_below (length ss) u s.arcs n.below l)

  lengths : (u : ℕ) → u < length (ss ++ (s ∷ [])) → length_in w' u ≡ min 100 (longest_from (ss ++ (s ∷ [])) u)
  lengths u l = elim (cases_lt u (length ss)) [
    | inl b ↦ n.aimed.lengths u b ∙ h.lengths u b ∙ ap (min 100) (sym (before u b))
    | inr b ↦
        let e : u ≡ length ss = omega (arith, long) in
        let m : get_or w' u 0 ≡ longest_in w s.arcs = ap (λ (z : ℕ). get_or w' z 0) e ∙ n.own in
        let f : longest_from (ss ++ (s ∷ [])) u ≡ longest_on lengths_before s.arcs = ap (longest_from (ss ++ (s ∷ []))) e ∙ here in
        omega (arith, m, f, own, longest_small w s.arcs)
  ]

  marks : (u : ℕ) → u < length (ss ++ (s ∷ [])) → marked_in w' u ≡ targeted u (ss ++ (s ∷ []))
  marks u l = elim (cases_lt u (length ss)) [
    | inl b ↦ n.aimed.marks u b ∙ ap {A = Bool} {B = Bool} (λ z. z || aims u s.arcs) (h.marks u b) ∙ sym (targeted_more u ss s)
    | inr b ↦
        let e : u ≡ length ss = omega (arith, long) in
        let m : get_or w' u 0 ≡ longest_in w s.arcs = ap (λ (z : ℕ). get_or w' z 0) e ∙ n.own in
        lt-leb 128 (get_or w' u 0) (omega (arith, m, longest_small w s.arcs)) ∙ sym (not_targeted u b)
  ]

  pub kept_more : Kept w' (ss ++ (s ∷ []))
  kept_more = record { lengths = lengths; marks = marks; below = λ u l. not_targeted u (omega (arith, long)) }
