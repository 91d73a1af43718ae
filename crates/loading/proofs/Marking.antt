-- Working bytes that are marked arc by arc. Assumes nothing.
use Rattle.std.proofs.Common.{◌≡◌, ℕ, suc, ◌+◌, ◌%◌, ◌<◌, ◌≤◌, min, max, Bool, true, ◌||◌, eqb, leb, ◌≢◌, List, [], ◌∷◌, ◌++◌, length, get_or, set, sym, refl, ap, ◌∙◌, subst, inl, inr, arith, get_or-set_other, get_or-set_same, eq-eqb, le-leb}
use mathlib.Core.Bool.{or-false, or-true, or_assoc}
use Rattle.std.proofs.lemmas.Bool.{ne_eqb, cases_eq}
use Rattle.machines.specs.Lists.{Each}
use Rattle.machines.specs.Machines.{Arc, aims}
use Rattle.images.specs.Loads.{sum_over}
use Rattle.loading.specs.Working.{length_in, marked_in, longest_in, Aimed, Noted}

pub aims_more : {A : Type 0} (t : ℕ) (row : List (Arc A)) (x : Arc A) → aims t (row ++ (x ∷ [])) ≡ (aims t row || eqb x.target t)
aims_more t [] x = or-false (eqb x.target t)
aims_more t (a ∷ row) x = ap {A = Bool} {B = Bool} (λ b. eqb a.target t || b) (aims_more t row x) ∙ sym (or_assoc (eqb a.target t) (aims t row) (eqb x.target t))

pub longest_more : {A : Type 0} (w : List ℕ) (row : List (Arc A)) (x : Arc A) → longest_in w (row ++ (x ∷ [])) ≡ max (longest_in w row) (min 100 (suc (length_in w x.target)))
longest_more w [] x = omega arith
longest_more w (a ∷ row) x = omega (arith, longest_more w row x)

pub longest_small : {A : Type 0} (w : List ℕ) (row : List (Arc A)) → longest_in w row ≤ 100
longest_small w [] = omega arith
longest_small w (a ∷ row) = omega (arith, longest_small w row)

pub sum_more : {A : Type 0} (f : ℕ → ℕ) (row : List (Arc A)) (x : Arc A) → sum_over f (row ++ (x ∷ [])) ≡ sum_over f row + f x.target
sum_more f [] x = omega arith
sum_more f (a ∷ row) x = omega (arith, sum_more f row x)

module _ {A : Type 0} (w : List ℕ) (q : ℕ) where
  pub aimed_none : Aimed {A = A} w w q []
  aimed_none = record { lengths = λ t l. refl; marks = λ t l. sym (or-false (marked_in w t)) }

  module _ (w' w'' : List ℕ) (row : List (Arc A)) (h : Aimed w w' q row) where
    -- one more arc is aimed at t
    pub aimed_more : (x : Arc A) (t : ℕ) → t < length w' → x.target ≡ t → w'' ≡ set w' t (length_in w' t + 128) → Aimed w w'' q (row ++ (x ∷ []))
    aimed_more x t l e s = record { lengths = lengths; marks = marks }
      where
        same : get_or w'' t 0 ≡ length_in w' t + 128
        same = ap (λ (z : List ℕ). get_or z t 0) s ∙ get_or-set_same w' t (length_in w' t + 128) 0 l

        other : (u : ℕ) → u ≢ t → get_or w'' u 0 ≡ get_or w' u 0
        other u n = ap (λ (z : List ℕ). get_or z u 0) s ∙ get_or-set_other w' t u (length_in w' t + 128) 0 n

        lengths : (u : ℕ) → u < q → length_in w'' u ≡ length_in w u
        lengths u b = elim (cases_eq u t) [
          | inl f ↦ let g : get_or w'' u 0 ≡ length_in w' u + 128 = subst (λ (z : ℕ). get_or w'' z 0 ≡ length_in w' z + 128) (sym f) same in omega (arith, g, h.lengths u b)
          | inr n ↦ omega (arith, other u n, h.lengths u b)
        ]

        marks : (u : ℕ) → u < q → marked_in w'' u ≡ (marked_in w u || aims u (row ++ (x ∷ [])))
        marks u b = elim (cases_eq u t) [
          | inl f ↦
              let g : get_or w'' u 0 ≡ length_in w' u + 128 = subst (λ (z : ℕ). get_or w'' z 0 ≡ length_in w' z + 128) (sym f) same in
              let m : marked_in w'' u ≡ true = le-leb 128 (get_or w'' u 0) (omega (arith, g)) in
              let a : aims u (row ++ (x ∷ [])) ≡ true = aims_more u row x ∙ ap {A = Bool} {B = Bool} (λ z. aims u row || z) (eq-eqb x.target u (e ∙ sym f)) ∙ or-true (aims u row) in
              m ∙ sym (ap {A = Bool} {B = Bool} (λ z. marked_in w u || z) a ∙ or-true (marked_in w u))
          | inr n ↦
              let m : marked_in w'' u ≡ (marked_in w u || aims u row) = ap {A = ℕ} {B = Bool} (λ z. leb 128 z) (other u n) ∙ h.marks u b in
              let a : aims u (row ++ (x ∷ [])) ≡ aims u row = aims_more u row x ∙ ap {A = Bool} {B = Bool} (λ z. aims u row || z) (ne_eqb x.target u (λ z. n (sym (sym e ∙ z)))) ∙ or-false (aims u row) in
              m ∙ sym (ap {A = Bool} {B = Bool} (λ z. marked_in w u || z) a)
        ]

    -- all arcs are aimed, and q takes its own length
    pub noted : (longest : ℕ) → q < length w' → Each (λ arc. arc.target < q) row → longest ≡ longest_in w row → w'' ≡ set w' q longest → Noted w w'' q row
    noted longest l b e s = record {
      below = b;
      aimed = record {
        lengths = λ t k. ap {A = ℕ} {B = ℕ} (λ z. z % 128) (other t (omega arith)) ∙ h.lengths t k;
        marks = λ t k. ap {A = ℕ} {B = Bool} (λ z. leb 128 z) (other t (omega arith)) ∙ h.marks t k;
      };
      own = ap (λ (z : List ℕ). get_or z q 0) s ∙ get_or-set_same w' q longest 0 l ∙ e;
    }
      where
        other : (u : ℕ) → u ≢ q → get_or w'' u 0 ≡ get_or w' u 0
        other u n = ap (λ (z : List ℕ). get_or z u 0) s ∙ get_or-set_other w' q u longest 0 n
