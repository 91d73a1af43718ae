-- The last of some records is altered, or extended byte by byte. Assumes nothing.
use Rattle.std.proofs.Common.{◌≡◌, ℕ, ◌+◌, ◌<◌, ◌≤◌, List, [], ◌∷◌, ◌++◌, reverse, length, take, drop, sym, refl, ap, ◌∙◌, arith}
use mathlib.Core.List.{reverse-cons}
use Rattle.std.proofs.lemmas.List.{take_all, take_at, drop-append-le, length-drop, length_push}
use Rattle.outputs.specs.Kinds.{Kind}
use Rattle.machines.specs.Keys.{Key}
use Rattle.construction.specs.Records.{Open, Held, blank}
use Rattle.construction.specs.Steps.{add_arc, extend_last}
use Rattle.records.proofs.Cutting.{cut_before}
use Rattle.pushing.specs.Altering.{alter}
use Rattle.adding.specs.Extending.{at_last, ended, rooted}

module _ {X : Type 0} (f : X → X) where
  at_last_end : (xs : List X) (x : X) → at_last f (xs ++ (x ∷ [])) ≡ xs ++ (f x ∷ [])
  at_last_end [] x = refl
  at_last_end (y ∷ []) x = refl
  at_last_end (y ∷ z ∷ xs) x = ap (λ (r : List X). y ∷ r) (at_last_end (z ∷ xs) x)

  -- the first is the last once the list is turned round
  pub reverse_first : (xs : List X) → reverse (alter 0 f xs) ≡ at_last f (reverse xs)
  reverse_first [] = refl
  reverse_first (x ∷ xs) = reverse-cons (f x) xs ∙ sym (at_last_end (reverse xs) x) ∙ ap (at_last f) (sym (reverse-cons x xs))

module _ {X : Type 0} where
  -- a part that ends before the end does not see what is put behind
  pub push_before : (es : List X) (e : X) (s c : ℕ) → s + c ≤ length es → take c (drop s (es ++ (e ∷ []))) ≡ take c (drop s es)
  push_before es e s c h = sym (cut_before (length es) s c (es ++ (e ∷ [])) h) ∙ ap (λ (r : List X). take c (drop s r)) (take_at es (e ∷ []) (length es) refl)

  -- the last part gets one more
  pub push_last_part : (es : List X) (e : X) (s c : ℕ) → s + c ≡ length es → take (c + 1) (drop s (es ++ (e ∷ []))) ≡ take c (drop s es) ++ (e ∷ [])
  push_last_part es e s c h =
      let n : length (drop s es) ≡ c = omega (arith, length-drop s es) in
      ap (take (c + 1)) (drop-append-le s es (e ∷ []) (omega arith)) ∙ take_all (c + 1) (drop s es ++ (e ∷ [])) (omega (arith, length_push (drop s es) e)) ∙ ap (λ (r : List X). r ++ (e ∷ [])) (sym (take_all c (drop s es) (omega arith)))

module _ (k : Kind) (p : ℕ) where
  -- one byte more
  pub extend_more : (os : List (Open k.Ideal)) (a : ℕ) (w : Key) (x : k.Ideal) → 0 < length os → extend_last k p os (a ∷ w) x ≡ extend_last k p (at_last (add_arc k a x) os ++ (blank p ∷ [])) w k.empty
  extend_more [] a w x h = absurd (omega arith)
  extend_more (o ∷ []) a w x h = refl
  extend_more (o ∷ n ∷ []) a w x h = refl
  extend_more (o ∷ n ∷ z ∷ os) a w x h = ap (λ (r : List (Open k.Ideal)). o ∷ r) (extend_more (n ∷ z ∷ os) a w x (omega arith))

  -- no byte is left
  pub extend_done : (os : List (Open k.Ideal)) (x : k.Ideal) → 0 < length os → extend_last k p os [] x ≡ at_last (ended x) os
  extend_done [] x h = absurd (omega arith)
  extend_done (o ∷ []) x h = refl
  extend_done (o ∷ n ∷ os) x h = ap (λ (r : List (Open k.Ideal)). o ∷ r) (extend_done (n ∷ os) x (omega arith))

module _ {I : Type 0} (x : I) (h : Held I) where
  pub rooted_first : h.open' ≡ [] → rooted x h ≡ record { closed = h.closed; open' = blank h.pairs ∷ []; start = x; pairs = h.pairs }
  rooted_first e = ap {B = Held I} (λ (os : List (Open I)). elim os [ [] ↦ record { closed = h.closed; open' = blank h.pairs ∷ []; start = x; pairs = h.pairs } | o ∷ more ↦ h ]) e
