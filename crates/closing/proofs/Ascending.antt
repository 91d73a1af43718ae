-- Closing the records beyond a depth, the newest at each step, is what the construction does at once. Assumes nothing.
use Rattle.std.proofs.Common.{◌≡◌, ℕ, zero, suc, ◌+◌, ◌<◌, ◌≤◌, List, [], ◌∷◌, ◌++◌, reverse, length, sym, refl, ap, ◌∙◌, arith}
use mathlib.Core.List.{reverse_aux-eq}
use lib.ListN.{length-reverse}
use Rattle.outputs.specs.Kinds.{Kind}
use Rattle.construction.specs.Records.{Open, Closed, Held}
use Rattle.construction.specs.Steps.{aim, enter, settle}
use Rattle.construction.specs.Building.{close_beyond}
use Rattle.closing.specs.Closing.{closed_beyond, aim_newest}

module _ (k : Kind) (pairs : ℕ) where
  abbrev Opens : Type 0
  Opens = List (Open k.Ideal)

  -- the records beyond a depth closed, where there may be none at all
  abbrev close_list : Closed k.Ideal → ℕ → Opens → Closed k.Ideal × Opens
  close_list closed depth os = elim os [ [] ↦ (closed, []) | o ∷ more ↦ close_beyond k pairs closed depth o more ]

  module _ (closed : Closed k.Ideal) (p x : Open k.Ideal) where
    abbrev number : ℕ
    number = (enter k pairs closed x).0

    abbrev then_closed : Closed k.Ideal
    then_closed = (enter k pairs closed x).1

    settle_last : (o : Open k.Ideal) (xs : Opens) → settle k pairs closed o (xs ++ (p ∷ x ∷ [])) ≡ settle k pairs then_closed o (xs ++ (aim number p ∷ []))
    settle_last o [] = refl
    settle_last o (next ∷ xs) = λ i.
        let entered : ℕ × Closed k.Ideal = enter k pairs (settle_last next xs i).0 (settle_last next xs i).1 in
        (entered.1, aim entered.0 o)

    close_last : (depth : ℕ) (xs : Opens) → depth ≤ length xs → close_list closed depth (xs ++ (p ∷ x ∷ [])) ≡ close_list then_closed depth (xs ++ (aim number p ∷ []))
    close_last zero [] h = refl
    close_last (suc depth) [] h = absurd (omega arith)
    close_last zero (o ∷ xs) h = λ i. ((settle_last o xs i).0, (settle_last o xs i).1 ∷ [])
    close_last (suc zero) (o ∷ []) h = refl
    close_last (suc (suc depth)) (o ∷ []) h = absurd (omega arith)
    close_last (suc depth) (o ∷ next ∷ xs) h = let e = close_last depth (next ∷ xs) (omega arith) in λ i. ((e i).0, o ∷ (e i).1)

  -- nothing is beyond the depth
  close_none : (closed : Closed k.Ideal) (depth : ℕ) (xs : Opens) → length xs ≤ depth + 1 → close_list closed depth xs ≡ (closed, xs)
  close_none closed depth [] h = refl
  close_none closed zero (o ∷ []) h = refl
  close_none closed zero (o ∷ next ∷ xs) h = absurd (omega arith)
  close_none closed (suc depth) (o ∷ []) h = refl
  close_none closed (suc depth) (o ∷ next ∷ xs) h = let e = close_none closed depth (next ∷ xs) (omega arith) in λ i. ((e i).0, o ∷ (e i).1)

  abbrev pub hold : k.Ideal → Closed k.Ideal → Opens → Held k.Ideal
  hold start closed os = record { closed = closed; open' = os; start = start; pairs = pairs }

  beyond_is : (start : k.Ideal) (closed : Closed k.Ideal) (depth : ℕ) (os : Opens) → closed_beyond k depth (hold start closed os) ≡ hold start (close_list closed depth os).0 (close_list closed depth os).1
  beyond_is start closed depth [] = refl
  beyond_is start closed depth (o ∷ more) = refl

  -- one record is closed: the newest is `x`, and the arc to it is the last of the next, p
  beyond_rest : (start : k.Ideal) (closed : Closed k.Ideal) (depth : ℕ) (x p : Open k.Ideal) (rest : Opens) (q : ℕ) (closed' : Closed k.Ideal) → depth ≤ length rest → enter k pairs closed x ≡ (q, closed') → closed_beyond k depth (hold start closed' (reverse (aim q p ∷ rest))) ≡ closed_beyond k depth (hold start closed (reverse (x ∷ p ∷ rest)))
  beyond_rest start closed depth x p rest q closed' h e =
      let was : reverse (x ∷ p ∷ rest) ≡ reverse rest ++ (p ∷ x ∷ []) = reverse_aux-eq rest (p ∷ x ∷ []) in
      let is : reverse (aim q p ∷ rest) ≡ reverse rest ++ (aim q p ∷ []) = reverse_aux-eq rest (aim q p ∷ []) in
      let step : close_list closed depth (reverse rest ++ (p ∷ x ∷ [])) ≡ close_list closed' depth (reverse rest ++ (aim q p ∷ [])) = close_last closed p x depth (reverse rest) (omega (arith, length-reverse rest)) ∙ (λ i. close_list (e i).1 depth (reverse rest ++ (aim (e i).0 p ∷ []))) in
      ap (λ (os : Opens). closed_beyond k depth (hold start closed' os)) is ∙ beyond_is start closed' depth (reverse rest ++ (aim q p ∷ []))
      ∙ (λ i. hold start (sym step i).0 (sym step i).1)
      ∙ sym (beyond_is start closed depth (reverse rest ++ (p ∷ x ∷ []))) ∙ ap (λ (os : Opens). closed_beyond k depth (hold start closed os)) (sym was)

  pub beyond_step : (start : k.Ideal) (closed : Closed k.Ideal) (depth : ℕ) (x : Open k.Ideal) (os : Opens) (q : ℕ) (closed' : Closed k.Ideal) → depth < length os → enter k pairs closed x ≡ (q, closed') → closed_beyond k depth (hold start closed' (reverse (aim_newest q os))) ≡ closed_beyond k depth (hold start closed (reverse (x ∷ os)))
  beyond_step start closed depth x [] q closed' h e = absurd (omega arith)
  beyond_step start closed depth x (p ∷ rest) q closed' h e = beyond_rest start closed depth x p rest q closed' (omega arith) e

  pub beyond_none : (start : k.Ideal) (closed : Closed k.Ideal) (depth : ℕ) (os : Opens) → length os ≤ depth + 1 → closed_beyond k depth (hold start closed (reverse os)) ≡ hold start closed (reverse os)
  beyond_none start closed depth os h =
      let e = close_none closed depth (reverse os) (omega (arith, length-reverse os)) in
      beyond_is start closed depth (reverse os) ∙ (λ i. hold start (e i).0 (e i).1)
