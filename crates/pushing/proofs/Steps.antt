-- Pushing along records one by one does what pushing along all of them does. Assumes nothing.
use Rattle.std.proofs.Common.{◌≡◌, ℕ, zero, suc, ◌+◌, ◌<◌, List, [], ◌∷◌, length, get_or, sym, refl, ap, ◌∙◌, subst, add-one, arith}
use Rattle.outputs.specs.Kinds.{Kind}
use Rattle.construction.specs.Records.{Open, blank}
use Rattle.construction.specs.Steps.{push}
use Rattle.construction.specs.Building.{push_along}
use Rattle.construction.specs.Theorems.{Joins, AlongStorable}
use Rattle.pushing.specs.Altering.{alter, At}
use Rattle.pushing.specs.Pushing.{whole, shared, stepped}

module _ {X : Type 0} where
  pub alter_at : (f : X → X) (i : ℕ) (xs : List X) (x : X) → i < length xs → get_or (alter i f xs) i x ≡ f (get_or xs i x)
  alter_at f i [] x h = absurd (omega arith)
  alter_at f zero (y ∷ xs) x h = refl
  alter_at f (suc i) (y ∷ xs) x h = alter_at f i xs x (omega arith)

  pub alter_twice : (f h : X → X) (i : ℕ) (xs : List X) → alter i f (alter i h xs) ≡ alter i (λ x. f (h x)) xs
  alter_twice f h i [] = refl
  alter_twice f h zero (y ∷ xs) = refl
  alter_twice f h (suc i) (y ∷ xs) = ap (λ (r : List X). y ∷ r) (alter_twice f h i xs)

  -- only the element at the place matters
  pub alter_at_place : (f h : X → X) (i : ℕ) (xs : List X) (x : X) → f (get_or xs i x) ≡ h (get_or xs i x) → alter i f xs ≡ alter i h xs
  alter_at_place f h i [] x e = refl
  alter_at_place f h zero (y ∷ xs) x e = ap (λ (z : X). z ∷ xs) e
  alter_at_place f h (suc i) (y ∷ xs) x e = ap (λ (r : List X). y ∷ r) (alter_at_place f h i xs x e)

module _ (k : Kind) where
  abbrev Opens : Type 0
  Opens = List (Open k.Ideal)

  -- the record that a step is at
  abbrev pub at_depth : ℕ → Opens → Open k.Ideal
  at_depth d os = get_or os d (blank 0)

  -- outputs are pushed along the records from a depth on
  abbrev pub push_from : ℕ → k.Ideal → k.Ideal → Opens → Opens × k.Ideal
  push_from zero carry left os = push_along k carry left os
  push_from (suc d) carry left [] = ([], left)
  push_from (suc d) carry left (o ∷ os) = (o ∷ (push_from d carry left os).0, (push_from d carry left os).1)

  -- the joins that are made there are storable
  abbrev pub StorableFrom : ℕ → k.Ideal → k.Ideal → Opens → Type 0
  StorableFrom zero carry left os = AlongStorable k carry left os
  StorableFrom (suc d) carry left [] = Unit {0}
  StorableFrom (suc d) carry left (o ∷ os) = StorableFrom d carry left os

  module _ (carry left : k.Ideal) where
    abbrev pub carried : Open k.Ideal → k.Ideal
    carried o = k.rest (shared k carry left o) (whole k carry left o)

    abbrev pub remains : Open k.Ideal → k.Ideal
    remains o = k.rest (shared k carry left o) left

    step_push : (d : ℕ) (os : Opens) → suc d < length os → push_from (suc d) (carried (at_depth d os)) (remains (at_depth d os)) (alter d (stepped k carry left) os) ≡ push_from d carry left os
    step_push d [] h = absurd (omega arith)
    step_push zero (o ∷ []) h = absurd (omega arith)
    step_push zero (o ∷ next ∷ os) h = refl
    step_push (suc d) (o ∷ os) h = let r = step_push d os (omega arith) in λ i. (o ∷ (r i).0, (r i).1)

    step_storable : (d : ℕ) (os : Opens) → suc d < length os → StorableFrom d carry left os → StorableFrom (suc d) (carried (at_depth d os)) (remains (at_depth d os)) (alter d (stepped k carry left) os)
    step_storable d [] h s = tt
    step_storable zero (o ∷ []) h s = absurd (omega arith)
    step_storable zero (o ∷ next ∷ os) h s = s.1
    step_storable (suc d) (o ∷ os) h s = step_storable d os (omega arith) s

    -- the joins at the first of the records are among them
    pub storable_at : (d : ℕ) (os : Opens) → StorableFrom d carry left os → At d (Joins k carry) os
    storable_at d [] s = tt
    storable_at zero (o ∷ []) s = s
    storable_at zero (o ∷ next ∷ os) s = s.0
    storable_at (suc d) (o ∷ os) s = storable_at d os s

    -- at the last record nothing is shared any more
    pub push_last : (d : ℕ) (os : Opens) → length os ≡ d + 1 → push_from d carry left os ≡ (alter d (push k carry) os, left)
    push_last d [] h = absurd (omega arith)
    push_last zero (o ∷ []) h = refl
    push_last zero (o ∷ next ∷ os) h = absurd (omega arith)
    push_last (suc d) (o ∷ os) h = let r = push_last d os (omega arith) in λ i. (o ∷ (r i).0, (r i).1)

    -- a step is one record of the way
    pub push_more : (d : ℕ) (os : Opens) (c r : k.Ideal) (now : Opens) → d + 1 < length os → c ≡ carried (at_depth d os) → r ≡ remains (at_depth d os) → now ≡ alter d (stepped k carry left) os → push_from (d + 1) c r now ≡ push_from d carry left os
    push_more d os c r now h p q e = rw add-one ((λ i. push_from (suc d) (p i) (q i) (e i)) ∙ step_push d os (omega arith))

    pub storable_more : (d : ℕ) (os : Opens) (c r : k.Ideal) (now : Opens) → d + 1 < length os → c ≡ carried (at_depth d os) → r ≡ remains (at_depth d os) → now ≡ alter d (stepped k carry left) os → StorableFrom d carry left os → StorableFrom (d + 1) c r now
    storable_more d os c r now h p q e s =
        rw add-one (subst (λ (z : k.Ideal × k.Ideal × Opens). StorableFrom (suc d) z.0 z.1 z.2) (sym (λ i. (p i, q i, e i))) (step_storable d os (omega arith) s))
