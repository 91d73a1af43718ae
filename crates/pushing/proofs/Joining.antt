-- An output in front of all that follows a record, where the joins are storable, and where it is empty. Assumes the laws of the kind.
use Rattle.std.proofs.Common.{◌≡◌, ℕ, zero, suc, Bool, true, false, cond, List, [], ◌∷◌, map, refl, ap, ◌∙◌}
use mathlib.Core.Option.{Option, none, some}
use borrow.Author.Tests.{clash}
use Rattle.outputs.specs.Kinds.{Kind, Laws}
use Rattle.outputs.specs.Joins.{join_or_empty}
use Rattle.machines.specs.Lists.{Each}
use Rattle.machines.specs.Machines.{Arc as Edge}
use Rattle.construction.specs.Records.{Open}
use Rattle.construction.specs.Steps.{push_end, push_arc, push}
use Rattle.construction.specs.Theorems.{JoinsEnd, Joins}
use Rattle.pushing.specs.Altering.{alter, At}
use Rattle.pushing.specs.Changes.{output_under, end_under, outputs_under}

cond_true : {A : Type 0} (t : Bool) (x y : A) → t ≡ true → cond t x y ≡ x
cond_true true x y e = refl
cond_true false x y e = absurd (clash e)

module _ {X : Type 0} where
  pub alter_still : (f : X → X) → ((x : X) → f x ≡ x) → (i : ℕ) (xs : List X) → alter i f xs ≡ xs
  alter_still f e i [] = refl
  alter_still f e zero (x ∷ xs) = ap (λ (y : X). y ∷ xs) (e x)
  alter_still f e (suc i) (x ∷ xs) = ap (λ (ys : List X). x ∷ ys) (alter_still f e i xs)

  pub alter_same : (f h : X → X) (P : X → Type 0) → ((x : X) → P x → f x ≡ h x) → (i : ℕ) (xs : List X) → At i P xs → alter i f xs ≡ alter i h xs
  alter_same f h P e i [] a = refl
  alter_same f h P e zero (x ∷ xs) a = ap (λ (y : X). y ∷ xs) (e x a)
  alter_same f h P e (suc i) (x ∷ xs) a = ap (λ (ys : List X). x ∷ ys) (alter_same f h P e i xs a)

module _ (k : Kind) (x : k.Ideal) where
  end_joined : (e : Option k.Ideal) → JoinsEnd k x e → end_under (join_or_empty k x) e ≡ push_end k x e
  end_joined none j = refl
  end_joined (some y) j = ap (λ (z : k.Ideal). some z) (cond_true (k.storable (k.join x y)) (k.join x y) k.empty j)

  arcs_joined : (es : List (Edge k.Ideal)) → Each (λ arc. k.storable (k.join x arc.output) ≡ true) es → map (output_under (join_or_empty k x)) es ≡ map (push_arc k x) es
  arcs_joined [] j = refl
  arcs_joined (e ∷ es) j =
      let a = cond_true (k.storable (k.join x e.output)) (k.join x e.output) k.empty j.0 in
      let b = arcs_joined es j.1 in
      λ i. record { byte = e.byte; target = e.target; output = a i } ∷ b i

  record_joined : (o : Open k.Ideal) → Joins k x o → outputs_under (join_or_empty k x) o ≡ push k x o
  record_joined o j = let a = end_joined o.end j.0 in let b = arcs_joined o.arcs j.1 in λ i. record { end = a i; arcs = b i; since = o.since }

  -- where all joins are storable, joining is pushing
  pub pushes : (d : ℕ) (os : List (Open k.Ideal)) → At d (Joins k x) os → alter d (outputs_under (join_or_empty k x)) os ≡ alter d (push k x) os
  pushes d os j = alter_same (outputs_under (join_or_empty k x)) (push k x) (Joins k x) record_joined d os j

module _ (k : Kind) (laws : Laws k) where
  end_still : (e : Option k.Ideal) → push_end k k.empty e ≡ e
  end_still none = refl
  end_still (some y) = ap (λ (z : k.Ideal). some z) (laws.neutral_left y)

  arcs_still : (es : List (Edge k.Ideal)) → map (push_arc k k.empty) es ≡ es
  arcs_still [] = refl
  arcs_still (e ∷ es) = let a = laws.neutral_left e.output in let b = arcs_still es in λ i. record { byte = e.byte; target = e.target; output = a i } ∷ b i

  push_still : (o : Open k.Ideal) → push k k.empty o ≡ o
  push_still o = let a = end_still o.end in let b = arcs_still o.arcs in λ i. record { end = a i; arcs = b i; since = o.since }

  -- the empty output in front changes nothing
  pub pushes_nothing : (x : k.Ideal) → x ≡ k.empty → (d : ℕ) (os : List (Open k.Ideal)) → alter d (push k x) os ≡ os
  pushes_nothing x e d os = ap (λ (y : k.Ideal). alter d (push k y) os) e ∙ alter_still (push k k.empty) push_still d os
