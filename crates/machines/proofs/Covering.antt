-- Prefixes of which no two are alike are no more than others that each of them is alike to, and have no more next bytes. Assumes the laws of a kind.
use Rattle.std.proofs.Common.{◌≡◌, ℕ, zero, suc, ◌≤◌, true, false, ◌⊎◌, List, [], ◌∷◌, ◌++◌, length, sym, refl, ap, ◌∙◌, subst, inl, inr, arith}
use mathlib.Core.Option.{Option, some}
use borrow.Author.Tests.{both_ways}
use Rattle.outputs.specs.Kinds.{Kind, Laws}
use Rattle.machines.specs.Lists.{at, Each}
use Rattle.machines.specs.Keys.{Key}
use Rattle.machines.specs.Pairs.{Pairs, under, first_bytes, AllStorable}
use Rattle.machines.specs.Residuals.{residual, alike, any_alike, firsts_after}
use Rattle.machines.specs.Memory.{next_bytes}
use Rattle.machines.proofs.Lists.{In}
use Rattle.machines.proofs.Counting.{Lacks, Different, weight, weigh, weigh_all, weigh_different}
use Rattle.machines.proofs.Classes.{Apart, alike_since}
use Rattle.machines.proofs.CommonOutputs.{same_pairs_true}
use Rattle.machines.proofs.RightAnswers.{class_found, alike_first, residual_storable}
use Rattle.machines.proofs.Targets.{bytes_rests}

pub at_left : {A : Type 0} (F O : List A) (q : ℕ) (v : A) → at F q ≡ some v → at (F ++ O) q ≡ some v
at_left [] O q v e = let o : ◌≡◌ {A = ℕ} 0 1 = cc in absurd (omega arith)
at_left (f ∷ F) O zero v e = e
at_left (f ∷ F) O (suc q) v e = at_left F O q v e

pub in_right : {A : Type 0} (F O : List A) (v : A) → In v O → (q : ℕ) × (at (F ++ O) q ≡ some v)
in_right {A} [] [] v i = absurd i
in_right {A} [] (o ∷ O) v (inl e) = (0, ap {B = Option A} some (sym e))
in_right [] (o ∷ O) v (inr i) = let d = in_right [] O v i in (suc d.0, d.1)
in_right (f ∷ F) O v i = let d = in_right F O v i in (suc d.0, d.1)

module _ (k : Kind) (laws : Laws k) (P : Pairs k.Ideal) where
  -- u has the same residual as an element of L
  pub record Covered (L : List Key) (u : Key) : Type 0 where
    pub place : ℕ
    pub element : Key
    pub there : at L place ≡ some element
    pub same : residual k P u ≡ residual k P element

  places : (L us : List Key) → Each (Covered L) us → List ℕ
  places L [] h = []
  places L (u ∷ us) h = h.0.place ∷ places L us h.1

  apart_lacks : (L : List Key) (u : Key) (c : Covered L u) (us : List Key) (h : Each (Covered L) us) → Each (λ v. alike k P v u ≡ false) us → Lacks c.place (places L us h)
  unfolding places
  apart_lacks L u c [] h d = tt
  apart_lacks L u c (v ∷ vs) h d = (
    λ e. both_ways (alike k P v u) d.0
        (alike_since k P v u (h.0.same ∙ ap (residual k P) (one h.0.place c.place h.0.element c.element (sym e) h.0.there c.there) ∙ sym c.same)),
    apart_lacks L u c vs h.1 d.1,
  )
    where
      one : (p q : ℕ) (x y : Key) → p ≡ q → at L p ≡ some x → at L q ≡ some y → x ≡ y
      one p q x y e f g = let h : at L p ≡ some y = subst (λ i. at L i ≡ some y) (sym e) g in cc

  different_places : (L us : List Key) (h : Each (Covered L) us) → Apart k P us → Different (places L us h)
  unfolding places
  different_places L [] h d = tt
  different_places L (u ∷ us) h d = (apart_lacks L u h.0 us h.1 d.0, different_places L us h.1 d.1)

  next_count : Key → ℕ
  next_count u = length (first_bytes (under P u))

  same_count : (u v : Key) → residual k P u ≡ residual k P v → next_count u ≡ next_count v
  unfolding next_count
  same_count u v e = ap length (sym (bytes_rests k laws P _ (under P u)) ∙ ap first_bytes e ∙ bytes_rests k laws P _ (under P v))

  weigh_one : (L us : List Key) (h : Each (Covered L) us) → weigh (λ v. 1) L (places L us h) ≡ length us
  unfolding places
  weigh_one L [] h = refl
  weigh_one L (u ∷ us) h = omega (arith, ap (weight (λ v. 1)) h.0.there, weigh_one L us h.1)

  weigh_next : (L us : List Key) (h : Each (Covered L) us) → weigh next_count L (places L us h) ≡ next_bytes P us
  unfolding places next_count
  weigh_next L [] h = refl
  weigh_next L (u ∷ us) h = omega (arith, ap (weight next_count) h.0.there, same_count u h.0.element h.0.same, weigh_next L us h.1)

  weigh_all_one : (L : List Key) → weigh_all (λ v. 1) L ≡ length L
  weigh_all_one [] = refl
  weigh_all_one (v ∷ L) = omega (arith, weigh_all_one L)

  weigh_all_next : (L : List Key) → weigh_all next_count L ≡ next_bytes P L
  unfolding next_count
  weigh_all_next [] = refl
  weigh_all_next (v ∷ L) = omega (arith, weigh_all_next L)

  pub cover : (L us : List Key) → Apart k P us → Each (Covered L) us → (length us ≤ length L) × (next_bytes P us ≤ next_bytes P L)
  cover L us d h = (
    omega (arith, weigh_one L us h, weigh_all_one L, weigh_different (λ v. 1) L (places L us h) (different_places L us h d)),
    omega (arith, weigh_next L us h, weigh_all_next L, weigh_different next_count L (places L us h) (different_places L us h d)),
  )

  module _ (storable : AllStorable k P) where
    -- the firsts of a list cover it
    pub covered_firsts : (us : List Key) (u : Key) → In u us → Covered (firsts_after k P [] us) u
    covered_firsts us u i = by (alike_first k laws P u [] us i)
      where
        by : (any_alike k P u [] ≡ true) ⊎ (any_alike k P u (firsts_after k P [] us) ≡ true) → Covered (firsts_after k P [] us) u
        by (inl f) = absurd (both_ways false refl f)
        by (inr t) =
            let c = class_found k laws P (firsts_after k P [] us) u t in
            record { place = _; element = c.0; there = c.1; same = same_pairs_true k laws (residual k P u) (residual k P c.0) (residual_storable k laws P storable u) (residual_storable k laws P storable c.0) c.2 }
