-- The number of a class is the place of its first prefix in postorder. Assumes ascending keys and storable outputs.
use Rattle.std.proofs.Common.{◌≡◌, ℕ, zero, suc, Bool, true, false, ◌⊎◌, List, [], ◌∷◌, sym, refl, ap, ◌∙◌, subst, inl, inr, arith}
use mathlib.Core.Option.{some}
use borrow.Author.Tests.{both_ways}
use Rattle.outputs.specs.Kinds.{Kind, Laws}
use Rattle.machines.specs.Lists.{at, Each}
use Rattle.machines.specs.Keys.{Key, same_key, postorder}
use Rattle.machines.specs.Pairs.{Pairs, KeyPrefix, key_prefixes, Ascending, AllStorable}
use Rattle.machines.specs.Residuals.{residual, same_pairs, alike, any_alike, firsts_after, first_prefixes, class_in, class_number}
use Rattle.machines.specs.Numbering.{InPostorder}
use Rattle.machines.proofs.Lists.{each_map}
use Rattle.machines.proofs.Order.{same_key_true}
use Rattle.machines.proofs.Classes.{each_first, same_pairs_refl, Apart, first_prefixes_apart}
use Rattle.machines.proofs.Postorder.{before, before_is, before_any, Sorted, prefixes_sorted, class_below}
use Rattle.machines.proofs.Membership.{in_key_prefixes}
use Rattle.machines.proofs.RightAnswers.{class_first}

module _ (k : Kind) (P : Pairs k.Ideal) where
  sorted_firsts : (seen us : List Key) → Sorted us → Sorted (firsts_after k P seen us)
  sorted_firsts seen [] h = tt
  sorted_firsts seen (u ∷ us) h = go (any_alike k P u seen) (sorted_firsts seen us h.1) (sorted_firsts (u ∷ seen) us h.1)
    where
      go : (t : Bool) → Sorted (firsts_after k P seen us) → Sorted (firsts_after k P (u ∷ seen) us)
          → Sorted (elim t [ true ↦ firsts_after k P seen us | false ↦ u ∷ firsts_after k P (u ∷ seen) us ])
      go true a b = a
      go false a b = (each_first k P (λ v. before u v ≡ true) (u ∷ seen) us h.0, b)

  in_order : (us : List Key) → Sorted us → InPostorder us
  in_order [] h = tt
  in_order (u ∷ us) h = (each_map (λ v. before u v ≡ true) (λ v. postorder u v ≡ true) us (λ v e. before_is u v ∙ e) h.0, in_order us h.1)

  pub firsts_in_postorder : InPostorder (first_prefixes k P)
  firsts_in_postorder = in_order (first_prefixes k P) (sorted_firsts [] (key_prefixes P) (prefixes_sorted P))

  -- prefixes with the same residual have the same class
  pub class_residual : (cs : List Key) (u v : Key) → residual k P u ≡ residual k P v → class_in k P cs u ≡ class_in k P cs v
  class_residual [] u v e = refl
  class_residual (c ∷ cs) u v e =
      ap (λ b. elim b as (λ t. ℕ) [ true ↦ 0 | false ↦ suc (class_in k P cs u) ]) (ap (λ F. same_pairs k F (residual k P c)) e)
      ∙ ap (λ n. elim (alike k P v c) as (λ t. ℕ) [ true ↦ 0 | false ↦ suc n ]) (class_residual cs u v e)

  -- of prefixes that are not alike, each has its own place as its class
  own_class : (cs : List Key) → Apart k P cs → (i : ℕ) (v : Key) → at cs i ≡ some v → class_in k P cs v ≡ i
  own_class [] d i v e = let o : ◌≡◌ {A = ℕ} 0 1 = cc in absurd (omega arith)
  own_class (c ∷ cs) d zero v e = let o : c ≡ v = cc in go (alike k P v c) (subst (λ u. alike k P v u ≡ true) (sym o) (same_pairs_refl k (residual k P v)))
    where
      go : (t : Bool) → t ≡ true → ◌≡◌ {A = ℕ} (elim t [ true ↦ 0 | false ↦ suc (class_in k P cs v) ]) 0
      go true s = refl
      go false s = absurd (both_ways false refl s)
  own_class (c ∷ cs) d (suc i) v e = go (alike k P v c) (apart cs i d.0 e) (own_class cs d.1 i v e)
    where
      apart : (us : List Key) (j : ℕ) → Each (λ u. alike k P u c ≡ false) us → at us j ≡ some v → alike k P v c ≡ false
      apart [] j h f = let o : ◌≡◌ {A = ℕ} 0 1 = cc in absurd (omega arith)
      apart (u ∷ us) zero h f = let o : u ≡ v = cc in subst (λ w. alike k P w c ≡ false) o h.0
      apart (u ∷ us) (suc j) h f = apart us j h.1 f

      go : (t : Bool) → t ≡ false → class_in k P cs v ≡ i → ◌≡◌ {A = ℕ} (elim t [ true ↦ 0 | false ↦ suc (class_in k P cs v) ]) (suc i)
      go true s deep = absurd (both_ways true s refl)
      go false s deep = ap suc deep

  pub class_at : (i : ℕ) (v : Key) → at (first_prefixes k P) i ≡ some v → class_number k P v ≡ i
  class_at i v e = own_class (first_prefixes k P) (first_prefixes_apart k P [] (key_prefixes P)) i v e

  -- the first of a class comes before every other of it
  pub first_of_class : (laws : Laws k) → Ascending P → AllStorable k P → (u : Key) → KeyPrefix P u
      → (v : Key) × (at (first_prefixes k P) (class_number k P u) ≡ some v) × (residual k P u ≡ residual k P v) × ((u ≡ v) ⊎ (postorder v u ≡ true))
  first_of_class laws ascending storable u s =
      let c = class_first k laws P ascending storable u s in
      (c.0, c.1, c.2, order c.0 c.1 (before u c.0) refl (same_key u c.0) refl)
    where
      order : (v : Key) → at (first_prefixes k P) (class_number k P u) ≡ some v → (b : Bool) → before u v ≡ b → (t : Bool) → same_key u v ≡ t → (u ≡ v) ⊎ (postorder v u ≡ true)
      order v at_v true b t e = absurd (omega (arith, class_below k P (class_number k P u) v u at_v (in_key_prefixes P u s.0 s.1 s.2) b))
      order v at_v false b true e = inl (same_key_true u v e)
      order v at_v false b false e = inr (before_is v u ∙ before_any u v b e)
