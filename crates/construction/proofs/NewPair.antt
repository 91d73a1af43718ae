-- A pair that comes with a key above the newest: what its key shares with that one, and what is common then. Assumes the laws of a kind.
use Rattle.std.proofs.Common.{◌≡◌, ◌-◌, true, [], ◌∷◌, ◌++◌, length, sym, refl, ap, ◌∙◌, subst, append_assoc, append-nil, arith, length-append}
use mathlib.Core.Option.{Option, none, some}
use Rattle.outputs.specs.Kinds.{Kind, Laws, PrefixOf}
use Rattle.machines.specs.Keys.{Key, past}
use Rattle.machines.specs.Pairs.{Pairs, output_of, under, KeyPrefix, Ascending, AllStorable}
use Rattle.machines.specs.Memory.{newest}
use Rattle.machines.specs.Residuals.{greatest_common}
use Rattle.machines.specs.Minimal.{rest_some, end_of}
use Rattle.machines.proofs.Under.{past_append, under_found}
use Rattle.machines.proofs.PrefixLaws.{greatest_prefix}
use Rattle.machines.proofs.CommonOutputs.{found_prefixed}
use Rattle.machines.proofs.OneMore.{under_end_some}
use Rattle.construction.specs.Steps.{push_end}
use Rattle.construction.proofs.Lists.{each_left}
use Rattle.construction.proofs.OneMore.{Leaves, output_other, newest_prefix, ascending_left}
use Rattle.construction.proofs.Commons.{common_more, rest_on}

-- A pair that comes after some pairs, by ascending keys and with storable outputs; the newest key before it, and where its key leaves that.
pub record Comes (k : Kind) (P : Pairs k.Ideal) (e : Key × k.Ideal) : Type 0 where
  pub ascending : Ascending (P ++ (e ∷ []))
  pub storable : AllStorable k (P ++ (e ∷ []))
  pub low : Key
  pub newest_is : newest P ≡ some low
  pub leaves : Leaves low e.0

-- u begins what is shared, and t follows
abbrev pub Shares : {k : Kind} {P : Pairs k.Ideal} {e : Key × k.Ideal} → Comes k P e → Key → Key → Type 0
Shares c u t = c.leaves.shared ≡ u ++ t

module _ (k : Kind) (P : Pairs k.Ideal) (e : Key × k.Ideal) where
  -- what the records in front of that of u give up, and what is left of the new output there
  abbrev pub carried : Key → k.Ideal
  carried u = k.rest (greatest_common k (P ++ (e ∷ [])) u) (greatest_common k P u)

  abbrev pub remains : Key → k.Ideal
  remains u = k.rest (greatest_common k (P ++ (e ∷ [])) u) e.1

module _ (k : Kind) (laws : Laws k) (P : Pairs k.Ideal) (e : Key × k.Ideal) (c : Comes k P e) where
  abbrev P' : Pairs k.Ideal
  P' = P ++ (e ∷ [])

  pub ascends : Ascending P
  ascends = ascending_left P (e ∷ []) c.ascending

  pub stores : AllStorable k P
  stores = each_left (λ p. k.storable p.1 ≡ true) P (e ∷ []) c.storable

  pub shares_key : (u t : Key) → Shares c u t → e.0 ≡ u ++ (t ++ (c.leaves.byte ∷ c.leaves.new))
  shares_key u t h = c.leaves.key_is ∙ ap (λ v. v ++ (c.leaves.byte ∷ c.leaves.new)) h ∙ append_assoc u t (c.leaves.byte ∷ c.leaves.new)

  pub shares_low : (u t : Key) → Shares c u t → c.low ≡ u ++ (t ++ c.leaves.old)
  shares_low u t h = c.leaves.low_is ∙ ap (λ v. v ++ c.leaves.old) h ∙ append_assoc u t c.leaves.old

  pub shares_past : (u t : Key) → Shares c u t → past u e.0 ≡ some (t ++ (c.leaves.byte ∷ c.leaves.new))
  shares_past u t h = ap (past u) (shares_key u t h) ∙ past_append u (t ++ (c.leaves.byte ∷ c.leaves.new))

  pub shares_prefix : (u t : Key) → Shares c u t → KeyPrefix P u
  shares_prefix u t h = newest_prefix P u (t ++ c.leaves.old) (c.newest_is ∙ ap {B = Option Key} some (shares_low u t h))

  -- the common output then
  pub common_then : (u t : Key) → Shares c u t → greatest_common k P' u ≡ k.common (greatest_common k P u) e.1
  common_then u t h = common_more laws P e u (t ++ (c.leaves.byte ∷ c.leaves.new)) (shares_past u t h) (shares_prefix u t h)

  pub then_before : (u t : Key) → Shares c u t → PrefixOf k (greatest_common k P' u) (greatest_common k P u)
  then_before u t h = subst (λ y. PrefixOf k y (greatest_common k P u)) (sym (common_then u t h)) (laws.common_of_left (greatest_common k P u) e.1)

  pub then_new : (u t : Key) → Shares c u t → PrefixOf k (greatest_common k P' u) e.1
  then_new u t h = subst (λ y. PrefixOf k y e.1) (sym (common_then u t h)) (laws.common_of_right (greatest_common k P u) e.1)

  push_end_rest : (c d : k.Ideal) (o : Option k.Ideal) → PrefixOf k c d → ((z : k.Ideal) → o ≡ some z → PrefixOf k d z) → push_end k (k.rest c d) (rest_some k d o) ≡ rest_some k c o
  push_end_rest c d none p f = refl
  push_end_rest c d (some z) p f = ap {B = Option k.Ideal} some (rest_on laws c d z p (f z refl))

  pub end_then : (u t : Key) → Shares c u t → push_end k (carried k P e u) (end_of k P u) ≡ end_of k P' u
  end_then u t h =
      push_end_rest (greatest_common k P' u) (greatest_common k P u) (output_of P u) (then_before u t h)
      (λ z f. found_prefixed k laws (greatest_common k P u) (under P u) [] z (greatest_prefix laws (under P u)) (under_found P u [] ∙ ap (output_of P) (append-nil u) ∙ f))
      ∙ ap (rest_some k (greatest_common k P' u)) (sym (output_other P e u (λ q. let z = sym (ap length (shares_key u t h)) ∙ ap length q in omega (arith, z, length-append u (t ++ (c.leaves.byte ∷ c.leaves.new)), length-append t (c.leaves.byte ∷ c.leaves.new)))))

  pub since_then : (u t : Key) → Shares c u t → length P - length (under P u) ≡ length P' - length (under P' u)
  since_then u t h =
      omega (arith, length-append P (e ∷ []), ap length (under_end_some P e u (t ++ (c.leaves.byte ∷ c.leaves.new)) (shares_past u t h)), length-append (under P u) ((t ++ (c.leaves.byte ∷ c.leaves.new), e.1) ∷ []))
