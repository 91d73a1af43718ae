-- No two states of the minimal machine are equal, and each puts out what it can no later than it must. Assumes ascending keys and storable outputs.
use Rattle.std.proofs.Common.{◌≡◌, ℕ, Bool, true, false, eqb, List, [], ◌∷◌, sym, refl, ap, ◌∙◌, subst, arith}
use mathlib.Core.Option.{Option, none, some}
use Rattle.outputs.specs.Kinds.{Kind, Laws, PrefixOf}
use Rattle.machines.specs.Lists.{at, Each}
use Rattle.machines.specs.Keys.{Key}
use Rattle.machines.specs.Machines.{Arc, State, arc_on, arc_at, end_at, join_some, answer_from}
use Rattle.machines.specs.Pairs.{Pairs, output_of, under, KeyPrefix, Ascending, AllStorable}
use Rattle.machines.specs.Residuals.{greatest, greatest_common, residual, first_prefixes}
use Rattle.machines.specs.Minimal.{minimal, rest_some}
use Rattle.machines.specs.Numbering.{PrefixOfSome, Onward}
use Rattle.machines.proofs.Order.{ascending_eq}
use Rattle.machines.proofs.PrefixLaws.{prefix_trans, greatest_prefix}
use Rattle.machines.proofs.Under.{under_found, ascending_under, ascending_rests, rests_found, all_from}
use Rattle.machines.proofs.RightAnswers.{answers}
use Rattle.machines.proofs.CommonOutputs.{greatest_found}
use Rattle.machines.proofs.Walks.{greatest_rests}
use Rattle.machines.proofs.ClassNumbers.{class_residual, class_at}
use Rattle.machines.proofs.Targets.{state_first, first_is_prefix}

module _ (k : Kind) where
  -- places with the same state answer alike
  answer_same : (states : List (State k.Ideal)) (i j : ℕ) → at states i ≡ at states j → (w : Key) → answer_from k states i w ≡ answer_from k states j w
  answer_same states i j e [] = ap end_at e
  answer_same states i j e (a ∷ w) =
      ap (λ o. elim (arc_at {A = k.Ideal} o a) as (λ x. Option k.Ideal) [ none ↦ none | some arc ↦ join_some k arc.output (answer_from k states arc.target w) ]) e

  each_on : (Q : Arc k.Ideal → Type 0) (arcs : List (Arc k.Ideal)) (a : ℕ) (arc : Arc k.Ideal) → Each Q arcs → arc_on a arcs ≡ some arc → Q arc
  each_on Q [] a arc h e = let o : ◌≡◌ {A = ℕ} 0 1 = cc in absurd (omega arith)
  each_on Q (x ∷ arcs) a arc h e = go (eqb x.byte a) e (each_on Q arcs a arc h.1)
    where
      go : (t : Bool) → ◌≡◌ {A = Option (Arc k.Ideal)} (elim t [ true ↦ some x | false ↦ arc_on a arcs ]) (some arc) → (arc_on a arcs ≡ some arc → Q arc) → Q arc
      go true f deep = let o : x ≡ arc = cc in subst Q o h.0
      go false f deep = deep f

module _ (k : Kind) (laws : Laws k) where
  -- a prefix of all that a state puts out is a prefix of each of its answers
  prefix_answers : (states : List (State k.Ideal)) (i : ℕ) (s : State k.Ideal) → at states i ≡ some s → (x : k.Ideal) → PrefixOfSome k x s.end → Each (λ arc. PrefixOf k x arc.output) s.arcs
      → (w : Key) (z : k.Ideal) → answer_from k states i w ≡ some z → PrefixOf k x z
  prefix_answers states i s e x h g [] z f = go s.end h (sym (ap end_at e) ∙ f)
    where
      go : (o : Option k.Ideal) → PrefixOfSome k x o → o ≡ some z → PrefixOf k x z
      go none p q = let o : ◌≡◌ {A = ℕ} 0 1 = cc in absurd (omega arith)
      go (some y) p q = let o : y ≡ z = cc in subst (PrefixOf k x) o p
  prefix_answers states i s e x h g (a ∷ w) z f = go (arc_on a s.arcs) refl (sym (ap step (ap (λ o. arc_at o a) e)) ∙ f)
    where
      step : Option (Arc k.Ideal) → Option k.Ideal
      step o = elim o [ none ↦ none | some arc ↦ join_some k arc.output (answer_from k states arc.target w) ]

      go : (o : Option (Arc k.Ideal)) → arc_on a s.arcs ≡ o → step o ≡ some z → PrefixOf k x z
      go none p q = let o : ◌≡◌ {A = ℕ} 0 1 = cc in absurd (omega arith)
      go (some arc) p q = by (answer_from k states arc.target w) q
        where
          by : (r : Option k.Ideal) → join_some k arc.output r ≡ some z → PrefixOf k x z
          by none c = let o : ◌≡◌ {A = ℕ} 0 1 = cc in absurd (omega arith)
          by (some y) c = let o : k.join arc.output y ≡ z = cc in prefix_trans laws x arc.output z (each_on k (λ b. PrefixOf k x b.output) s.arcs a arc g p) (y, o)

  module _ (P : Pairs k.Ideal) (ascending : Ascending P) (storable : AllStorable k P) where
    -- a state answers what the residual of its first prefix holds
    state_answers : (i : ℕ) (v : Key) → at (first_prefixes k P) i ≡ some v → (w : Key) → answer_from k (minimal k P).states i w ≡ output_of (residual k P v) w
    state_answers i v e w =
        ap (λ q. answer_from k (minimal k P).states q w) (sym (class_at k P i v e)) ∙ answers k laws P ascending storable w v (first_is_prefix k laws P i v e)

    pub residual_ascending : (v : Key) → Ascending (residual k P v)
    residual_ascending v = ascending_rests k laws _ (under P v) (ascending_under P v ascending)

    pub different : (i j : ℕ) (s : State k.Ideal) → at (minimal k P).states i ≡ some s → at (minimal k P).states j ≡ some s → i ≡ j
    different i j s ei ej =
        let u = state_first k laws P i s ei in
        let v = state_first k laws P j s ej in
        let same : residual k P u.0 ≡ residual k P v.0
        = ascending_eq _ _ (residual_ascending u.0) (residual_ascending v.0)
        (λ w. sym (state_answers i u.0 u.1 w) ∙ answer_same k (minimal k P).states i j (ei ∙ sym ej) w ∙ state_answers j v.0 v.1 w) in
        sym (class_at k P i u.0 u.1) ∙ class_residual k P (first_prefixes k P) u.0 v.0 same ∙ class_at k P j v.0 v.1

    -- nothing is common to all outputs of a residual
    residual_empty : (v : Key) → KeyPrefix P v → greatest k (residual k P v) ≡ k.empty
    residual_empty v t =
        let c : k.Ideal = greatest_common k P v in
        greatest_rests k laws c (under P v) t.0 t.1 (under_found P v t.0 ∙ t.2) (greatest_prefix laws (under P v))
        ∙ ap (k.rest c) (sym (laws.neutral_right c)) ∙ laws.rest_of_join c k.empty

    pub onward : (i : ℕ) (s : State k.Ideal) → at (minimal k P).states i ≡ some s → Onward k s
    onward i s e x h g =
        let v = state_first k laws P i s e in
        let t = first_is_prefix k laws P i v.0 v.1 in
        let all : (w : Key) (z : k.Ideal) → output_of (residual k P v.0) w ≡ some z → PrefixOf k x z
        = λ w z f. prefix_answers (minimal k P).states i s e x h g w z (state_answers i v.0 v.1 w ∙ f) in
        let found : output_of (residual k P v.0) t.0 ≡ some (k.rest (greatest_common k P v.0) t.1)
        = rests_found k laws (greatest_common k P v.0) (under P v.0) t.0 ∙ ap (rest_some k (greatest_common k P v.0)) (under_found P v.0 t.0 ∙ t.2) in
        let b : PrefixOf k x (greatest k (residual k P v.0))
        = greatest_found k laws x (residual k P v.0) t.0 _ found (all_from k laws x (residual k P v.0) (residual_ascending v.0) all) in
        (laws.empty_parts x b.0 (b.1 ∙ residual_empty v.0 t)).0
