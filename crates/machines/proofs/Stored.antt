-- The minimal machine can be stored: its outputs are storable, and its numbers are bounded. Assumes ascending keys of bytes and storable outputs.
use Rattle.std.proofs.Common.{◌≡◌, ℕ, suc, ◌+◌, ◌<◌, ◌≤◌, true, List, [], ◌∷◌, ◌++◌, length, sym, refl, ap, ◌∙◌, subst, append_assoc, append-nil, arith}
use mathlib.Core.Option.{Option, none, some}
use lib.ListN.{length-map}
use Rattle.outputs.specs.Kinds.{Kind, Laws}
use Rattle.machines.specs.Lists.{at, Each}
use Rattle.machines.specs.Keys.{Key, past}
use Rattle.machines.specs.Machines.{Arc, State, end_flag, sum_at}
use Rattle.machines.specs.Pairs.{Pairs, output_of, under, KeyPrefix, first_bytes, Ascending, ByteKeys, AllStorable}
use Rattle.machines.specs.Residuals.{greatest_common, first_prefixes}
use Rattle.machines.specs.Minimal.{rest_some, end_of, state_of, minimal, key_counts}
use Rattle.machines.specs.Numbering.{Rising}
use Rattle.machines.specs.Storing.{StoringState, Storing}
use Rattle.machines.proofs.Lists.{In, each_in, at_in, at_unmap}
use Rattle.machines.proofs.PrefixLaws.{greatest_prefix, rest_storable}
use Rattle.machines.proofs.Under.{under_found}
use Rattle.machines.proofs.RightAnswers.{common_grows}
use Rattle.machines.proofs.CommonOutputs.{found_prefixed}
use Rattle.machines.proofs.Walks.{common_storable, storable_found}
use Rattle.machines.proofs.Targets.{state_first, next_prefix, each_arc, arcs_rise, on_bytes}
use Rattle.machines.proofs.AcceptedKeys.{state_counted, count_some}

-- rising bytes below 256 are at most 256
module _ {A : Type 0} where
  few_rising : (arcs : List (Arc A)) (least : ℕ) → Rising arcs → Each (λ arc. arc.byte < 256) arcs → Each (λ arc. least ≤ arc.byte) arcs → least ≤ 256 → length arcs + least ≤ 256
  few_rising [] least r b l h = omega arith
  few_rising (arc ∷ arcs) least r b l h =
      omega (arith, l.0, few_rising arcs (suc arc.byte) r.1 b.1 (above arcs r.0) (omega (arith, b.0)))
    where
      above : (later : List (Arc A)) → Each (λ x. arc.byte < x.byte) later → Each (λ x. suc arc.byte ≤ x.byte) later
      above [] o = tt
      above (x ∷ later) o = (omega (arith, o.0), above later o.1)

  from_zero : (arcs : List (Arc A)) → Each (λ arc. 0 ≤ arc.byte) arcs
  from_zero [] = tt
  from_zero (arc ∷ arcs) = (omega arith, from_zero arcs)

  -- with a sum there is something to sum
  some_sum : (ns : List ℕ) (arcs : List (Arc A)) (flag : ℕ) → 0 < flag + sum_at ns arcs → 0 < flag + length arcs
  some_sum ns [] flag h = h
  some_sum ns (arc ∷ arcs) flag h = omega arith

  pub under_within : (P : Pairs A) (u : Key) → length (under P u) ≤ length P
  under_within [] u = omega arith
  under_within (p ∷ P) u = go (past u p.0) (under_within P u)
    where
      go : (o : Option Key) → length (under P u) ≤ length P → length {A = Key × A} (elim o [ none ↦ under P u | some w ↦ (w, p.1) ∷ under P u ]) ≤ suc (length P)
      go none h = omega arith
      go (some w) h = omega arith

module _ (k : Kind) (laws : Laws k) (P : Pairs k.Ideal) (ascending : Ascending P) (bytes : ByteKeys P) (storable : AllStorable k P) where
  end_storable : (v : Key) (x : k.Ideal) → end_of k P v ≡ some x → k.storable x ≡ true
  end_storable v x e = go (output_of P v) refl e
    where
      go : (o : Option k.Ideal) → output_of P v ≡ o → rest_some k (greatest_common k P v) o ≡ some x → k.storable x ≡ true
      go none f g = let o : ◌≡◌ {A = ℕ} 0 1 = cc in absurd (omega arith)
      go (some z) f g =
          let o : k.rest (greatest_common k P v) z ≡ x = cc in
          subst (λ y. k.storable y ≡ true) o
          (rest_storable laws (greatest_common k P v) z
          (found_prefixed k laws (greatest_common k P v) (under P v) [] z (greatest_prefix laws (under P v)) (under_found P v [] ∙ ap (output_of P) (append-nil v) ∙ f))
          (storable_found k laws P ascending storable P v z storable f))

  arc_storable : (v : Key) (a : ℕ) → In a (first_bytes (under P v)) → k.storable (k.rest (greatest_common k P v) (greatest_common k P (v ++ (a ∷ [])))) ≡ true
  arc_storable v a i =
      let s = next_prefix k laws P v a i in
      rest_storable laws (greatest_common k P v) (greatest_common k P (v ++ (a ∷ [])))
      (common_grows k laws P ascending storable v a (s.0, s.1, under_found P v (a ∷ s.0) ∙ ap (output_of P) (sym (append_assoc v (a ∷ []) s.0)) ∙ s.2))
      (common_storable k laws P ascending storable (v ++ (a ∷ [])) s)

  storing_state : (i : ℕ) (s : State k.Ideal) → at (minimal k P).states i ≡ some s → StoringState k s
  storing_state i s e =
      let v = state_first k laws P i s e in
      let counted = state_counted k laws P ascending storable i s e in
      record {
        some_way = some_sum (key_counts k P) s.arcs (end_flag s.end) (count_some k laws P ascending storable i _ counted);
        few_arcs = omega (arith, few_rising s.arcs 0 (arcs_rise k laws P ascending i s e) (each_in (λ t. Each (λ arc. arc.byte < 256) t.arcs) (minimal k P).states s (on_bytes k laws P ascending bytes) (at_in (minimal k P).states i s e)) (from_zero s.arcs) (omega arith));
        end_storable = λ x f. end_storable v.0 x (ap (λ t. t.end) v.2 ∙ f);
        arcs_storable = subst (λ t. Each (λ arc. k.storable arc.output ≡ true) t.arcs) v.2
            (each_arc k laws P (λ arc. k.storable arc.output ≡ true) (first_prefixes k P) v.0 (first_bytes (under P v.0)) (arc_storable v.0));
      }

  pub storing : KeyPrefix P [] → Storing k P
  storing nonempty = record {
    start_storable = common_storable k laws P ascending storable [] nonempty;
    each_state = storing_state;
    each_counted = length-map (first_prefixes k P) (λ u. length (under P u)) ∙ sym (length-map (first_prefixes k P) (state_of k P (first_prefixes k P)));
    counts_within = λ i n e. let v = at_unmap (λ u. length (under P u)) (first_prefixes k P) i n e in subst (λ m. m ≤ length P) v.2 (under_within P v.0);
  }
