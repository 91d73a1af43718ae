-- The states of two prefixes compare as equal exactly if the prefixes are alike. Assumes ascending keys and storable outputs.
use Rattle.std.proofs.Common.{◌≡◌, ℕ, true, false, ◌⊎◌, List, [], ◌∷◌, ◌++◌, sym, refl, ap, ◌∙◌, subst, ap₂, inl, inr, append-nil, arith}
use mathlib.Core.Option.{Option, none, some}
use borrow.Author.Tests.{both_ways}
use Rattle.std.proofs.lemmas.Bool.{cases_Bool}
use Rattle.outputs.specs.Kinds.{Kind, Laws, PrefixOf}
use Rattle.machines.specs.Lists.{at, Each}
use Rattle.machines.specs.Keys.{Key}
use Rattle.machines.specs.Machines.{Arc, arc_on, join_some}
use Rattle.machines.specs.Pairs.{Pairs, output_of, under, first_bytes, Ascending, AllStorable}
use Rattle.machines.specs.Residuals.{greatest, greatest_common, rests, residual, alike, any_alike, class_in}
use Rattle.machines.specs.Minimal.{arcs_of, rest_some, end_of, state_of}
use Rattle.machines.proofs.Lists.{In, at_one, each_in}
use Rattle.machines.proofs.Classes.{alike_since}
use Rattle.machines.proofs.Order.{ascending_eq}
use Rattle.machines.proofs.Counting.{Lacks}
use Rattle.machines.proofs.FirstBytes.{Heads, all_head}
use Rattle.machines.proofs.Under.{under_found, ascending_under, rests_found, all_from}
use Rattle.machines.proofs.PrefixLaws.{AllPrefixed, greatest_prefix, rest_storable}
use Rattle.machines.proofs.Membership.{lacks_none, lacks_or_in, in_heads}
use Rattle.machines.proofs.CommonOutputs.{found_prefixed, rest_steps, same_pairs_true}
use Rattle.machines.proofs.RightAnswers.{residual_storable, longer, common_grows, arc_lacks, arc_in, arc_of, class_found}
use Rattle.machines.proofs.Walks.{greatest_rests, rests_longer, residual_on, common_storable, storable_found}
use Rattle.machines.proofs.ClassNumbers.{class_residual}
use Rattle.machines.proofs.Targets.{each_arc, next_prefix, bytes_rests}
use Rattle.machines.proofs.Distinct.{residual_ascending}
use Rattle.construction.specs.Records.{same_state}
use Rattle.machines.specs.Storing.{EndStorable, StateStorable}
use Rattle.construction.proofs.Comparing.{same_state_self, same_state_equal}

module _ (k : Kind) (laws : Laws k) where
  module _ (P : Pairs k.Ideal) (ascending : Ascending P) (storable : AllStorable k P) where
    pub alike_residual : (u v : Key) → alike k P u v ≡ true → residual k P u ≡ residual k P v
    alike_residual u v e = same_pairs_true k laws (residual k P u) (residual k P v) (residual_storable k laws P storable u) (residual_storable k laws P storable v) e

    -- what is found in one class has one residual
    same_class : (cs : List Key) (u v : Key) → any_alike k P u cs ≡ true → any_alike k P v cs ≡ true → class_in k P cs u ≡ class_in k P cs v → residual k P u ≡ residual k P v
    same_class cs u v a b e =
        let c = class_found k laws P cs u a in
        let d = class_found k laws P cs v b in
        let o : c.0 ≡ d.0 = at_one cs (class_in k P cs v) c.0 d.0 (subst (λ n. at cs n ≡ some c.0) e c.1) d.1 in
        alike_residual u c.0 c.2 ∙ ap (residual k P) o ∙ sym (alike_residual v d.0 d.2)

    found_storable : (Q : Pairs k.Ideal) (w : Key) → AllStorable k Q → (o : Option k.Ideal) → output_of Q w ≡ o → EndStorable k o
    found_storable Q w s none e = tt
    found_storable Q w s (some z) e = storable_found k laws P ascending storable Q w z s e

    end_is : (u : Key) → end_of k P u ≡ output_of (residual k P u) []
    end_is u = ap (λ v. rest_some k (greatest_common k P u) (output_of P v)) (sym (append-nil u)) ∙ ap (rest_some k (greatest_common k P u)) (sym (under_found P u [])) ∙ sym (rests_found k laws (greatest_common k P u) (under P u) [])

    head_of : (u : Key) (a : ℕ) → In a (first_bytes (under P u)) → Heads (under P u) a
    head_of u a i = in_heads (under P u) a (first_bytes (under P u)) (all_head (under P u)) i

    -- the common output grows along a next byte
    pub common_on : (u : Key) (a : ℕ) → In a (first_bytes (under P u)) → PrefixOf k (greatest_common k P u) (greatest_common k P (u ++ (a ∷ [])))
    common_on u a i = common_grows k laws P ascending storable u a (head_of u a i)

    -- all outputs of a prefix's state are storable
    pub state_storable : (cs : List Key) (u : Key) → StateStorable k (state_of k P cs u)
    state_storable cs u = (
      subst (EndStorable k) (sym (end_is u)) (found_storable (residual k P u) [] (residual_storable k laws P storable u) (output_of (residual k P u) []) refl),
      each_arc k laws P (λ arc. k.storable arc.output ≡ true) cs u (first_bytes (under P u))
          (λ a i. rest_storable laws (greatest_common k P u) (greatest_common k P (u ++ (a ∷ []))) (common_on u a i) (common_storable k laws P ascending storable (u ++ (a ∷ [])) (next_prefix k laws P u a i))),
    )

    -- an arc's output is told by the residual of its source
    output_is : (u : Key) (a : ℕ) → In a (first_bytes (under P u)) → k.rest (greatest_common k P u) (greatest_common k P (u ++ (a ∷ []))) ≡ greatest k (under (residual k P u) (a ∷ []))
    output_is u a i =
        let s = next_prefix k laws P u a i in
        let all : AllPrefixed k (greatest_common k P u) (under P (u ++ (a ∷ [])))
        = all_from k laws (greatest_common k P u) (under P (u ++ (a ∷ []))) (ascending_under P (u ++ (a ∷ [])) ascending)
        (λ v z e. found_prefixed k laws (greatest_common k P u) (under P u) (a ∷ v) z (greatest_prefix laws (under P u)) (sym (longer k laws P ascending storable u a v) ∙ e)) in
        sym (greatest_rests k laws (greatest_common k P u) (under P (u ++ (a ∷ []))) s.0 s.1 (under_found P (u ++ (a ∷ [])) s.0 ∙ s.2) all)
        ∙ ap (greatest k) (sym (rests_longer k laws P ascending storable u a))

    -- equal residuals make equal states
    state_equal : (cs : List Key) (u v : Key) → residual k P u ≡ residual k P v → state_of k P cs u ≡ state_of k P cs v
    state_equal cs u v e = λ i. record { end = ends i; arcs = arcs i }
      where
        bytes : first_bytes (under P u) ≡ first_bytes (under P v)
        bytes = sym (bytes_rests k laws P (greatest_common k P u) (under P u)) ∙ ap first_bytes e ∙ bytes_rests k laws P (greatest_common k P v) (under P v)

        ends : end_of k P u ≡ end_of k P v
        ends = end_is u ∙ ap (λ F. output_of F []) e ∙ sym (end_is v)

        arc : (a : ℕ) → In a (first_bytes (under P u)) → arc_of k laws P cs u a ≡ arc_of k laws P cs v a
        arc a i =
            let t : class_in k P cs (u ++ (a ∷ [])) ≡ class_in k P cs (v ++ (a ∷ []))
            = class_residual k P cs (u ++ (a ∷ [])) (v ++ (a ∷ [])) (residual_on k laws P ascending storable u a ∙ ap (λ F. rests k (greatest k (under F (a ∷ []))) (under F (a ∷ []))) e ∙ sym (residual_on k laws P ascending storable v a)) in
            let o : k.rest (greatest_common k P u) (greatest_common k P (u ++ (a ∷ []))) ≡ k.rest (greatest_common k P v) (greatest_common k P (v ++ (a ∷ [])))
            = output_is u a i ∙ ap (λ F. greatest k (under F (a ∷ []))) e ∙ sym (output_is v a (subst (In a) bytes i)) in
            λ j. record { byte = a; target = t j; output = o j }

        each : (as' : List ℕ) → ((a : ℕ) → In a as' → In a (first_bytes (under P u))) → arcs_of k P cs u as' ≡ arcs_of k P cs v as'
        each [] f = refl
        each (a ∷ as') f = ap₂ {C = List (Arc k.Ideal)} (λ x xs. x ∷ xs) (arc a (f a (inl refl))) (each as' (λ b i. f b (inr i)))

        arcs : arcs_of k P cs u (first_bytes (under P u)) ≡ arcs_of k P cs v (first_bytes (under P v))
        arcs = each (first_bytes (under P u)) (λ a i. i) ∙ ap (arcs_of k P cs v) bytes

    -- every prefix that is one byte longer has its class in the list
    abbrev pub Complete : List Key → Key → Type 0
    Complete cs u = Each (λ a. any_alike k P (u ++ (a ∷ [])) cs ≡ true) (first_bytes (under P u))

    behind_none : (u : Key) (a : ℕ) (w : Key) → Lacks a (first_bytes (under P u)) → output_of (residual k P u) (a ∷ w) ≡ none
    behind_none u a w l = rests_found k laws (greatest_common k P u) (under P u) (a ∷ w) ∙ ap (rest_some k (greatest_common k P u)) (lacks_none (under P u) a w l)

    behind_some : (cs : List Key) (u : Key) (a : ℕ) (w : Key) → In a (first_bytes (under P u)) → output_of (residual k P u) (a ∷ w) ≡ join_some k (arc_of k laws P cs u a).output (output_of (residual k P (u ++ (a ∷ []))) w)
    behind_some cs u a w i =
        let c : k.Ideal = greatest_common k P u in
        let d : k.Ideal = greatest_common k P (u ++ (a ∷ [])) in
        rests_found k laws c (under P u) (a ∷ w)
        ∙ ap (rest_some k c) (sym (longer k laws P ascending storable u a w))
        ∙ sym (rest_steps k laws c d (output_of (under P (u ++ (a ∷ []))) w) (common_on u a i) (λ z e. found_prefixed k laws d (under P (u ++ (a ∷ []))) w z (greatest_prefix laws (under P (u ++ (a ∷ [])))) e))
        ∙ ap (join_some k (k.rest c d)) (sym (rests_found k laws d (under P (u ++ (a ∷ []))) w))

    -- equal states have equal residuals
    residual_equal : (cs : List Key) (u v : Key) → Complete cs u → Complete cs v → state_of k P cs u ≡ state_of k P cs v → residual k P u ≡ residual k P v
    residual_equal cs u v cu cv e = ascending_eq (residual k P u) (residual k P v) (residual_ascending k laws P ascending storable u) (residual_ascending k laws P ascending storable v) same_output
      where
        same_output : (w : Key) → output_of (residual k P u) w ≡ output_of (residual k P v) w
        same_output [] = sym (end_is u) ∙ ap (λ s. s.end) e ∙ end_is v
        same_output (a ∷ w) = go (lacks_or_in a (first_bytes (under P u))) (lacks_or_in a (first_bytes (under P v)))
          where
            on : arc_on a (arcs_of k P cs u (first_bytes (under P u))) ≡ arc_on a (arcs_of k P cs v (first_bytes (under P v)))
            on = ap (λ s. arc_on a s.arcs) e

            go : In a (first_bytes (under P u)) ⊎ Lacks a (first_bytes (under P u)) → In a (first_bytes (under P v)) ⊎ Lacks a (first_bytes (under P v)) → output_of (residual k P u) (a ∷ w) ≡ output_of (residual k P v) (a ∷ w)
            go (inr l) (inr m) = behind_none u a w l ∙ sym (behind_none v a w m)
            go (inl i) (inr m) =
                let p = arc_in k laws P cs u a (first_bytes (under P u)) i in
                let q = arc_lacks k laws P cs v a (first_bytes (under P v)) m in
                let z : some (arc_of k laws P cs u a) ≡ none = sym p ∙ on ∙ q in
                let o : ◌≡◌ {A = ℕ} 0 1 = cc in absurd (omega arith)
            go (inr l) (inl j) =
                let p = arc_lacks k laws P cs u a (first_bytes (under P u)) l in
                let q = arc_in k laws P cs v a (first_bytes (under P v)) j in
                let z : none ≡ some (arc_of k laws P cs v a) = sym p ∙ on ∙ q in
                let o : ◌≡◌ {A = ℕ} 0 1 = cc in absurd (omega arith)
            go (inl i) (inl j) =
                let p = arc_in k laws P cs u a (first_bytes (under P u)) i in
                let q = arc_in k laws P cs v a (first_bytes (under P v)) j in
                let z : some (arc_of k laws P cs u a) ≡ some (arc_of k laws P cs v a) = sym p ∙ on ∙ q in
                let o : arc_of k laws P cs u a ≡ arc_of k laws P cs v a = cc in
                let r : residual k P (u ++ (a ∷ [])) ≡ residual k P (v ++ (a ∷ []))
                = same_class cs (u ++ (a ∷ [])) (v ++ (a ∷ [])) (each_in (λ b. any_alike k P (u ++ (b ∷ [])) cs ≡ true) (first_bytes (under P u)) a cu i) (each_in (λ b. any_alike k P (v ++ (b ∷ [])) cs ≡ true) (first_bytes (under P v)) a cv j) (ap (λ x. x.target) o) in
                behind_some cs u a w i ∙ ap₂ (λ x F. join_some k x (output_of F w)) (ap (λ x. x.output) o) r ∙ sym (behind_some cs v a w j)

    -- states compare as their prefixes do
    pub same_alike : (cs : List Key) (u v : Key) → Complete cs u → Complete cs v → same_state k (state_of k P cs u) (state_of k P cs v) ≡ alike k P u v
    same_alike cs u v cu cv = go (cases_Bool (alike k P u v)) (cases_Bool (same_state k (state_of k P cs u) (state_of k P cs v)))
      where
        go : (alike k P u v ≡ true) ⊎ (alike k P u v ≡ false) → (same_state k (state_of k P cs u) (state_of k P cs v) ≡ true) ⊎ (same_state k (state_of k P cs u) (state_of k P cs v) ≡ false)
            → same_state k (state_of k P cs u) (state_of k P cs v) ≡ alike k P u v
        go (inl a) s = subst (λ t. same_state k (state_of k P cs u) t ≡ true) (state_equal cs u v (alike_residual u v a)) (same_state_self k (state_of k P cs u)) ∙ sym a
        go (inr a) (inr s) = s ∙ sym a
        go (inr a) (inl s) = absurd (both_ways (alike k P u v) a
            (alike_since k P u v (residual_equal cs u v cu cv (same_state_equal k laws (state_of k P cs u) (state_of k P cs v) (state_storable cs u) (state_storable cs v) s))))
