-- The minimal machine answers each key with its output, and absent for every other string. Assumes ascending keys and storable outputs.
use Rattle.std.proofs.Common.{◌≡◌, ℕ, suc, Bool, true, false, ◌||◌, eqb, ◌⊎◌, List, [], ◌∷◌, ◌++◌, sym, refl, ap, ◌∙◌, subst, inl, inr, append_assoc, append-nil, eq-eqb, ne_eqb, eqb-true}
use mathlib.Core.Option.{Option, none, some}
use borrow.Author.Tests.{both_ways}
use Rattle.std.proofs.lemmas.Bool.{or_cases, or_left, or_right}
use Rattle.outputs.specs.Kinds.{Kind, Laws, PrefixOf}
use Rattle.machines.specs.Lists.{at}
use Rattle.machines.specs.Keys.{Key}
use Rattle.machines.specs.Machines.{Arc, arc_on, arc_at, end_at, join_some, answer_from, answer}
use Rattle.machines.specs.Pairs.{Pairs, output_of, under, key_prefixes, first_bytes, Ascending, AllStorable, KeyPrefix}
use Rattle.machines.specs.Residuals.{greatest_common, residual, alike, any_alike, firsts_after, first_prefixes, class_in}
use Rattle.machines.specs.Minimal.{arcs_of, rest_some, state_of, minimal}
use Rattle.machines.proofs.Membership.{in_key_prefixes, lacks_none, lacks_or_in, in_heads}
use Rattle.machines.proofs.CommonOutputs.{same_pairs_true, storable_under, storable_rests, found_prefixed, greatest_found, rest_steps, join_rest_some}
use Rattle.machines.proofs.Lists.{In, at_map}
use Rattle.machines.proofs.Under.{under_found, ascending_under, rests_found, all_from}
use Rattle.machines.proofs.PrefixLaws.{greatest_prefix}
use Rattle.machines.proofs.FirstBytes.{Heads, all_head}
use Rattle.machines.proofs.Counting.{Lacks}
use Rattle.machines.proofs.Classes.{same_pairs_refl}

module _ (k : Kind) (laws : Laws k) where
  module _ (P : Pairs k.Ideal) where
    pub class_found : (cs : List Key) (u : Key) → any_alike k P u cs ≡ true → (v : Key) × (at cs (class_in k P cs u) ≡ some v) × (alike k P u v ≡ true)
    class_found [] u e = absurd (both_ways false refl e)
    class_found (c ∷ cs) u e = go (alike k P u c) refl e (class_found cs u)
      where
        go : (t : Bool) → alike k P u c ≡ t → (t || any_alike k P u cs) ≡ true → (any_alike k P u cs ≡ true → (v : Key) × (at cs (class_in k P cs u) ≡ some v) × (alike k P u v ≡ true))
            → (v : Key) × (at (c ∷ cs) (elim t [ true ↦ 0 | false ↦ suc (class_in k P cs u) ]) ≡ some v) × (alike k P u v ≡ true)
        go true s f deep = (c, refl, s)
        go false s f deep = deep f

    pub alike_first : (u : Key) (seen us : List Key) → In u us → (any_alike k P u seen ≡ true) ⊎ (any_alike k P u (firsts_after k P seen us) ≡ true)
    alike_first u seen [] i = absurd i
    alike_first u seen (v ∷ vs) i = go (any_alike k P v seen) refl i (alike_first u seen vs) (alike_first u (v ∷ seen) vs)
      where
        self : u ≡ v → alike k P u v ≡ true
        self e = subst (λ w. alike k P u w ≡ true) e (same_pairs_refl k (residual k P u))

        more : (any_alike k P u (v ∷ seen) ≡ true) ⊎ (any_alike k P u (firsts_after k P (v ∷ seen) vs) ≡ true) → (any_alike k P u seen ≡ true) ⊎ (any_alike k P u (v ∷ firsts_after k P (v ∷ seen) vs) ≡ true)
        more (inl a) = elim (or_cases (alike k P u v) (any_alike k P u seen) a) [ inl b ↦ inr (or_left (alike k P u v) _ b) | inr b ↦ inl b ]
        more (inr a) = inr (or_right (alike k P u v) (any_alike k P u (firsts_after k P (v ∷ seen) vs)) a)

        go : (t : Bool) → any_alike k P v seen ≡ t → (u ≡ v) ⊎ In u vs
            → (In u vs → (any_alike k P u seen ≡ true) ⊎ (any_alike k P u (firsts_after k P seen vs) ≡ true))
            → (In u vs → (any_alike k P u (v ∷ seen) ≡ true) ⊎ (any_alike k P u (firsts_after k P (v ∷ seen) vs) ≡ true))
            → (any_alike k P u seen ≡ true) ⊎ (any_alike k P u (elim t [ true ↦ firsts_after k P seen vs | false ↦ v ∷ firsts_after k P (v ∷ seen) vs ]) ≡ true)
        go true s (inl e) a b = inl (subst (λ w. any_alike k P w seen ≡ true) (sym e) s)
        go true s (inr j) a b = a j
        go false s (inl e) a b = inr (or_left (alike k P u v) _ (self e))
        go false s (inr j) a b = more (b j)

    pub arc_lacks : (cs : List Key) (u : Key) (a : ℕ) (as' : List ℕ) → Lacks a as' → arc_on a (arcs_of k P cs u as') ≡ none
    arc_lacks cs u a [] l = refl
    arc_lacks cs u a (b ∷ bs) l = rw (ne_eqb b a (λ s. l.0 (sym s)), arc_on) (arc_lacks cs u a bs l.1)

    abbrev pub arc_of : List Key → Key → ℕ → Arc k.Ideal
    arc_of cs u a = record { byte = a; target = class_in k P cs (u ++ (a ∷ [])); output = k.rest (greatest_common k P u) (greatest_common k P (u ++ (a ∷ []))) }

    pub arc_in : (cs : List Key) (u : Key) (a : ℕ) (as' : List ℕ) → In a as' → arc_on a (arcs_of k P cs u as') ≡ some (arc_of cs u a)
    arc_in cs u a [] i = absurd i
    arc_in cs u a (b ∷ bs) i = go (eqb b a) refl i (arc_in cs u a bs)
      where
        go : (t : Bool) → eqb b a ≡ t → (a ≡ b) ⊎ In a bs → (In a bs → arc_on a (arcs_of k P cs u bs) ≡ some (arc_of cs u a))
            → ◌≡◌ {A = Option (Arc k.Ideal)} (elim t [ true ↦ some (arc_of cs u b) | false ↦ arc_on a (arcs_of k P cs u bs) ]) (some (arc_of cs u a))
        go true e j deep = ap {B = Option (Arc k.Ideal)} (λ c. some (arc_of cs u c)) (eqb-true b a e)
        go false e (inl f) deep = absurd (both_ways (eqb b a) e (eq-eqb b a (sym f)))
        go false e (inr j) deep = deep j

    pub residual_storable : AllStorable k P → (u : Key) → AllStorable k (residual k P u)
    residual_storable storable u = storable_rests k laws (greatest_common k P u) (under P u) (greatest_prefix laws (under P u)) (storable_under k laws P u storable)

    module _ (ascending : Ascending P) (storable : AllStorable k P) where
      -- the class of a prefix is that of a first prefix with the same residual
      pub class_first : (u : Key) → KeyPrefix P u → (v : Key) × (at (first_prefixes k P) (class_in k P (first_prefixes k P) u) ≡ some v) × (residual k P u ≡ residual k P v)
      class_first u s =
          let any : any_alike k P u (first_prefixes k P) ≡ true = elim (alike_first u [] (key_prefixes P) (in_key_prefixes P u s.0 s.1 s.2)) [ inl f ↦ absurd (both_ways false refl f) | inr t ↦ t ] in
          let c = class_found (first_prefixes k P) u any in
          (c.0, c.1, same_pairs_true k laws (residual k P u) (residual k P c.0) (residual_storable storable u) (residual_storable storable c.0) c.2)

      pub class_of : (u : Key) → KeyPrefix P u → (v : Key) × (at (minimal k P).states (class_in k P (first_prefixes k P) u) ≡ some (state_of k P (first_prefixes k P) v)) × (residual k P u ≡ residual k P v)
      class_of u s =
          let c = class_first u s in
          (c.0, at_map (state_of k P (first_prefixes k P)) (first_prefixes k P) (class_in k P (first_prefixes k P) u) c.0 c.1, c.2)

      pub longer : (v : Key) (a : ℕ) (w : Key) → output_of (under P (v ++ (a ∷ []))) w ≡ output_of (under P v) (a ∷ w)
      longer v a w = under_found P (v ++ (a ∷ [])) w ∙ ap (output_of P) (append_assoc v (a ∷ []) w) ∙ sym (under_found P v (a ∷ w))

      -- the greatest common output grows along a key
      pub common_grows : (v : Key) (a : ℕ) → Heads (under P v) a → PrefixOf k (greatest_common k P v) (greatest_common k P (v ++ (a ∷ [])))
      common_grows v a h =
          greatest_found k laws (greatest_common k P v) (under P (v ++ (a ∷ []))) h.0 h.1 (longer v a h.0 ∙ h.2)
          (all_from k laws (greatest_common k P v) (under P (v ++ (a ∷ []))) (ascending_under P (v ++ (a ∷ [])) ascending)
          (λ w z e. found_prefixed k laws (greatest_common k P v) (under P v) (a ∷ w) z (greatest_prefix laws (under P v)) (sym (longer v a w) ∙ e)))

      -- the class of a prefix answers what its residual holds
      pub answers : (w u : Key) → KeyPrefix P u → answer_from k (minimal k P).states (class_in k P (first_prefixes k P) u) w ≡ output_of (residual k P u) w
      answers [] u s =
          let c = class_of u s in
          ap end_at c.1
          ∙ ap (λ v. rest_some k (greatest_common k P c.0) (output_of P v)) (sym (append-nil c.0))
          ∙ ap (rest_some k (greatest_common k P c.0)) (sym (under_found P c.0 []))
          ∙ sym (rests_found k laws (greatest_common k P c.0) (under P c.0) [])
          ∙ ap (λ F. output_of F []) (sym c.2)
      answers (a ∷ w) u s = by (class_of u s) (λ v t. answers w (v ++ (a ∷ [])) t)
        where
          by : (c : (v : Key) × (at (minimal k P).states (class_in k P (first_prefixes k P) u) ≡ some (state_of k P (first_prefixes k P) v)) × (residual k P u ≡ residual k P v))
              → ((v : Key) → KeyPrefix P (v ++ (a ∷ [])) → answer_from k (minimal k P).states (class_in k P (first_prefixes k P) (v ++ (a ∷ []))) w ≡ output_of (residual k P (v ++ (a ∷ []))) w)
              → answer_from k (minimal k P).states (class_in k P (first_prefixes k P) u) (a ∷ w) ≡ output_of (residual k P u) (a ∷ w)
          by c deep = ap step (ap (λ o. arc_at o a) c.1) ∙ here (lacks_or_in a (first_bytes (under P v))) ∙ sym (rests_found k laws (greatest_common k P v) (under P v) (a ∷ w)) ∙ ap (λ F. output_of F (a ∷ w)) (sym c.2)
            where
              v : Key
              v = c.0

              step : Option (Arc k.Ideal) → Option k.Ideal
              step o = elim o [ none ↦ none | some arc ↦ join_some k arc.output (answer_from k (minimal k P).states arc.target w) ]

              here : In a (first_bytes (under P v)) ⊎ Lacks a (first_bytes (under P v)) → step (arc_on a (arcs_of k P (first_prefixes k P) v (first_bytes (under P v)))) ≡ rest_some k (greatest_common k P v) (output_of (under P v) (a ∷ w))
              here (inr l) = ap step (arc_lacks (first_prefixes k P) v a (first_bytes (under P v)) l) ∙ ap (rest_some k (greatest_common k P v)) (sym (lacks_none (under P v) a w l))
              here (inl i) =
                  let h : Heads (under P v) a = in_heads (under P v) a (first_bytes (under P v)) (all_head (under P v)) i in
                  let va : Key = v ++ (a ∷ []) in
                  let there : KeyPrefix P va = (h.0, h.1, sym (under_found P va h.0) ∙ longer v a h.0 ∙ h.2) in
                  ap step (arc_in (first_prefixes k P) v a (first_bytes (under P v)) i)
                  ∙ ap (join_some k (k.rest (greatest_common k P v) (greatest_common k P va))) (deep v there ∙ rests_found k laws (greatest_common k P va) (under P va) w)
                  ∙ rest_steps k laws (greatest_common k P v) (greatest_common k P va) (output_of (under P va) w) (common_grows v a h) (λ z e. found_prefixed k laws (greatest_common k P va) (under P va) w z (greatest_prefix laws (under P va)) e)
                  ∙ ap (rest_some k (greatest_common k P v)) (longer v a w)

  -- the whole machine answers as the pairs do
  pub minimal_answers : (P : Pairs k.Ideal) → Ascending P → AllStorable k P → KeyPrefix P [] → (w : Key) → answer k (minimal k P) w ≡ output_of P w
  minimal_answers P ascending storable there w =
      ap (join_some k (greatest_common k P [])) (answers P ascending storable w [] there ∙ rests_found k laws (greatest_common k P []) (under P []) w)
      ∙ join_rest_some k laws (greatest_common k P []) (output_of (under P []) w) (λ z e. found_prefixed k laws (greatest_common k P []) (under P []) w z (greatest_prefix laws (under P [])) e)
      ∙ under_found P [] w
