-- What a builder holds bounds the minimal machine, and grows with a key by no more than the key's growth. Assumes ascending keys and storable outputs.
use Rattle.std.proofs.Common.{◌≡◌, ℕ, suc, ◌+◌, ◌-◌, ◌≤◌, Bool, true, false, ◌⊎◌, List, [], ◌∷◌, ◌++◌, map, length, sym, refl, ap, ◌∙◌, subst, ap₂, inl, inr, arith, length-append}
use mathlib.Core.Option.{Option, none, some}
use lib.ListN.{length-map}
use borrow.Author.Tests.{both_ways}
use Rattle.outputs.specs.Kinds.{Kind, Laws}
use Rattle.machines.specs.Lists.{Each}
use Rattle.machines.specs.Keys.{Key, lower, past, is_some, is_prefix, common_length, prefixes}
use Rattle.machines.specs.Machines.{count_arcs}
use Rattle.machines.specs.Pairs.{Pairs, under, KeyPrefix, key_prefixes, first_bytes, Ascending, AllStorable}
use Rattle.machines.specs.Residuals.{greatest, rests, residual, firsts_after, first_prefixes}
use Rattle.machines.specs.Minimal.{arcs_of, state_of, minimal}
use Rattle.machines.specs.Memory.{newest, no_prefixes_of, open_prefixes, closed_prefixes, next_bytes, growth, held_classes, held_states, held_arcs}
use Rattle.machines.proofs.Lists.{In, each_in, each_of, each_map, at_in}
use Rattle.machines.proofs.Under.{past_append, past_some}
use Rattle.machines.proofs.Membership.{in_prefixes, in_key_prefixes}
use Rattle.machines.proofs.Classes.{each_key_prefix, each_first, first_prefixes_apart}
use Rattle.machines.proofs.RunFacts.{end_found}
use Rattle.machines.proofs.Covering.{at_left, in_right, Covered, cover, covered_firsts}
use Rattle.machines.proofs.OneMore.{between, newest_end, under_end_none, below_newest, length_prefixes, length_dropped}
use Rattle.machines.proofs.NextBytes.{next_single, more_next}

-- of lists filtered by a key
in_filter : (key u : Key) (us : List Key) → In u us → is_prefix u key ≡ false → In u (no_prefixes_of key us)
in_filter key u [] i f = absurd i
in_filter key u (v ∷ vs) i f = go (is_prefix v key) refl i (in_filter key u vs)
  where
    go : (t : Bool) → is_prefix v key ≡ t → (u ≡ v) ⊎ In u vs → (In u vs → is_prefix u key ≡ false → In u (no_prefixes_of key vs)) → In u (elim t [ true ↦ no_prefixes_of key vs | false ↦ v ∷ no_prefixes_of key vs ])
    go true e (inl s) deep = absurd (both_ways (is_prefix u key) f (ap (λ x. is_prefix x key) s ∙ e))
    go true e (inr j) deep = deep j f
    go false e (inl s) deep = inl s
    go false e (inr j) deep = inr (deep j f)

filter_each : (Q : Key → Type 0) (key : Key) (us : List Key) → Each Q us → Each (λ u. Q u × (is_prefix u key ≡ false)) (no_prefixes_of key us)
filter_each Q key [] h = tt
filter_each Q key (v ∷ vs) h = go (is_prefix v key) refl (filter_each Q key vs h.1)
  where
    go : (t : Bool) → is_prefix v key ≡ t → Each (λ u. Q u × (is_prefix u key ≡ false)) (no_prefixes_of key vs) → Each (λ u. Q u × (is_prefix u key ≡ false)) (elim t [ true ↦ no_prefixes_of key vs | false ↦ v ∷ no_prefixes_of key vs ])
    go true e deep = deep
    go false e deep = ((h.0, e), deep)

prefix_listed : (u key : Key) → is_prefix u key ≡ true → In u (prefixes key)
prefix_listed u key e = go (past u key) refl e
  where
    go : (o : Option Key) → past u key ≡ o → is_some o ≡ true → In u (prefixes key)
    go none f g = absurd (both_ways false refl g)
    go (some w) f g = subst (λ x. In u (prefixes x)) (sym (past_some u key w f)) (in_prefixes u w)

pub not_past : (u key : Key) → is_prefix u key ≡ false → past u key ≡ none
not_past u key e = go (past u key) e
  where
    go : (o : Option Key) → is_some o ≡ false → o ≡ none
    go none f = refl
    go (some w) f = absurd (both_ways true f refl)

append_prefix : (u w : Key) → is_prefix u (u ++ w) ≡ true
append_prefix u w = ap is_some (past_append u w)

next_append : {A : Type 0} (P : Pairs A) (us vs : List Key) → next_bytes P (us ++ vs) ≡ next_bytes P us + next_bytes P vs
next_append P [] vs = omega arith
next_append P (u ∷ us) vs = omega (arith, next_append P us vs)

next_same : {A : Type 0} (P Q : Pairs A) (us : List Key) → Each (λ u. under P u ≡ under Q u) us → next_bytes P us ≡ next_bytes Q us
next_same P Q [] h = refl
next_same P Q (u ∷ us) h = ap₂ ◌+◌ (ap (λ R. length (first_bytes R)) h.0) (next_same P Q us h.1)

module _ (k : Kind) (laws : Laws k) where
  module _ (P : Pairs k.Ideal) (last : Key) (new : newest P ≡ some last) where
    closed_are : closed_prefixes P ≡ no_prefixes_of last (key_prefixes P)
    closed_are = ap (λ (o : Option Key). elim o as (λ x. List Key) [ none ↦ [] | some key ↦ no_prefixes_of key (key_prefixes P) ]) new

    open_are : open_prefixes P ≡ prefixes last
    open_are = ap (λ (o : Option Key). elim o as (λ x. List Key) [ none ↦ [] ∷ [] | some key ↦ prefixes key ]) new

    pub classes_are : held_classes k P ≡ firsts_after k P [] (no_prefixes_of last (key_prefixes P))
    classes_are = ap (firsts_after k P []) closed_are

    states_are : held_states k P ≡ length (held_classes k P) + suc (length last)
    states_are = ap (λ n. length (held_classes k P) + n) (ap length open_are ∙ length_prefixes last)

    arcs_are : held_arcs k P ≡ next_bytes P (held_classes k P) + next_bytes P (prefixes last)
    arcs_are = ap (λ us. next_bytes P (held_classes k P) + next_bytes P us) open_are

    -- each held class is that of a prefix of a key, and not of the newest
    closed_each : Each (λ u. KeyPrefix P u × (is_prefix u last ≡ false)) (held_classes k P)
    closed_each =
        subst (λ us. Each (λ u. KeyPrefix P u × (is_prefix u last ≡ false)) us) (sym classes_are)
        (each_first k P (λ u. KeyPrefix P u × (is_prefix u last ≡ false)) [] (no_prefixes_of last (key_prefixes P)) (filter_each (KeyPrefix P) last (key_prefixes P) (each_key_prefix P)))

    closed_covered : AllStorable k P → (u : Key) → KeyPrefix P u → is_prefix u last ≡ false → Covered k laws P (held_classes k P) u
    closed_covered storable u s f =
        subst (λ us. Covered k laws P us u) (sym classes_are)
        (covered_firsts k laws P storable (no_prefixes_of last (key_prefixes P)) u (in_filter last u (key_prefixes P) (in_key_prefixes P u s.0 s.1 s.2) f))

    -- the minimal machine is no greater than what is held
    count_next : (classes us : List Key) → count_arcs (map (state_of k P classes) us) ≡ next_bytes P us
    count_next classes [] = refl
    count_next classes (u ∷ us) = omega (arith, arcs_length (first_bytes (under P u)), count_next classes us)
      where
        arcs_length : (bs : List ℕ) → length (arcs_of k P classes u bs) ≡ length bs
        arcs_length [] = refl
        arcs_length (b ∷ bs) = ap suc (arcs_length bs)

    pub held_enough : AllStorable k P → (length (minimal k P).states ≤ held_states k P) × (count_arcs (minimal k P).states ≤ held_arcs k P)
    held_enough storable =
        let L : List Key = held_classes k P ++ prefixes last in
        let c = cover k laws P L (first_prefixes k P) (first_prefixes_apart k P [] (key_prefixes P)) (each_map (KeyPrefix P) (Covered k laws P L) (first_prefixes k P) covers (each_first k P (KeyPrefix P) [] (key_prefixes P) (each_key_prefix P))) in (
          omega (arith, c.0, states_are, length-append (held_classes k P) (prefixes last), length_prefixes last, length-map (first_prefixes k P) (state_of k P (first_prefixes k P))),
          omega (arith, c.1, arcs_are, next_append P (held_classes k P) (prefixes last), count_next (first_prefixes k P) (first_prefixes k P)),
        )
      where
        covers : (u : Key) → KeyPrefix P u → Covered k laws P (held_classes k P ++ prefixes last) u
        covers u s = go (is_prefix u last) refl
          where
            go : (t : Bool) → is_prefix u last ≡ t → Covered k laws P (held_classes k P ++ prefixes last) u
            go true e = let r = in_right (held_classes k P) (prefixes last) u (prefix_listed u last e) in record { place = r.0; element = u; there = r.1; same = refl }
            go false e =
                let c = closed_covered storable u s e in
                record { place = c.place; element = c.element; there = at_left (held_classes k P) (prefixes last) c.place c.element c.there; same = c.same }

  module _ (P : Pairs k.Ideal) (e : Key × k.Ideal) where
    more : Pairs k.Ideal
    more = P ++ (e ∷ [])

    -- away from the new key nothing changes
    same_under : (u : Key) → is_prefix u e.0 ≡ false → under (P ++ (e ∷ [])) u ≡ under P u
    same_under u f = under_end_none P e u (not_past u e.0 f)

    same_residual : (u : Key) → is_prefix u e.0 ≡ false → residual k (P ++ (e ∷ [])) u ≡ residual k P u
    same_residual u f = ap (λ Q. rests k (greatest k Q) Q) (same_under u f)

    old_prefix : (u : Key) → KeyPrefix (P ++ (e ∷ [])) u → is_prefix u e.0 ≡ false → KeyPrefix P u
    old_prefix u s f = elim (end_found k 0 0 P e (u ++ s.0) s.1 s.2) [
      | inl g ↦ (s.0, s.1, g)
      | inr g ↦ absurd (both_ways (is_prefix u e.0) f (ap (λ p. is_prefix u p.0) g ∙ append_prefix u s.0))
    ]

    -- with one pair more, at most its growth is held in addition
    pub held_grows : (last : Key) → newest P ≡ some last → Ascending P → lower last e.0 ≡ true → AllStorable k P
        → (held_states k (P ++ (e ∷ [])) ≤ held_states k P + growth P e.0) × (held_arcs k (P ++ (e ∷ [])) ≤ held_arcs k P + growth P e.0)
    held_grows last new ascending above storable = (
      omega (arith, c.0, states_are (P ++ (e ∷ [])) e.0 (newest_end P e), states_are P last new, length-append (held_classes k P) dropped, length_dropped e.0 last above, grown),
      omega (
        arith,
        c.1,
        arcs_are (P ++ (e ∷ [])) e.0 (newest_end P e),
        arcs_are P last new,
        next_append (P ++ (e ∷ [])) (held_classes k P) dropped,
        next_same (P ++ (e ∷ [])) P (held_classes k P) (each_map _ (λ u. under (P ++ (e ∷ [])) u ≡ under P u) (held_classes k P) (λ u h. same_under u (stays u h.0 h.1)) (closed_each P last new)),
        next_same (P ++ (e ∷ [])) P dropped (each_map _ (λ u. under (P ++ (e ∷ [])) u ≡ under P u) dropped (λ u h. same_under u h.1) (filter_each (λ u. Unit {0}) e.0 (prefixes last) (each_of (λ u. Unit {0}) (prefixes last) (λ u i. tt)))),
        more_next e.0 last P e.1 ascending new above,
        grown,
      ),
    )
      where
        dropped : List Key
        dropped = no_prefixes_of e.0 (prefixes last)

        grown : growth P e.0 ≡ length e.0 - common_length e.0 last
        grown = ap (λ (o : Option Key). length e.0 - elim o as (λ x. ℕ) [ none ↦ 0 | some v ↦ common_length e.0 v ]) new

        -- what is closed stays so
        stays : (u : Key) → KeyPrefix P u → is_prefix u last ≡ false → is_prefix u e.0 ≡ false
        stays u s f = go (past u e.0) refl
          where
            go : (o : Option Key) → past u e.0 ≡ o → is_some o ≡ false
            go none g = refl
            go (some y) g = absurd (both_ways (is_prefix u last) f (elim (below_newest P last (u ++ s.0) s.1 ascending new s.2) [
              | inl h ↦ subst (λ v. is_prefix u v ≡ true) h (append_prefix u s.0)
              | inr h ↦ between u s.0 last y h (subst (λ v. lower last v ≡ true) (past_some u e.0 y g) above)
            ]))

        covers : (u : Key) → KeyPrefix (P ++ (e ∷ [])) u × (is_prefix u e.0 ≡ false) → Covered k laws (P ++ (e ∷ [])) (held_classes k P ++ dropped) u
        covers u h = go (is_prefix u last) refl
          where
            s : KeyPrefix P u
            s = old_prefix u h.0 h.1

            go : (t : Bool) → is_prefix u last ≡ t → Covered k laws (P ++ (e ∷ [])) (held_classes k P ++ dropped) u
            go true f =
                let r = in_right (held_classes k P) dropped u (in_filter e.0 u (prefixes last) (prefix_listed u last f) h.1) in
                record { place = r.0; element = u; there = r.1; same = refl }
            go false f =
                let c = closed_covered P last new storable u s f in
                let v = each_in (λ x. KeyPrefix P x × (is_prefix x last ≡ false)) (held_classes k P) c.element (closed_each P last new) (at_in (held_classes k P) c.place c.element c.there) in
                record {
                  place = c.place;
                  element = c.element;
                  there = at_left (held_classes k P) dropped c.place c.element c.there;
                  same = same_residual u h.1 ∙ c.same ∙ sym (same_residual c.element (stays c.element v.0 v.1));
                }

        c : (length (held_classes k (P ++ (e ∷ []))) ≤ length (held_classes k P ++ dropped)) × (next_bytes (P ++ (e ∷ [])) (held_classes k (P ++ (e ∷ []))) ≤ next_bytes (P ++ (e ∷ [])) (held_classes k P ++ dropped))
        c = cover k laws (P ++ (e ∷ [])) (held_classes k P ++ dropped) (held_classes k (P ++ (e ∷ []))) (first_prefixes_apart k (P ++ (e ∷ [])) [] (closed_prefixes (P ++ (e ∷ []))))
            (each_map _ (Covered k laws (P ++ (e ∷ [])) (held_classes k P ++ dropped)) (held_classes k (P ++ (e ∷ []))) covers (closed_each (P ++ (e ∷ [])) e.0 (newest_end P e)))

  -- the first pair is held by the prefixes of its key
  pub held_first : (e : Key × k.Ideal) → (held_states k (e ∷ []) ≤ suc (length e.0)) × (held_arcs k (e ∷ []) ≤ length e.0)
  held_first e = (
    omega (arith, states_are (e ∷ []) e.0 refl, ap length none_closed),
    omega (arith, arcs_are (e ∷ []) e.0 refl, ap (next_bytes (e ∷ [])) none_closed, next_single e.0 e.1),
  )
    where
      nothing : (us : List Key) → Each (λ u. ⊥) us → us ≡ []
      nothing [] h = refl
      nothing (u ∷ us) h = absurd h.0

      none_closed : held_classes k (e ∷ []) ≡ []
      none_closed =
          nothing (held_classes k (e ∷ [])) (each_map _ (λ u. ⊥) (held_classes k (e ∷ []))
          (λ u h. let o : ◌≡◌ {A = Option k.Ideal} none (some (old_prefix [] e u h.0 h.1).1) = (old_prefix [] e u h.0 h.1).2 in let z : ◌≡◌ {A = ℕ} 0 1 = cc in omega arith)
          (closed_each (e ∷ []) e.0 refl))
