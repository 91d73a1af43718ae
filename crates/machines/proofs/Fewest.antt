-- No transducer that realizes the pairs has fewer states or fewer arcs than the minimal machine. Assumes that the keys ascend and are of bytes.
use Rattle.std.proofs.Common.{◌≡◌, ℕ, ◌+◌, ◌≤◌, true, false, List, [], ◌∷◌, ◌++◌, map, length, sym, refl, ap, ◌∙◌, subst, arith}
use mathlib.Core.Option.{Option, none, some}
use lib.ListN.{length-map}
use borrow.Author.Tests.{both_ways}
use Rattle.outputs.specs.Kinds.{Kind, Laws}
use Rattle.outputs.specs.Texts.{all_bytes}
use Rattle.machines.specs.Lists.{at, Each}
use Rattle.machines.specs.Keys.{Key}
use Rattle.machines.specs.Machines.{Arc, State, Machine, arc_at, end_at, count_arcs, join_some, answer_from, reach_from, reach}
use Rattle.machines.specs.Pairs.{Pairs, output_of, under, first_bytes, key_prefixes, ByteKeys, Ascending, KeyPrefix}
use Rattle.machines.specs.Residuals.{alike, first_prefixes}
use Rattle.machines.specs.Minimal.{arcs_of, state_of, minimal}
use Rattle.machines.specs.Realizing.{Realizes}
use Rattle.machines.proofs.Lists.{each_map}
use Rattle.machines.proofs.Under.{under_found, ascending_under, join_join_some}
use Rattle.machines.proofs.ByteStrings.{bytes_behind, found_bytes, prefix_bytes}
use Rattle.machines.proofs.OneState.{found_on, one_state_alike}
use Rattle.machines.proofs.FirstBytes.{different_bytes, AllHead, all_head}
use Rattle.machines.proofs.Counting.{Lacks, Different, weight, weigh, weigh_all, weigh_different, HaveArcs, arcs_enough}
use Rattle.machines.proofs.Classes.{each_key_prefix, each_first, Apart, first_prefixes_apart, alike_since}

module _ (k : Kind) (laws : Laws k) where
  -- a string with an answer leads somewhere all along
  reach_there : (states : List (State k.Ideal)) (u w : Key) (q : ℕ) (x z : k.Ideal) → join_some k x (answer_from k states q (u ++ w)) ≡ some z
      → (r : ℕ) × (y : k.Ideal) × (reach_from k states q x u ≡ some (r, y))
  reach_there states [] w q x z e = (q, x, refl)
  reach_there states (a ∷ u) w q x z e = go (arc_at (at states q) a) e (λ t y. reach_there states u w t y z)
    where
      go : (o : Option (Arc k.Ideal)) → join_some k x (elim o [ none ↦ none | some arc ↦ join_some k arc.output (answer_from k states arc.target (u ++ w)) ]) ≡ some z
          → ((t : ℕ) (y : k.Ideal) → join_some k y (answer_from k states t (u ++ w)) ≡ some z → (r : ℕ) × (y' : k.Ideal) × (reach_from k states t y u ≡ some (r, y')))
          → (r : ℕ) × (y' : k.Ideal) × (◌≡◌ {A = Option (ℕ × k.Ideal)} (elim o [ none ↦ none | some arc ↦ reach_from k states arc.target (k.join x arc.output) u ]) (some (r, y')))
      go none f deep = let o : ◌≡◌ {A = ℕ} 0 1 = cc in absurd (omega arith)
      go (some arc) f deep = deep arc.target (k.join x arc.output) (sym (join_join_some k laws x arc.output _) ∙ f)

  joined_some : (x z : k.Ideal) (o : Option k.Ideal) → join_some k x o ≡ some z → (y : k.Ideal) × (o ≡ some y)
  joined_some x z none e = let o : ◌≡◌ {A = ℕ} 0 1 = cc in absurd (omega arith)
  joined_some x z (some y) e = (y, refl)

  -- a state that answers is there
  state_there : (states : List (State k.Ideal)) (q : ℕ) (w : Key) (z : k.Ideal) → answer_from k states q w ≡ some z → (s : State k.Ideal) × (at states q ≡ some s)
  state_there states q [] z e = go (at states q) e
    where
      go : (o : Option (State k.Ideal)) → end_at o ≡ some z → (s : State k.Ideal) × (o ≡ some s)
      go none f = let o : ◌≡◌ {A = ℕ} 0 1 = cc in absurd (omega arith)
      go (some s) f = (s, refl)
  state_there states q (a ∷ w) z e = go (at states q) e
    where
      go : (o : Option (State k.Ideal)) → ◌≡◌ {A = Option k.Ideal} (elim (arc_at o a) [ none ↦ none | some arc ↦ join_some k arc.output (answer_from k states arc.target w) ]) (some z) → (s : State k.Ideal) × (o ≡ some s)
      go none f = let o : ◌≡◌ {A = ℕ} 0 1 = cc in absurd (omega arith)
      go (some s) f = (s, refl)

  arc_there : (states : List (State k.Ideal)) (q a : ℕ) (w : Key) (z : k.Ideal) → answer_from k states q (a ∷ w) ≡ some z → (arc : Arc k.Ideal) × (arc_at (at states q) a ≡ some arc)
  arc_there states q a w z e = go (arc_at (at states q) a) e
    where
      go : (o : Option (Arc k.Ideal)) → ◌≡◌ {A = Option k.Ideal} (elim o [ none ↦ none | some arc ↦ join_some k arc.output (answer_from k states arc.target w) ]) (some z) → (arc : Arc k.Ideal) × (o ≡ some arc)
      go none f = let o : ◌≡◌ {A = ℕ} 0 1 = cc in absurd (omega arith)
      go (some arc) f = (arc, refl)

  module _ (P : Pairs k.Ideal) (ascending : Ascending P) (bytes : ByteKeys P) (m : Machine k.Ideal) (realizes : Realizes k P m) where
    -- the state that a prefix of a key leads the transducer to, with at least the arcs of the prefix
    pub record Reached (u : Key) : Type 0 where
      pub of_bytes : all_bytes u ≡ true
      pub place : ℕ
      pub put_out : k.Ideal
      pub leads : reach k m u ≡ some (place, put_out)
      pub state : State k.Ideal
      pub there : at m.states place ≡ some state
      pub enough : length (first_bytes (under P u)) ≤ length state.arcs

    pub reached : (u : Key) → KeyPrefix P u → Reached u
    reached u s =
        let r = reach_there m.states u s.0 m.start m.start_output s.1 (realizes (u ++ s.0) (found_bytes P (u ++ s.0) s.1 bytes s.2) ∙ s.2) in
        let b : all_bytes u ≡ true = prefix_bytes P u bytes s in
        let behind : (w : Key) (z : k.Ideal) → output_of (under P u) w ≡ some z → all_bytes w ≡ true = λ w z e. sym (bytes_behind u w b) ∙ found_bytes P (u ++ w) z bytes (sym (under_found P u w) ∙ e) in
        let on : (w : Key) (z : k.Ideal) → output_of (under P u) w ≡ some z → join_some k r.1 (answer_from k m.states r.0 w) ≡ some z = λ w z e. sym (found_on k laws P ascending bytes m realizes u b r.0 r.1 r.2 w (behind w z e)) ∙ e in
        let ends = joined_some r.1 s.1 _ (on s.0 s.1 (under_found P u s.0 ∙ s.2)) in
        let t = state_there m.states r.0 s.0 ends.0 ends.1 in
        record {
          of_bytes = b;
          place = r.0;
          put_out = r.1;
          leads = r.2;
          state = t.0;
          there = t.1;
          enough = arcs_enough t.0.arcs (first_bytes (under P u)) (different_bytes (under P u) (ascending_under P u ascending)) (have r.0 r.1 on t.0 t.1 (first_bytes (under P u)) (all_head (under P u)));
        }
      where
        have : (q : ℕ) (x : k.Ideal) → ((w : Key) (z : k.Ideal) → output_of (under P u) w ≡ some z → join_some k x (answer_from k m.states q w) ≡ some z)
            → (t : State k.Ideal) → at m.states q ≡ some t → (as' : List ℕ) → AllHead (under P u) as' → HaveArcs t.arcs as'
        have q x on t e [] h = tt
        have q x on t e (a ∷ as') h =
            let ends = joined_some x h.0.1 _ (on (a ∷ h.0.0) h.0.1 h.0.2) in
            let arc = arc_there m.states q a h.0.0 ends.0 ends.1 in
            ((arc.0, subst (λ o. arc_at o a ≡ some arc.0) e arc.1), have q x on t e as' h.1)

    places : (us : List Key) → Each Reached us → List ℕ
    places [] h = []
    places (u ∷ us) h = h.0.place ∷ places us h.1

    apart_lacks : (u : Key) (r : Reached u) (us : List Key) (h : Each Reached us) → Each (λ v. alike k P v u ≡ false) us → Lacks r.place (places us h)
    unfolding places
    apart_lacks u r [] h d = tt
    apart_lacks u r (v ∷ vs) h d = (
      λ e. both_ways (alike k P v u) d.0
          (alike_since k P v u (one_state_alike k laws P ascending bytes m realizes v u h.0.of_bytes r.of_bytes r.place h.0.put_out r.put_out
          (subst (λ q. reach k m v ≡ some (q, h.0.put_out)) (sym e) h.0.leads) r.leads)),
      apart_lacks u r vs h.1 d.1,
    )

    different_places : (us : List Key) (h : Each Reached us) → Apart k P us → Different (places us h)
    unfolding places
    different_places [] h d = tt
    different_places (u ∷ us) h d = (apart_lacks u h.0 us h.1 d.0, different_places us h.1 d.1)

    weigh_states : (us : List Key) (h : Each Reached us) → weigh (λ s. 1) m.states (places us h) ≡ length us
    unfolding places
    weigh_states [] h = refl
    weigh_states (u ∷ us) h = omega (arith, ap (weight (λ s. 1)) h.0.there, weigh_states us h.1)

    abbrev bytes_sum : List Key → ℕ
    bytes_sum [] = 0
    bytes_sum (u ∷ us) = length (first_bytes (under P u)) + bytes_sum us

    weigh_arcs : (us : List Key) (h : Each Reached us) → bytes_sum us ≤ weigh (λ s. length s.arcs) m.states (places us h)
    unfolding places
    weigh_arcs [] h = omega arith
    weigh_arcs (u ∷ us) h = omega (arith, ap (weight (λ s. length s.arcs)) h.0.there, h.0.enough, weigh_arcs us h.1)

    length_arcs_of : (classes : List Key) (u : Key) (as' : List ℕ) → length (arcs_of k P classes u as') ≡ length as'
    length_arcs_of classes u [] = refl
    length_arcs_of classes u (a ∷ as') = omega (arith, length_arcs_of classes u as')

    count_classes : (classes us : List Key) → count_arcs (map (state_of k P classes) us) ≡ bytes_sum us
    count_classes classes [] = refl
    count_classes classes (u ∷ us) = omega (arith, length_arcs_of classes u (first_bytes (under P u)), count_classes classes us)

    weigh_all_one : (ss : List (State k.Ideal)) → weigh_all (λ s. 1) ss ≡ length ss
    weigh_all_one [] = refl
    weigh_all_one (s ∷ ss) = omega (arith, weigh_all_one ss)

    weigh_all_arcs : (ss : List (State k.Ideal)) → weigh_all (λ s. length s.arcs) ss ≡ count_arcs ss
    weigh_all_arcs [] = refl
    weigh_all_arcs (s ∷ ss) = omega (arith, weigh_all_arcs ss)

    all_reached : Each Reached (first_prefixes k P)
    all_reached = each_map (KeyPrefix P) Reached (first_prefixes k P) reached (each_first k P (KeyPrefix P) [] (key_prefixes P) (each_key_prefix P))

    pub least_states : length (minimal k P).states ≤ length m.states
    least_states =
        omega (
          arith,
          length-map (first_prefixes k P) (state_of k P (first_prefixes k P)),
          weigh_states (first_prefixes k P) all_reached,
          weigh_different (λ s. 1) m.states (places (first_prefixes k P) all_reached) (different_places (first_prefixes k P) all_reached (first_prefixes_apart k P [] (key_prefixes P))),
          weigh_all_one m.states,
        )

    pub least_arcs : count_arcs (minimal k P).states ≤ count_arcs m.states
    least_arcs =
        omega (
          arith,
          count_classes (first_prefixes k P) (first_prefixes k P),
          weigh_arcs (first_prefixes k P) all_reached,
          weigh_different (λ s. length s.arcs) m.states (places (first_prefixes k P) all_reached) (different_places (first_prefixes k P) all_reached (first_prefixes_apart k P [] (key_prefixes P))),
          weigh_all_arcs m.states,
        )
