-- The newest open record leaves the open ones: what is left, and what it becomes. Assumes that the records lie as they should.
use Rattle.std.proofs.Common.{◌≡◌, ℕ, ◌+◌, ◌-◌, List, [], ◌∷◌, ◌++◌, map, length, take, drop, sym, ap, ◌∙◌, subst, arith}
use Rattle.std.proofs.lemmas.List.{length-map, length-take-le, length-drop, length-append, take-map, drop-map, map-append}
use Rattle.machines.specs.Machines.{Arc as Edge}
use Rattle.construction.specs.Records.{state_of}
use Rattle.records.specs.declared.record.State.{State}
use Rattle.records.specs.declared.record.Arc.{Arc}
use Rattle.records.specs.Lying.{Led, Laid, Placed}
use Rattle.records.specs.Holding.{arc_of, arcs_of, end_of, closed_state, open_record, counts}
use Rattle.records.proofs.Standing.{opens_cut, closed_kept, closed_front, to_end}

module _ {O : Type 0} (L : List (Arc O)) (top : State O) (hs : List (State O)) (lain : Laid (length L) (top ∷ hs)) where
  -- the place where the newest record's arcs begin
  pub begins : length L - top.count ≡ top.first
  begins = omega (arith, lain.0)

  module _ (L' : List (Arc O)) (cut : L' ≡ take (length L - top.count) L) where
    pub left : length L' ≡ top.first
    left = ap length cut ∙ length-take-le (length L - top.count) L (omega arith) ∙ begins

    pub led_left : Led (length L') hs
    led_left = subst (λ (n : ℕ). Led n hs) (sym left) lain.1

    pub opens_left : {I : Type 0} (mean : O → I) → map (open_record mean (arcs_of mean L')) hs ≡ map (open_record mean (arcs_of mean L)) hs
    opens_left {I} mean =
        let e : arcs_of mean L' ≡ take (length L - top.count) (arcs_of mean L) = ap (arcs_of mean) cut ∙ sym (take-map (arc_of mean) (length L - top.count) L) in
        ap (λ (es : List (Edge I)). map (open_record mean es) hs) e ∙ opens_cut mean (length L - top.count) top.first (arcs_of mean L) hs lain.1 (omega (arith, begins))

  -- the record's arcs go in front of the closed ones, and t is the state that it becomes
  module _ {I : Type 0} (mean : O → I) (H H' : List (Arc O)) (settled : H' ≡ drop (length L - top.count) L ++ H) (ls : List (State O)) (placed : Placed (length H) ls) (pairs : ℕ) where
    abbrev front : List (Edge I)
    front = arcs_of mean (drop (length L - top.count) L)

    abbrev becomes : ℕ → State O
    becomes first = record { end = top.end; count = top.count; first = first; keys = pairs - top.keys }

    pub longer : length H' ≡ length H + top.count
    longer = ap length settled ∙ simp (length-append, length-drop) (omega (arith, begins))

    front_is : front ≡ take top.count (drop top.first (arcs_of mean L))
    front_is =
        ap (λ (n : ℕ). arcs_of mean (drop n L)) begins ∙ sym (drop-map (arc_of mean) top.first L) ∙ sym (to_end mean (arcs_of mean L) top (lain.0 ∙ sym (length-map L (arc_of mean))))

    both : arcs_of mean H' ≡ front ++ arcs_of mean H
    both = ap (arcs_of mean) settled ∙ map-append (arc_of mean) (drop (length L - top.count) L) H

    fits : Placed (length (arcs_of mean H)) ls
    fits = subst (λ (n : ℕ). Placed n ls) (sym (length-map H (arc_of mean))) placed

    new_state : (first : ℕ) → first ≡ length H' → closed_state mean (front ++ arcs_of mean H) (becomes first) ≡ state_of (open_record mean (arcs_of mean L) top)
    new_state first f =
        let n : top.count ≡ length front = sym (length-map (drop (length L - top.count) L) (arc_of mean) ∙ length-drop (length L - top.count) L ∙ omega (arith, lain.0)) in
        let m : first ≡ length (front ++ arcs_of mean H) = f ∙ sym (length-map H' (arc_of mean)) ∙ ap length both in
        closed_front mean front (arcs_of mean H) (becomes first) n m ∙ (λ i. record { end = end_of mean top; arcs = front_is i })

    pub states_after : (first : ℕ) → first ≡ length H' → map (closed_state mean (arcs_of mean H')) (ls ++ (becomes first ∷ [])) ≡ map (closed_state mean (arcs_of mean H)) ls ++ (state_of (open_record mean (arcs_of mean L) top) ∷ [])
    states_after first f =
        ap (λ (es : List (Edge I)). map (closed_state mean es) (ls ++ (becomes first ∷ []))) both
        ∙ map-append (closed_state mean (front ++ arcs_of mean H)) ls (becomes first ∷ [])
        ∙ (λ i. closed_kept mean front (arcs_of mean H) ls fits i ++ (new_state first f i ∷ []))

    pub counts_after : (first : ℕ) → counts mean (ls ++ (becomes first ∷ [])) ≡ counts mean ls ++ ((pairs - top.keys) ∷ [])
    counts_after first = map-append (λ (s : State O). s.keys) ls (becomes first ∷ [])
