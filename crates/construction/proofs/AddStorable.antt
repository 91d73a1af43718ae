-- Every join that is made where a pair is added is storable. Assumes ascending keys and storable outputs.
use Rattle.std.proofs.Common.{◌≡◌, ℕ, Bool, true, false, not, ◌⊎◌, List, [], ◌∷◌, ◌++◌, map, length, sym, refl, ap, ◌∙◌, subst, inl, inr, append_assoc, append-nil}
use mathlib.Core.Option.{Option, none, some}
use borrow.Author.Tests.{not-false}
use Rattle.outputs.specs.Kinds.{Kind, Laws}
use Rattle.machines.specs.Lists.{Each}
use Rattle.machines.specs.Keys.{Key, lower, past, common_length}
use Rattle.machines.specs.Machines.{Arc}
use Rattle.machines.specs.Pairs.{Pairs, under, first_bytes, Ascending, AllStorable}
use Rattle.machines.specs.Memory.{newest, not_above, held_classes}
use Rattle.machines.specs.Residuals.{greatest_common}
use Rattle.machines.specs.Minimal.{arcs_of, end_of}
use Rattle.machines.proofs.Lists.{In}
use Rattle.machines.proofs.Order.{lower_trans}
use Rattle.machines.proofs.Walks.{common_storable}
use Rattle.machines.proofs.Targets.{next_prefix}
use Rattle.machines.proofs.OneMore.{newest_some}
use Rattle.machines.proofs.PrefixLaws.{rest_storable}
use Rattle.construction.specs.Records.{Open, Closed, newest_key}
use Rattle.construction.specs.Steps.{aim_last, push_end, push_arc, push, last_output}
use Rattle.construction.specs.Building.{close_beyond, held_after}
use Rattle.machines.specs.Storing.{EndStorable}
use Rattle.construction.specs.Theorems.{JoinsEnd, Joins, PushStorable, AlongStorable, AddStorable}
use Rattle.construction.proofs.Lists.{each_append, each_left, in_right}
use Rattle.construction.proofs.OneMore.{leaves, up_to_newest}
use Rattle.construction.proofs.SortedPrefixes.{beyond}
use Rattle.construction.proofs.Commons.{rest_past, common_rest}
use Rattle.construction.proofs.ClassLists.{enter_all}
use Rattle.construction.proofs.AlikeStates.{state_storable}
use Rattle.construction.proofs.Expected.{closed_of, whole_record, leading_record, first_record, next_records, arcs_push, arc_to, last_push}
use Rattle.construction.proofs.Settling.{close_is}
use Rattle.construction.proofs.NewPair.{Comes, Shares, carried, remains, ascends, stores, common_then, then_before, then_new, end_then}
use Rattle.construction.proofs.Pushing.{Led, led, push_whole}
use Rattle.construction.proofs.ClosedStates.{holds_closed, all_complete, classes_then}
use Rattle.construction.proofs.Adding.{held_of, newest_key_is, bytes_new, new_byte, closed_off, closing}
use Rattle.construction.proofs.Holding.{held_is}

module _ (k : Kind) where
  -- what is pushed is storable exactly if the joins are
  joins_end : (x : k.Ideal) (o : Option k.Ideal) → EndStorable k (push_end k x o) → JoinsEnd k x o
  joins_end x none h = tt
  joins_end x (some y) h = h

  joins_arcs : (x : k.Ideal) (arcs : List (Arc k.Ideal)) → Each (λ arc. k.storable arc.output ≡ true) (map (push_arc k x) arcs) → Each (λ arc. k.storable (k.join x arc.output) ≡ true) arcs
  joins_arcs x [] h = tt
  joins_arcs x (arc ∷ arcs) h = (h.0, joins_arcs x arcs h.1)

module _ (k : Kind) (laws : Laws k) (P : Pairs k.Ideal) (e : Key × k.Ideal) (c : Comes k P e) where
  abbrev P' : Pairs k.Ideal
  P' = P ++ (e ∷ [])

  joins_ends : (u t : Key) → Shares c u t → JoinsEnd k (carried k P e u) (end_of k P u)
  joins_ends u t h = joins_end k (carried k P e u) (end_of k P u) (subst (EndStorable k) (sym (end_then k laws P e c u t h)) (state_storable k laws P' c.ascending c.storable [] u).0)

  module _ (cs : List Key) (off : Each (λ v. past v e.0 ≡ none) cs) where
    joins_whole : (u : Key) → Shares c u [] → Joins k (carried k P e u) (whole_record k P cs u)
    joins_whole u h =
        let same : c.leaves.shared ≡ u = h ∙ append-nil u in (
          joins_ends u [] h,
          joins_arcs k (carried k P e u) (arcs_of k P cs u (first_bytes (under P u)))
              (subst (Each (λ arc. k.storable arc.output ≡ true)) (sym (ap (λ o. o.arcs) (push_whole k laws P e c cs off u h (new_byte k laws P e c))))
              (each_left _ (arcs_of k P' cs u (first_bytes (under P u))) (arc_to k P' _ u c.leaves.byte ∷ [])
              (subst (Each (λ arc. k.storable arc.output ≡ true))
              (ap (arcs_of k P' cs u) (subst (λ v. first_bytes (under P' v) ≡ first_bytes (under P v) ++ (c.leaves.byte ∷ [])) same (bytes_new k laws P e c)) ∙ arcs_push k P' cs u (first_bytes (under P u)) c.leaves.byte)
              (state_storable k laws P' c.ascending c.storable cs u).1))),
        )

    joins_leading : (u : Key) (a : ℕ) (t : Key) → Shares c u (a ∷ t) → Led k P e cs u a → Joins k (carried k P e u) (leading_record k P cs u)
    joins_leading u a t h d = (
      joins_ends u (a ∷ t) h,
      joins_arcs k (carried k P e u) (aim_last 0 (arcs_of k P cs u (first_bytes (under P u))))
          (subst (Each (λ arc. k.storable arc.output ≡ true)) (sym d.pushed)
          (each_append _ (arcs_of k P' cs u d.others) (record { byte = a; target = 0; output = k.rest (greatest_common k P' u) (greatest_common k P (u ++ (a ∷ []))) } ∷ [])
          (each_left _ (arcs_of k P' cs u d.others) (arc_to k P' _ u a ∷ [])
          (subst (Each (λ arc. k.storable arc.output ≡ true)) (ap (arcs_of k P' cs u) d.bytes_then ∙ arcs_push k P' cs u d.others a) (state_storable k laws P' c.ascending c.storable cs u).1)) (
            rest_storable laws (greatest_common k P' u) (greatest_common k P (u ++ (a ∷ []))) d.on
                (common_storable k laws P (ascends k laws P e c) (stores k laws P e c) (u ++ (a ∷ [])) (next_prefix k laws P u a (subst (In a) (sym d.bytes) (in_right a d.others (a ∷ []) (inl refl))))),
            tt,
          ))),
    )

    pub push_storable : (u t : Key) → Shares c u t → PushStorable k (carried k P e u) (remains k P e u) (first_record k P cs u t) (next_records k P cs u t)
    push_storable u [] h = joins_whole u h
    push_storable u (a ∷ t) h =
        let ua : Key = u ++ (a ∷ []) in
        let h' : Shares c ua t = h ∙ sym (append_assoc u (a ∷ []) t) in
        let d = led k laws P e c cs off u a t h in
        let Y : k.Ideal = k.rest (greatest_common k P' u) (greatest_common k P ua) in
        let whole_is : last_output k (push k (carried k P e u) (leading_record k P cs u)).arcs ≡ Y
        = ap (last_output k) d.pushed ∙ last_push k (arcs_of k P' cs u d.others) (record { byte = a; target = 0; output = Y }) in
        let shared_is : k.common Y (remains k P e u) ≡ k.rest (greatest_common k P' u) (greatest_common k P' ua)
        = common_rest laws (greatest_common k P' u) (greatest_common k P ua) e.1 d.on (then_new k laws P e c u (a ∷ t) h) ∙ ap (k.rest (greatest_common k P' u)) (sym (common_then k laws P e c ua t h')) in
        let carry_is : k.rest (k.common Y (remains k P e u)) Y ≡ carried k P e ua
        = ap (λ y. k.rest y Y) shared_is ∙ rest_past laws (greatest_common k P' u) (greatest_common k P' ua) (greatest_common k P ua) d.on_then (then_before k laws P e c ua t h') in
        let left_is : k.rest (k.common Y (remains k P e u)) (remains k P e u) ≡ remains k P e ua
        = ap (λ y. k.rest y (remains k P e u)) shared_is ∙ rest_past laws (greatest_common k P' u) (greatest_common k P' ua) e.1 d.on_then (then_new k laws P e c ua t h') in
        let deep : k.Ideal → k.Ideal → Type 0 = λ y r. PushStorable k y r (first_record k P cs ua t) (next_records k P cs ua t) in (
          joins_leading u a t h d,
          subst (λ y. deep (k.rest (k.common y (remains k P e u)) y) (k.rest (k.common y (remains k P e u)) (remains k P e u))) (sym whole_is)
              (subst (λ y. deep y (k.rest (k.common Y (remains k P e u)) (remains k P e u))) (sym carry_is) (subst (deep (carried k P e ua)) (sym left_is) (push_storable ua t h'))),
        )

  pub add_storable : AddStorable k (held_of k P c.low) e.0 e.1
  add_storable = subst (λ d. along (closing k laws P e c d).1 common) (sym depth_is) (subst (λ r. along r.1 common) (sym kept_is) (subst (along (records ds)) common_is (push_storable ds (closed_off k laws P e c) [] c.leaves.shared refl)))
    where
      cs : List Key
      cs = held_classes k P

      ds : List Key
      ds = held_classes k P'

      common : k.Ideal
      common = k.common (greatest_common k P []) e.1

      records : List Key → List (Open k.Ideal)
      records es = first_record k P es [] c.leaves.shared ∷ next_records k P es [] c.leaves.shared

      along : List (Open k.Ideal) → k.Ideal → Type 0
      along os y = AlongStorable k (k.rest y (greatest_common k P [])) (k.rest y e.1) os

      depth_is : common_length e.0 (newest_key (first_record k P cs [] c.low ∷ next_records k P cs [] c.low)) ≡ length c.leaves.shared
      depth_is = ap (common_length e.0) (newest_key_is k laws P (ascends k laws P e c) (stores k laws P e c) c.low c.newest_is cs [] c.low refl) ∙ c.leaves.depth

      common_is : greatest_common k P' [] ≡ common
      common_is = common_then k laws P e c [] c.leaves.shared refl

      kept_is : closing k laws P e c (length c.leaves.shared) ≡ (closed_of k P ds, records ds)
      kept_is =
          subst (λ v. close_beyond k (length P) (closed_of k P cs) (length c.leaves.shared) (first_record k P cs [] v) (next_records k P cs [] v) ≡ (closed_of k P (enter_all k P cs (beyond c.leaves.shared c.leaves.old)), records (enter_all k P cs (beyond c.leaves.shared c.leaves.old)))) (sym c.leaves.low_is)
          (close_is k laws P (ascends k laws P e c) (stores k laws P e c) c.low c.newest_is cs [] c.leaves.shared c.leaves.old c.leaves.low_is (all_complete k laws P (ascends k laws P e c) (stores k laws P e c) c.low c.newest_is) (holds_closed k laws P (ascends k laws P e c) (stores k laws P e c) c.low c.newest_is))
          ∙ ap {B = Closed k.Ideal × List (Open k.Ideal)} (λ es. (closed_of k P es, records es)) (classes_then k P e c.ascending c.low c.newest_is c.leaves)

-- a key above the newest is above all
ascending_more : {A : Type 0} (P : Pairs A) (w : Key) (e : Key × A) → Ascending P → newest P ≡ some w → lower w e.0 ≡ true → Ascending (P ++ (e ∷ []))
ascending_more [] w e h n g = (tt, tt)
ascending_more (p ∷ []) w e h n g = let o : p.0 ≡ w = cc in ((subst (λ v. lower v e.0 ≡ true) (sym o) g, tt), (tt, tt))
ascending_more (p ∷ q ∷ P) w e h n g = (each_append (λ r. lower p.0 r.0 ≡ true) (q ∷ P) (e ∷ []) h.0 (go (up_to_newest (p ∷ q ∷ P) w h n).0, tt), ascending_more (q ∷ P) w e h.1 n g)
  where
    go : (p.0 ≡ w) ⊎ (lower p.0 w ≡ true) → lower p.0 e.0 ≡ true
    go (inl x) = subst (λ v. lower v e.0 ≡ true) (sym x) g
    go (inr x) = lower_trans p.0 w e.0 x g

module _ (k : Kind) (laws : Laws k) where
  pub joins_storable : (P : Pairs k.Ideal) → Ascending P → AllStorable k P → (key : Key) (output : k.Ideal) → not_above P key ≡ false → k.storable output ≡ true → AddStorable k (held_after k P) key output
  joins_storable [] h s key output a o = tt
  joins_storable (p ∷ P) h s key output a o =
      let n = newest_some p P in
      let above : lower n.0 key ≡ true = not-false (lower n.0 key) (sym (ap {B = Bool} (λ r. elim r [ none ↦ false | some last ↦ not (lower last key) ]) n.1) ∙ a) in
      subst (λ r. AddStorable k r key output) (sym (held_is k laws (p ∷ P) n.0 h s n.1))
      (add_storable k laws (p ∷ P) (key, output) (record {
        ascending = ascending_more (p ∷ P) n.0 (key, output) h n.1 above;
        storable = each_append (λ r. k.storable r.1 ≡ true) (p ∷ P) ((key, output) ∷ []) s (o, tt);
        low = n.0;
        newest_is = n.1;
        leaves = leaves n.0 key above;
      }))
