-- Pushing outputs along the records that a new key shares gives each what it holds with one pair more. Assumes ascending keys and storable outputs.
use Rattle.std.proofs.Common.{◌≡◌, ℕ, ◌-◌, List, [], ◌∷◌, ◌++◌, map, length, sym, refl, ap, ◌∙◌, subst, ap₂, inl, append_assoc, append-nil}
use mathlib.Core.Option.{Option, none, some}
use Rattle.std.proofs.lemmas.List.{map_push}
use Rattle.outputs.specs.Kinds.{Kind, Laws, PrefixOf}
use Rattle.machines.specs.Lists.{Each}
use Rattle.machines.specs.Keys.{Key, past}
use Rattle.machines.specs.Machines.{Arc}
use Rattle.machines.specs.Pairs.{Pairs, under, first_bytes}
use Rattle.machines.specs.Residuals.{greatest_common, class_in}
use Rattle.machines.specs.Minimal.{arcs_of, end_of}
use Rattle.machines.proofs.Lists.{In, each_map, each_of, each_in}
use Rattle.machines.proofs.PrefixLaws.{prefix_trans}
use Rattle.machines.proofs.OneMore.{under_end_some}
use Rattle.machines.proofs.NextBytes.{same_bytes}
use Rattle.construction.specs.Records.{Open}
use Rattle.construction.specs.Steps.{aim_last, push_end, push_arc, push, last_output, with_last_output, lead, push_down}
use Rattle.construction.proofs.Lists.{in_left, in_right}
use Rattle.construction.proofs.NewPair.{Comes, Shares, carried, remains, ascends, stores, shares_low, shares_past, common_then, then_before, then_new, end_then, since_then}
use Rattle.construction.proofs.NewlyClosed.{stays_closed}
use Rattle.construction.proofs.NextBytes.{newest_under}
use Rattle.construction.proofs.Commons.{rest_on, rest_past, common_rest, common_other, residual_other}
use Rattle.construction.proofs.ClassLists.{Unchanged, class_unchanged}
use Rattle.construction.proofs.AlikeStates.{common_on}
use Rattle.construction.proofs.Expected.{whole_record, leading_record, first_record, next_records, arc_to, last_push, with_last_push, open_equal}
use Rattle.construction.proofs.Settling.{leading_is, split_bytes}

-- no next byte of the last shared record is the new one
abbrev pub NewByte : {k : Kind} {P : Pairs k.Ideal} {e : Key × k.Ideal} → Comes k P e → Type 0
NewByte {k} {P} {e} c = Each (λ b. past (c.leaves.shared ++ (b ∷ [])) e.0 ≡ none) (first_bytes (under P c.leaves.shared))

module _ (k : Kind) (P : Pairs k.Ideal) (e : Key × k.Ideal) (cs : List Key) where
  -- a record that leads on: its next bytes before and then, and its arcs once pushed
  pub record Led (u : Key) (a : ℕ) : Type 0 where
    pub others : List ℕ
    pub bytes : first_bytes (under P u) ≡ others ++ (a ∷ [])
    pub bytes_then : first_bytes (under (P ++ (e ∷ [])) u) ≡ others ++ (a ∷ [])
    pub on : PrefixOf k (greatest_common k (P ++ (e ∷ [])) u) (greatest_common k P (u ++ (a ∷ [])))
    pub on_then : PrefixOf k (greatest_common k (P ++ (e ∷ [])) u) (greatest_common k (P ++ (e ∷ [])) (u ++ (a ∷ [])))
    pub pushed : map (push_arc k (carried k P e u)) (aim_last 0 (arcs_of k P cs u (first_bytes (under P u))))
        ≡ arcs_of k (P ++ (e ∷ [])) cs u others ++ (record { byte = a; target = 0; output = k.rest (greatest_common k (P ++ (e ∷ [])) u) (greatest_common k P (u ++ (a ∷ []))) } ∷ [])

  -- the last shared record, before the new byte is added
  abbrev pub pushed_record : Key → Open k.Ideal
  pushed_record u = record { end = end_of k (P ++ (e ∷ [])) u; arcs = arcs_of k (P ++ (e ∷ [])) cs u (first_bytes (under P u)); since = length P - length (under P u) }

  abbrev pub pushed_first : Key → Key → Open k.Ideal
  pushed_first u [] = pushed_record u
  pushed_first u (a ∷ t) = leading_record k (P ++ (e ∷ [])) cs u

  abbrev pub pushed_next : Key → Key → List (Open k.Ideal)
  pushed_next u [] = []
  pushed_next u (a ∷ t) = pushed_first (u ++ (a ∷ [])) t ∷ pushed_next (u ++ (a ∷ [])) t

module _ (k : Kind) (laws : Laws k) (P : Pairs k.Ideal) (e : Key × k.Ideal) (c : Comes k P e) (cs : List Key) (off : Each (λ v. past v e.0 ≡ none) cs) where
  abbrev P' : Pairs k.Ideal
  P' = P ++ (e ∷ [])

  same_classes : Each (Unchanged k P P') cs
  same_classes = each_map _ _ cs (λ v f. residual_other k P e v f) off

  -- the arcs that do not lead on
  pub arcs_then : (u t : Key) → Shares c u t → (bs : List ℕ) → Each (λ b. In b (first_bytes (under P u)) × (past (u ++ (b ∷ [])) e.0 ≡ none)) bs → map (push_arc k (carried k P e u)) (arcs_of k P cs u bs) ≡ arcs_of k P' cs u bs
  arcs_then u t h [] g = refl
  arcs_then u t h (b ∷ bs) g =
      let ub : Key = u ++ (b ∷ []) in
      let q : class_in k P cs ub ≡ class_in k P' cs ub = class_unchanged k P P' ub cs (residual_other k P e ub g.0.1) same_classes in
      let y : k.join (carried k P e u) (k.rest (greatest_common k P u) (greatest_common k P ub)) ≡ k.rest (greatest_common k P' u) (greatest_common k P' ub)
      = rest_on laws (greatest_common k P' u) (greatest_common k P u) (greatest_common k P ub) (then_before k laws P e c u t h) (common_on k laws P (ascends k laws P e c) (stores k laws P e c) u b g.0.0)
      ∙ ap (k.rest (greatest_common k P' u)) (sym (common_other k P e ub g.0.1)) in
      let arc : push_arc k (carried k P e u) (arc_to k P (class_in k P cs ub) u b) ≡ arc_to k P' (class_in k P' cs ub) u b = λ i. record { byte = b; target = q i; output = y i } in
      ap₂ {C = List (Arc k.Ideal)} (λ a as'. a ∷ as') arc (arcs_then u t h bs g.1)

  pub led : (u : Key) (a : ℕ) (t : Key) → Shares c u (a ∷ t) → Led k P e cs u a
  led u a t h =
      let b = split_bytes k laws P (ascends k laws P e c) (stores k laws P e c) c.low c.newest_is u a (t ++ c.leaves.old) (shares_low k laws P e c u (a ∷ t) h) in
      let bytes_then : first_bytes (under P' u) ≡ b.0 ++ (a ∷ [])
      = ap first_bytes (under_end_some P e u (a ∷ t ++ (c.leaves.byte ∷ c.leaves.new)) (shares_past k laws P e c u (a ∷ t) h))
      ∙ same_bytes (under P u) a (t ++ c.leaves.old) (t ++ (c.leaves.byte ∷ c.leaves.new)) e.1 (newest_under P u (a ∷ t ++ c.leaves.old) (c.newest_is ∙ ap {B = Option Key} some (shares_low k laws P e c u (a ∷ t) h))) ∙ b.1 in
      let last : In a (b.0 ++ (a ∷ [])) = in_right a b.0 (a ∷ []) (inl refl) in
      let grows : PrefixOf k (greatest_common k P u) (greatest_common k P (u ++ (a ∷ []))) = common_on k laws P (ascends k laws P e c) (stores k laws P e c) u a (subst (In a) (sym b.1) last) in
      let out : k.join (carried k P e u) (k.rest (greatest_common k P u) (greatest_common k P (u ++ (a ∷ [])))) ≡ k.rest (greatest_common k P' u) (greatest_common k P (u ++ (a ∷ [])))
      = rest_on laws (greatest_common k P' u) (greatest_common k P u) (greatest_common k P (u ++ (a ∷ []))) (then_before k laws P e c u (a ∷ t) h) grows in
      record {
        others = b.0;
        bytes = b.1;
        bytes_then = bytes_then;
        on = prefix_trans laws (greatest_common k P' u) (greatest_common k P u) (greatest_common k P (u ++ (a ∷ []))) (then_before k laws P e c u (a ∷ t) h) grows;
        on_then = common_on k laws P' c.ascending c.storable u a (subst (In a) (sym bytes_then) last);
        pushed = ap (map (push_arc k (carried k P e u))) (leading_is k P cs u b.0 a b.1)
            ∙ map_push (push_arc k (carried k P e u)) (arcs_of k P cs u b.0) (arc_to k P 0 u a)
            ∙ ap₂ {C = List (Arc k.Ideal)} (λ as' y. as' ++ (record { byte = a; target = 0; output = y } ∷ []))
            (arcs_then u (a ∷ t) h b.0 (each_of _ b.0 (λ x i.
            let p = each_in _ b.0 x b.2 i in
            (subst (In x) (sym b.1) (in_left x b.0 (a ∷ []) i), stays_closed P e c.ascending c.low c.newest_is c.leaves (u ++ (x ∷ [])) p.0 p.1))))
            out;
      }

  pub push_whole : (u : Key) → Shares c u [] → NewByte c → push k (carried k P e u) (whole_record k P cs u) ≡ pushed_record k P e cs u
  push_whole u h n =
      let same : c.leaves.shared ≡ u = h ∙ append-nil u in
      open_equal k (push_end k (carried k P e u) (end_of k P u)) (end_of k P' u) (map (push_arc k (carried k P e u)) (arcs_of k P cs u (first_bytes (under P u)))) (arcs_of k P' cs u (first_bytes (under P u))) (length P - length (under P u)) (length P - length (under P u))
      (end_then k laws P e c u [] h)
      (arcs_then u [] h (first_bytes (under P u)) (each_of _ (first_bytes (under P u)) (λ b i. (i, each_in _ (first_bytes (under P u)) b (subst (λ v. Each (λ x. past (v ++ (x ∷ [])) e.0 ≡ none) (first_bytes (under P v))) same n) i))))
      refl

  pub push_is : (u t : Key) → Shares c u t → NewByte c → push_down k (carried k P e u) (remains k P e u) (first_record k P cs u t) (next_records k P cs u t) ≡ (pushed_first k P e cs u t ∷ pushed_next k P e cs u t, remains k P e c.leaves.shared)
  push_is u [] h n =
      ap₂ {C = List (Open k.Ideal) × k.Ideal} (λ o y. (o ∷ [], y)) (push_whole u h n) (ap (remains k P e) (sym (h ∙ append-nil u)))
  push_is u (a ∷ t) h n =
      let ua : Key = u ++ (a ∷ []) in
      let h' : Shares c ua t = h ∙ sym (append_assoc u (a ∷ []) t) in
      let d = led u a t h in
      let pushed : Open k.Ideal = push k (carried k P e u) (leading_record k P cs u) in
      let Y : k.Ideal = k.rest (greatest_common k P' u) (greatest_common k P ua) in
      let S : k.Ideal = k.rest (greatest_common k P' u) (greatest_common k P' ua) in
      let whole_is : last_output k pushed.arcs ≡ Y
      = ap (last_output k) d.pushed ∙ last_push k (arcs_of k P' cs u d.others) (record { byte = a; target = 0; output = Y }) in
      let shared_is : k.common Y (remains k P e u) ≡ S
      = common_rest laws (greatest_common k P' u) (greatest_common k P ua) e.1 d.on (then_new k laws P e c u (a ∷ t) h) ∙ ap (k.rest (greatest_common k P' u)) (sym (common_then k laws P e c ua t h')) in
      let carry_is : k.rest (k.common Y (remains k P e u)) Y ≡ carried k P e ua
      = ap (λ y. k.rest y Y) shared_is ∙ rest_past laws (greatest_common k P' u) (greatest_common k P' ua) (greatest_common k P ua) d.on_then (then_before k laws P e c ua t h') in
      let left_is : k.rest (k.common Y (remains k P e u)) (remains k P e u) ≡ remains k P e ua
      = ap (λ y. k.rest y (remains k P e u)) shared_is ∙ rest_past laws (greatest_common k P' u) (greatest_common k P' ua) e.1 d.on_then (then_new k laws P e c ua t h') in
      let made : k.Ideal → k.Ideal → k.Ideal → List (Open k.Ideal) × k.Ideal
      = λ s y r. (lead k s pushed ∷ (push_down k y r (first_record k P cs ua t) (next_records k P cs ua t)).0, (push_down k y r (first_record k P cs ua t) (next_records k P cs ua t)).1) in
      let led_is : lead k S pushed ≡ leading_record k P' cs u
      = open_equal k (push_end k (carried k P e u) (end_of k P u)) (end_of k P' u) (with_last_output k S pushed.arcs) (aim_last 0 (arcs_of k P' cs u (first_bytes (under P' u)))) (length P - length (under P u)) (length P' - length (under P' u))
      (end_then k laws P e c u (a ∷ t) h)
      (ap (with_last_output k S) d.pushed ∙ with_last_push k S (arcs_of k P' cs u d.others) (record { byte = a; target = 0; output = Y }) ∙ sym (leading_is k P' cs u d.others a d.bytes_then))
      (since_then k laws P e c u (a ∷ t) h) in
      let first : push_down k (carried k P e u) (remains k P e u) (leading_record k P cs u) (first_record k P cs ua t ∷ next_records k P cs ua t) ≡ made (k.common Y (remains k P e u)) (k.rest (k.common Y (remains k P e u)) Y) (k.rest (k.common Y (remains k P e u)) (remains k P e u))
      = ap (λ y. made (k.common y (remains k P e u)) (k.rest (k.common y (remains k P e u)) y) (k.rest (k.common y (remains k P e u)) (remains k P e u))) whole_is in
      let second : made (k.common Y (remains k P e u)) (k.rest (k.common Y (remains k P e u)) Y) (k.rest (k.common Y (remains k P e u)) (remains k P e u)) ≡ made S (carried k P e ua) (remains k P e ua)
      = λ i. made (shared_is i) (carry_is i) (left_is i) in
      first ∙ second
      ∙ ap {B = List (Open k.Ideal) × k.Ideal} (λ r. (lead k S pushed ∷ r.0, r.1)) (push_is ua t h' n)
      ∙ ap {B = List (Open k.Ideal) × k.Ideal} (λ o. (o ∷ pushed_first k P e cs ua t ∷ pushed_next k P e cs ua t, remains k P e c.leaves.shared)) led_is
