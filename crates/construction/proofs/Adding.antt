-- A pair added to what is held gives what is held with that pair. Assumes ascending keys and storable outputs.
use Rattle.std.proofs.Common.{◌≡◌, ℕ, suc, ◌-◌, ◌<◌, true, List, [], ◌∷◌, ◌++◌, length, drop, sym, refl, ap, ◌∙◌, subst, ap₂, append_assoc, append-nil, arith, length-append}
use mathlib.Core.List.{append_cancel_left}
use mathlib.Core.Option.{Option, none, some}
use Rattle.outputs.specs.Kinds.{Kind, Laws}
use Rattle.machines.specs.Lists.{Each}
use Rattle.machines.specs.Keys.{Key, lower, past, common_length}
use Rattle.machines.specs.Machines.{Arc}
use Rattle.machines.specs.Pairs.{Pairs, output_of, under, first_bytes, Ascending, AllStorable}
use Rattle.machines.specs.Memory.{newest, held_classes}
use Rattle.machines.specs.Residuals.{greatest, greatest_common, firsts_after}
use Rattle.machines.specs.Minimal.{arcs_of, end_of}
use Rattle.machines.proofs.Lists.{each_map}
use Rattle.machines.proofs.FirstBytes.{RisingBytes, rising_bytes}
use Rattle.machines.proofs.Order.{head_found}
use Rattle.machines.proofs.Under.{past_append, past_some, under_found, ascending_under}
use Rattle.machines.proofs.OneMore.{under_end_some}
use Rattle.construction.specs.Records.{Open, Closed, Held, blank, last_byte, newest_key}
use Rattle.construction.specs.Steps.{aim_last, add_arc, extend, extend_last}
use Rattle.construction.specs.Building.{nothing_held, close_beyond, push_along, add}
use Rattle.construction.proofs.OneMore.{HeadBelow, between, newest_below}
use Rattle.construction.proofs.SortedPrefixes.{beyond}
use Rattle.construction.proofs.ClosedPrefixes.{past_apart, up_to}
use Rattle.construction.proofs.NewlyClosed.{closed_one}
use Rattle.construction.proofs.ClassLists.{enter_all}
use Rattle.construction.proofs.NextBytes.{newest_under, first_new, all_below}
use Rattle.construction.proofs.Expected.{closed_of, leading_record, first_record, next_records, arc_to, open_equal}
use Rattle.construction.proofs.Settling.{rising_last, leading_is, split_bytes, close_is}
use Rattle.construction.proofs.Extending.{extend_is}
use Rattle.construction.proofs.NewPair.{Comes, Shares, ascends, stores, shares_past, common_then, remains, since_then}
use Rattle.construction.proofs.Pushing.{NewByte, pushed_record, pushed_first, pushed_next, push_is}
use Rattle.construction.proofs.ClosedStates.{holds_closed, all_complete, closed_other, each_leaves, classes_then}

module _ (k : Kind) where
  -- what is held of some pairs with a newest key
  abbrev pub held_of : Pairs k.Ideal → Key → Held k.Ideal
  held_of P w =
      let cs : List Key = held_classes k P in
      record { closed = closed_of k P cs; open' = first_record k P cs [] w ∷ next_records k P cs [] w; start = greatest_common k P []; pairs = length P }

  -- the first pair
  pub first_is : (laws : Laws k) (e : Key × k.Ideal) → add k (nothing_held k) e.0 e.1 ≡ held_of (e ∷ []) e.0
  first_is laws e =
      let cs : held_classes k (e ∷ []) ≡ [] = ap (firsts_after k (e ∷ []) []) (closed_one e) in
      ap {B = Held k.Ideal} (λ os. record { closed = record { states = []; counts = [] }; open' = os; start = e.1; pairs = 1 }) (extend_is k laws (e ∷ []) e.1 [] 0 refl [] e.0 refl)
      ∙ ap {B = Held k.Ideal} (λ l. record { closed = closed_of k (e ∷ []) l; open' = first_record k (e ∷ []) l [] e.0 ∷ next_records k (e ∷ []) l [] e.0; start = e.1; pairs = 1 }) (sym cs)

  last_byte_push : (arcs : List (Arc k.Ideal)) (arc : Arc k.Ideal) → last_byte (arcs ++ (arc ∷ [])) ≡ arc.byte
  last_byte_push [] arc = refl
  last_byte_push (b ∷ []) arc = refl
  last_byte_push (b ∷ c ∷ arcs) arc = last_byte_push (c ∷ arcs) arc

module _ (k : Kind) (laws : Laws k) (P : Pairs k.Ideal) (ascending : Ascending P) (storable : AllStorable k P) (w : Key) (newest_is : newest P ≡ some w) where
  -- the newest key is read off the records
  pub newest_key_is : (cs : List Key) (u s : Key) → w ≡ u ++ s → newest_key (first_record k P cs u s ∷ next_records k P cs u s) ≡ s
  newest_key_is cs u [] e = refl
  newest_key_is cs u (a ∷ s) e =
      let b = split_bytes k laws P ascending storable w newest_is u a s e in
      ap₂ {C = Key} (λ c v. c ∷ v)
      (ap last_byte (leading_is k P cs u b.0 a b.1) ∙ last_byte_push k (arcs_of k P cs u b.0) (arc_to k P 0 u a))
      (newest_key_is cs (u ++ (a ∷ [])) s (e ∙ sym (append_assoc u (a ∷ []) s)))

module _ (k : Kind) (laws : Laws k) (P : Pairs k.Ideal) (e : Key × k.Ideal) (c : Comes k P e) where
  abbrev P' : Pairs k.Ideal
  P' = P ++ (e ∷ [])

  all_shared : Shares c c.leaves.shared []
  all_shared = sym (append-nil c.leaves.shared)

  shared_past : past c.leaves.shared e.0 ≡ some (c.leaves.byte ∷ c.leaves.new)
  shared_past = shares_past k laws P e c c.leaves.shared [] all_shared

  -- the new byte stands last behind what is shared
  pub bytes_new : first_bytes (under P' c.leaves.shared) ≡ first_bytes (under P c.leaves.shared) ++ (c.leaves.byte ∷ [])
  bytes_new =
      ap first_bytes (under_end_some P e c.leaves.shared (c.leaves.byte ∷ c.leaves.new) shared_past)
      ∙ first_new (under P c.leaves.shared) c.leaves.byte c.leaves.new e.1
      (all_below (under P c.leaves.shared) c.leaves.old c.leaves.byte (ascending_under P c.leaves.shared (ascends k laws P e c)) (newest_under P c.leaves.shared c.leaves.old (c.newest_is ∙ ap {B = Option Key} some c.leaves.low_is)) c.leaves.below)

  pub new_byte : NewByte c
  new_byte =
      each_map _ _ (first_bytes (under P c.leaves.shared)) (λ b h. ap (past (c.leaves.shared ++ (b ∷ []))) c.leaves.key_is ∙ past_apart c.leaves.shared b c.leaves.byte [] c.leaves.new (λ q. omega arith))
      (rising_last c.leaves.byte (first_bytes (under P c.leaves.shared)) (subst RisingBytes bytes_new (rising_bytes (under P' c.leaves.shared) (ascending_under P' c.leaves.shared c.ascending))))

  -- nothing stood behind it
  nothing_under : under P (c.leaves.shared ++ (c.leaves.byte ∷ [])) ≡ []
  nothing_under = go (under P (c.leaves.shared ++ (c.leaves.byte ∷ []))) refl
    where
      go : (Q : Pairs k.Ideal) → under P (c.leaves.shared ++ (c.leaves.byte ∷ [])) ≡ Q → Q ≡ []
      go [] f = refl
      go (q ∷ Q) f =
          let v : Key = c.leaves.shared ++ (c.leaves.byte ∷ []) in
          let found : output_of P (v ++ q.0) ≡ some q.1 = sym (under_found P v q.0) ∙ ap (λ R. output_of R q.0) f ∙ head_found q Q in
          let t = up_to P (ascends k laws P e c) c.low c.newest_is v (q.0, q.1, found) in
          let key_is : e.0 ≡ v ++ c.leaves.new = c.leaves.key_is ∙ sym (append_assoc c.leaves.shared (c.leaves.byte ∷ []) c.leaves.new) in
          let b = between v t.0 c.low c.leaves.new t.1 (subst (λ x. lower c.low x ≡ true) key_is (newest_below P e [] c.low c.ascending c.newest_is)) in
          let old_is : c.leaves.old ≡ c.leaves.byte ∷ b.0 = append_cancel_left c.leaves.shared c.leaves.old (c.leaves.byte ∷ b.0) (sym c.leaves.low_is ∙ past_some v c.low b.0 b.1 ∙ append_assoc c.leaves.shared (c.leaves.byte ∷ []) b.0) in
          let less : c.leaves.byte < c.leaves.byte = subst (HeadBelow c.leaves.byte) old_is c.leaves.below in
          absurd (omega arith)

  only_new : under P' (c.leaves.shared ++ (c.leaves.byte ∷ [])) ≡ (c.leaves.new, e.1) ∷ []
  only_new =
      let v : Key = c.leaves.shared ++ (c.leaves.byte ∷ []) in
      under_end_some P e v c.leaves.new (ap (past v) (c.leaves.key_is ∙ sym (append_assoc c.leaves.shared (c.leaves.byte ∷ []) c.leaves.new)) ∙ past_append v c.leaves.new) ∙ ap (λ Q. Q ++ ((c.leaves.new, e.1) ∷ [])) nothing_under

  count : length P' ≡ suc (length P)
  count = length-append P (e ∷ []) ∙ omega arith

  module _ (cs : List Key) where
    abbrev pushed_at : Key → Open k.Ideal
    pushed_at u = pushed_record k P e cs u

    -- the last shared record with its new arc
    with_new : add_arc k c.leaves.byte (remains k P e c.leaves.shared) (pushed_at c.leaves.shared) ≡ leading_record k P' cs c.leaves.shared
    with_new =
        open_equal k (end_of k P' c.leaves.shared) (end_of k P' c.leaves.shared)
        (arcs_of k P' cs c.leaves.shared (first_bytes (under P c.leaves.shared)) ++ (record { byte = c.leaves.byte; target = 0; output = k.rest (greatest_common k P' c.leaves.shared) e.1 } ∷ []))
        (aim_last 0 (arcs_of k P' cs c.leaves.shared (first_bytes (under P' c.leaves.shared)))) (length P - length (under P c.leaves.shared)) (length P' - length (under P' c.leaves.shared))
        refl
        (ap {B = List (Arc k.Ideal)} (λ y. arcs_of k P' cs c.leaves.shared (first_bytes (under P c.leaves.shared)) ++ (record { byte = c.leaves.byte; target = 0; output = k.rest (greatest_common k P' c.leaves.shared) y } ∷ [])) (sym (ap (greatest k) only_new))
        ∙ sym (leading_is k P' cs c.leaves.shared (first_bytes (under P c.leaves.shared)) c.leaves.byte bytes_new))
        (since_then k laws P e c c.leaves.shared [] all_shared)

    extended : (u t : Key) → Shares c u t
        → extend_last k (length P) (pushed_first k P e cs u t ∷ pushed_next k P e cs u t) (c.leaves.byte ∷ c.leaves.new) (remains k P e c.leaves.shared)
        ≡ first_record k P' cs u (t ++ (c.leaves.byte ∷ c.leaves.new)) ∷ next_records k P' cs u (t ++ (c.leaves.byte ∷ c.leaves.new))
    extended u [] h =
        let same : c.leaves.shared ≡ u = h ∙ append-nil u in
        ap₂ {C = List (Open k.Ideal)} (λ o os. o ∷ os)
        (subst (λ v. add_arc k c.leaves.byte (remains k P e c.leaves.shared) (pushed_at v) ≡ leading_record k P' cs v) same with_new)
        (subst (λ v. extend k (length P) (blank (length P)) c.leaves.new k.empty ≡ first_record k P' cs (v ++ (c.leaves.byte ∷ [])) c.leaves.new ∷ next_records k P' cs (v ++ (c.leaves.byte ∷ [])) c.leaves.new) same
        (extend_is k laws P' e.1 cs (length P) count (c.leaves.shared ++ (c.leaves.byte ∷ [])) c.leaves.new only_new))
    extended u (a ∷ t) h = ap {B = List (Open k.Ideal)} (λ os. leading_record k P' cs u ∷ os) (extended (u ++ (a ∷ [])) t (h ∙ sym (append_assoc u (a ∷ []) t)))

  -- no first prefix that is closed then begins the new key
  pub closed_off : Each (λ v. past v e.0 ≡ none) (held_classes k P')
  closed_off = each_leaves k P e c.ascending c.low c.newest_is c.leaves

  -- what is held, closed down to a depth
  abbrev pub closing : ℕ → Closed k.Ideal × List (Open k.Ideal)
  closing d = close_beyond k (length P) (closed_of k P (held_classes k P)) d (first_record k P (held_classes k P) [] c.low) (next_records k P (held_classes k P) [] c.low)

  -- a pair added
  pub add_is : add k (held_of k P c.low) e.0 e.1 ≡ held_of k P' e.0
  add_is = first ∙ second ∙ third ∙ fourth ∙ fifth ∙ sixth ∙ seventh ∙ last
    where
      n : ℕ
      n = length P

      cs : List Key
      cs = held_classes k P

      ds : List Key
      ds = held_classes k P'

      kept_of : List Key → Closed k.Ideal × List (Open k.Ideal)
      kept_of es = (closed_of k P es, first_record k P es [] c.leaves.shared ∷ next_records k P es [] c.leaves.shared)

      finish : ℕ → Closed k.Ideal × List (Open k.Ideal) → k.Ideal → Held k.Ideal
      finish d r y =
          let p : List (Open k.Ideal) × k.Ideal = push_along k (k.rest y (greatest_common k P [])) (k.rest y e.1) r.1 in
          record { closed = r.0; open' = extend_last k n p.0 (drop d e.0) p.1; start = y; pairs = suc n }

      common : k.Ideal
      common = k.common (greatest_common k P []) e.1

      first : add k (held_of k P c.low) e.0 e.1 ≡ finish (length c.leaves.shared) (closing (length c.leaves.shared)) common
      first = ap (λ d. finish d (closing d) common) (ap (common_length e.0) (newest_key_is k laws P (ascends k laws P e c) (stores k laws P e c) c.low c.newest_is cs [] c.low refl) ∙ c.leaves.depth)

      second : finish (length c.leaves.shared) (closing (length c.leaves.shared)) common ≡ finish (length c.leaves.shared) (kept_of (enter_all k P cs (beyond c.leaves.shared c.leaves.old))) common
      second = ap (λ r. finish (length c.leaves.shared) r common)
          (subst (λ v. close_beyond k n (closed_of k P cs) (length c.leaves.shared) (first_record k P cs [] v) (next_records k P cs [] v) ≡ kept_of (enter_all k P cs (beyond c.leaves.shared c.leaves.old))) (sym c.leaves.low_is)
          (close_is k laws P (ascends k laws P e c) (stores k laws P e c) c.low c.newest_is cs [] c.leaves.shared c.leaves.old c.leaves.low_is (all_complete k laws P (ascends k laws P e c) (stores k laws P e c) c.low c.newest_is) (holds_closed k laws P (ascends k laws P e c) (stores k laws P e c) c.low c.newest_is)))

      third : finish (length c.leaves.shared) (kept_of (enter_all k P cs (beyond c.leaves.shared c.leaves.old))) common ≡ finish (length c.leaves.shared) (kept_of ds) common
      third = ap (λ es. finish (length c.leaves.shared) (kept_of es) common) (classes_then k P e c.ascending c.low c.newest_is c.leaves)

      fourth : finish (length c.leaves.shared) (kept_of ds) common ≡ finish (length c.leaves.shared) (kept_of ds) (greatest_common k P' [])
      fourth = ap (finish (length c.leaves.shared) (kept_of ds)) (sym (common_then k laws P e c [] c.leaves.shared refl))

      grown : Key → List (Open k.Ideal) × k.Ideal → Held k.Ideal
      grown t p = record { closed = closed_of k P ds; open' = extend_last k n p.0 t p.1; start = greatest_common k P' []; pairs = suc n }

      pushed : List (Open k.Ideal) × k.Ideal
      pushed = (pushed_first k P e ds [] c.leaves.shared ∷ pushed_next k P e ds [] c.leaves.shared, remains k P e c.leaves.shared)

      fifth : finish (length c.leaves.shared) (kept_of ds) (greatest_common k P' []) ≡ grown (drop (length c.leaves.shared) e.0) pushed
      fifth = ap (grown (drop (length c.leaves.shared) e.0)) (push_is k laws P e c ds closed_off [] c.leaves.shared refl new_byte)

      sixth : grown (drop (length c.leaves.shared) e.0) pushed ≡ grown (c.leaves.byte ∷ c.leaves.new) pushed
      sixth = ap (λ t. grown t pushed) c.leaves.behind

      seventh : grown (c.leaves.byte ∷ c.leaves.new) pushed ≡ record { closed = closed_of k P ds; open' = first_record k P' ds [] (c.leaves.shared ++ (c.leaves.byte ∷ c.leaves.new)) ∷ next_records k P' ds [] (c.leaves.shared ++ (c.leaves.byte ∷ c.leaves.new)); start = greatest_common k P' []; pairs = suc n }
      seventh = ap {B = Held k.Ideal} (λ os. record { closed = closed_of k P ds; open' = os; start = greatest_common k P' []; pairs = suc n }) (extended ds [] c.leaves.shared refl)

      last : ◌≡◌ {A = Held k.Ideal} (record { closed = closed_of k P ds; open' = first_record k P' ds [] (c.leaves.shared ++ (c.leaves.byte ∷ c.leaves.new)) ∷ next_records k P' ds [] (c.leaves.shared ++ (c.leaves.byte ∷ c.leaves.new)); start = greatest_common k P' []; pairs = suc n }) (held_of k P' e.0)
      last =
          let p = closed_other k P e ds closed_off in
          let q = sym c.leaves.key_is in
          let r = sym count in
          λ i. record { closed = p i; open' = first_record k P' ds [] (q i) ∷ next_records k P' ds [] (q i); start = greatest_common k P' []; pairs = r i }
