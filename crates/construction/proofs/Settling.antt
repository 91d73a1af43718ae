-- Closing the records behind a prefix of the newest key enters their classes, the deepest first. Assumes ascending keys and storable outputs.
use Rattle.std.proofs.Common.{◌≡◌, ℕ, ◌-◌, ◌<◌, true, List, [], ◌∷◌, ◌++◌, length, sym, refl, ap, ◌∙◌, subst, append_assoc, append-nil, arith}
use mathlib.Core.List.{append_cancel_left}
use mathlib.Core.Option.{Option, none, some}
use Rattle.outputs.specs.Kinds.{Kind, Laws}
use Rattle.machines.specs.Lists.{Each}
use Rattle.machines.specs.Keys.{Key, past}
use Rattle.machines.specs.Pairs.{Pairs, under, first_bytes, KeyPrefix, Ascending, AllStorable}
use Rattle.machines.specs.Memory.{newest}
use Rattle.machines.specs.Residuals.{any_alike, class_in}
use Rattle.machines.specs.Minimal.{arcs_of, end_of}
use Rattle.machines.proofs.Lists.{In, each_in, each_of, each_map}
use Rattle.machines.proofs.FirstBytes.{Over, RisingBytes, rising_bytes}
use Rattle.machines.proofs.Under.{past_some, ascending_under}
use Rattle.machines.proofs.Targets.{next_prefix}
use Rattle.construction.specs.Records.{Open, Closed}
use Rattle.construction.specs.Steps.{aim_last, aim, enter, settle}
use Rattle.construction.specs.Building.{close_beyond}
use Rattle.construction.proofs.Lists.{in_left}
use Rattle.construction.proofs.SortedPrefixes.{beyond}
use Rattle.construction.proofs.ClosedPrefixes.{past_apart}
use Rattle.construction.proofs.NextBytes.{newest_under, last_first}
use Rattle.construction.proofs.ClassLists.{Extends, extends_self, extends_on, enter_class, enter_all, enter_append, enter_extends, enter_all_extends, any_grows, entered}
use Rattle.construction.proofs.AlikeStates.{Complete}
use Rattle.construction.proofs.Expected.{closed_of, whole_record, leading_record, first_record, next_records, arc_to, arcs_push, arcs_grow, aim_push, open_equal}
use Rattle.construction.proofs.Entering.{enter_is, enter_complete}

over_last : (b a : ℕ) (bs : List ℕ) → Over b (bs ++ (a ∷ [])) → b < a
over_last b a [] h = h.0
over_last b a (c ∷ bs) h = over_last b a bs h.1

pub rising_last : (a : ℕ) (bs : List ℕ) → RisingBytes (bs ++ (a ∷ [])) → Each (λ b. b < a) bs
rising_last a [] h = tt
rising_last a (b ∷ bs) h = (over_last b a bs h.0, rising_last a bs h.1)

module _ (k : Kind) (P : Pairs k.Ideal) where
  -- the arcs of a record that leads on
  pub leading_is : (cs : List Key) (u : Key) (bs : List ℕ) (a : ℕ) → first_bytes (under P u) ≡ bs ++ (a ∷ []) → aim_last 0 (arcs_of k P cs u (first_bytes (under P u))) ≡ arcs_of k P cs u bs ++ (arc_to k P 0 u a ∷ [])
  leading_is cs u bs a e = ap (λ l. aim_last 0 (arcs_of k P cs u l)) e ∙ ap (aim_last 0) (arcs_push k P cs u bs a) ∙ aim_push k 0 (arcs_of k P cs u bs) (arc_to k P (class_in k P cs (u ++ (a ∷ []))) u a)

module _ (k : Kind) (laws : Laws k) (P : Pairs k.Ideal) (ascending : Ascending P) (storable : AllStorable k P) (w : Key) (newest_is : newest P ≡ some w) where
  abbrev Full : List Key → Key → Type 0
  Full cs u = Complete k laws P ascending storable cs u

  -- every closed prefix has its class in the list
  abbrev pub HoldsClosed : List Key → Type 0
  HoldsClosed cs = (v : Key) → KeyPrefix P v → past v w ≡ none → any_alike k P v cs ≡ true

  -- behind a prefix of the newest key, its next byte comes last, and the others lead to closed prefixes
  pub split_bytes : (u : Key) (a : ℕ) (s : Key) → w ≡ u ++ (a ∷ s) → (bs : List ℕ) × (first_bytes (under P u) ≡ bs ++ (a ∷ [])) × Each (λ b. KeyPrefix P (u ++ (b ∷ [])) × (past (u ++ (b ∷ [])) w ≡ none)) bs
  split_bytes u a s e =
      let d = last_first (under P u) a s (newest_under P u (a ∷ s) (newest_is ∙ ap {B = Option Key} some e)) in
      let below : Each (λ b. b < a) d.0 = rising_last a d.0 (subst RisingBytes d.1 (rising_bytes (under P u) (ascending_under P u ascending))) in (
        d.0,
        d.1,
        each_of _ d.0 (λ b i.
            let less : b < a = each_in (λ c. c < a) d.0 b below i in (
              next_prefix k laws P u b (subst (In b) (sym d.1) (in_left b d.0 (a ∷ []) i)),
              ap (past (u ++ (b ∷ []))) e ∙ past_apart u b a [] s (λ q. omega arith),
            )),
      )

  -- a record that leads on gets its target
  aim_whole : (cs ds : List Key) (u : Key) (a : ℕ) (s : Key) → w ≡ u ++ (a ∷ s) → HoldsClosed cs → Extends cs ds → aim (class_in k P ds (u ++ (a ∷ []))) (leading_record k P cs u) ≡ whole_record k P ds u
  aim_whole cs ds u a s e h d =
      let b = split_bytes u a s e in
      let q : ℕ = class_in k P ds (u ++ (a ∷ [])) in
      open_equal k (end_of k P u) (end_of k P u) (aim_last q (aim_last 0 (arcs_of k P cs u (first_bytes (under P u))))) (arcs_of k P ds u (first_bytes (under P u))) (length P - length (under P u)) (length P - length (under P u)) refl
      (ap (aim_last q) (leading_is k P cs u b.0 a b.1) ∙ aim_push k q (arcs_of k P cs u b.0) (arc_to k P 0 u a)
      ∙ ap (λ l. l ++ (arc_to k P q u a ∷ [])) (sym (arcs_grow k P cs ds u b.0 d (each_map _ _ b.0 (λ c p. h (u ++ (c ∷ [])) p.0 p.1) b.2)))
      ∙ sym (arcs_push k P ds u b.0 a) ∙ ap (arcs_of k P ds u) (sym b.1))
      refl

  -- a record that leads on stays as more classes are entered
  leading_grows : (cs ds : List Key) (u : Key) (a : ℕ) (s : Key) → w ≡ u ++ (a ∷ s) → HoldsClosed cs → Extends cs ds → leading_record k P cs u ≡ leading_record k P ds u
  leading_grows cs ds u a s e h d =
      let b = split_bytes u a s e in
      open_equal k (end_of k P u) (end_of k P u) (aim_last 0 (arcs_of k P cs u (first_bytes (under P u)))) (aim_last 0 (arcs_of k P ds u (first_bytes (under P u)))) (length P - length (under P u)) (length P - length (under P u)) refl
      (leading_is k P cs u b.0 a b.1
      ∙ ap (λ l. l ++ (arc_to k P 0 u a ∷ [])) (sym (arcs_grow k P cs ds u b.0 d (each_map _ _ b.0 (λ c p. h (u ++ (c ∷ [])) p.0 p.1) b.2)))
      ∙ sym (leading_is k P ds u b.0 a b.1))
      refl

  -- all that follows a prefix of the newest key is there, once its next prefix is
  now_complete : (u s : Key) (cs ds : List Key) → w ≡ u ++ s → HoldsClosed cs → Extends cs ds → ((a : ℕ) (t : Key) → s ≡ a ∷ t → any_alike k P (u ++ (a ∷ [])) ds ≡ true) → Full ds u
  now_complete u s cs ds e h d f = each_of _ (first_bytes (under P u)) (λ a i. go a (next_prefix k laws P u a i) (past (u ++ (a ∷ [])) w) refl)
    where
      go : (a : ℕ) → KeyPrefix P (u ++ (a ∷ [])) → (o : Option Key) → past (u ++ (a ∷ [])) w ≡ o → any_alike k P (u ++ (a ∷ [])) ds ≡ true
      go a p none g = any_grows k P (u ++ (a ∷ [])) cs ds d (h (u ++ (a ∷ [])) p g)
      go a p (some t) g = f a t (append_cancel_left u s (a ∷ t) (sym e ∙ past_some (u ++ (a ∷ [])) w t g ∙ append_assoc u (a ∷ []) t))

  -- the classes once the records beyond u along s are closed
  abbrev pub settled : List Key → Key → Key → List Key
  settled cs u s = enter_all k P cs (beyond u s)

  settled_on : (cs : List Key) (u : Key) (a : ℕ) (s : Key) → settled cs u (a ∷ s) ≡ enter_class k P (settled cs (u ++ (a ∷ [])) s) (u ++ (a ∷ []))
  settled_on cs u a s = enter_append k P cs (beyond (u ++ (a ∷ [])) s) ((u ++ (a ∷ [])) ∷ [])

  pub record Settled (cs : List Key) (u s : Key) : Type 0 where
    pub is : settle k (length P) (closed_of k P cs) (first_record k P cs u s) (next_records k P cs u s) ≡ (closed_of k P (settled cs u s), whole_record k P (settled cs u s) u)
    pub all : Each (Full (settled cs u s)) (settled cs u s)
    pub here : Full (settled cs u s) u

  pub settle_is : (cs : List Key) (u s : Key) → w ≡ u ++ s → Each (Full cs) cs → HoldsClosed cs → Settled cs u s
  settle_is cs u [] e c h = record {
    is = refl;
    all = c;
    here = now_complete u [] cs cs e h (extends_self cs) (λ a t q. let o : ◌≡◌ {A = ℕ} 0 1 = cc in absurd (omega arith));
  }
  settle_is cs u (a ∷ s) e c h =
      let ua : Key = u ++ (a ∷ []) in
      let deep = settle_is cs ua s (e ∙ sym (append_assoc u (a ∷ []) s)) c h in
      let ds : List Key = settled cs ua s in
      let es : List Key = enter_class k P ds ua in
      let on : settled cs u (a ∷ s) ≡ es = settled_on cs u a s in
      let x : Extends cs es = extends_on cs ds es (enter_all_extends k P cs (beyond ua s)) (enter_extends k P ds ua) in
      let step : Closed k.Ideal × Open k.Ideal → Closed k.Ideal × Open k.Ideal
      = λ r. ((enter k (length P) r.0 r.1).1, aim (enter k (length P) r.0 r.1).0 (leading_record k P cs u)) in
      let full : Full es u = now_complete u (a ∷ s) cs es e h x (λ b t q. let o : b ≡ a = cc in subst (λ z. any_alike k P (u ++ (z ∷ [])) es ≡ true) (sym o) (entered k P ds ua)) in
      record {
        is = ap step deep.is
            ∙ ap {B = Closed k.Ideal × Open k.Ideal} (λ r. (r.1, aim r.0 (leading_record k P cs u))) (enter_is k laws P ascending storable ds ua deep.all deep.here)
            ∙ ap {B = Closed k.Ideal × Open k.Ideal} (λ o. (closed_of k P es, o)) (aim_whole cs es u a s e h x)
            ∙ ap {B = Closed k.Ideal × Open k.Ideal} (λ l. (closed_of k P l, whole_record k P l u)) (sym on);
        all = subst (λ l. Each (Full l) l) (sym on) (enter_complete k laws P ascending storable ds ua deep.all deep.here);
        here = subst (λ l. Full l u) (sym on) full;
      }

  -- the records beyond the shared part are closed, the others stay
  pub close_is : (cs : List Key) (u c s : Key) → w ≡ u ++ (c ++ s) → Each (Full cs) cs → HoldsClosed cs
      → close_beyond k (length P) (closed_of k P cs) (length c) (first_record k P cs u (c ++ s)) (next_records k P cs u (c ++ s))
      ≡ (closed_of k P (settled cs (u ++ c) s), first_record k P (settled cs (u ++ c) s) u c ∷ next_records k P (settled cs (u ++ c) s) u c)
  close_is cs u [] s e f h =
      ap {B = Closed k.Ideal × List (Open k.Ideal)} (λ r. (r.0, r.1 ∷ [])) (settle_is cs u s e f h).is
      ∙ ap {B = Closed k.Ideal × List (Open k.Ideal)} (λ v. (closed_of k P (settled cs v s), whole_record k P (settled cs v s) u ∷ [])) (sym (append-nil u))
  close_is cs u (a ∷ c) s e f h =
      let ua : Key = u ++ (a ∷ []) in
      let ds : List Key = settled cs (u ++ (a ∷ c)) s in
      let deep = close_is cs ua c s (e ∙ sym (append_assoc u (a ∷ []) (c ++ s))) f h in
      ap {B = Closed k.Ideal × List (Open k.Ideal)} (λ r. (r.0, leading_record k P cs u ∷ r.1)) deep
      ∙ ap {B = Closed k.Ideal × List (Open k.Ideal)} (λ v. (closed_of k P (settled cs v s), leading_record k P cs u ∷ first_record k P (settled cs v s) ua c ∷ next_records k P (settled cs v s) ua c)) (append_assoc u (a ∷ []) c)
      ∙ ap {B = Closed k.Ideal × List (Open k.Ideal)} (λ o. (closed_of k P ds, o ∷ first_record k P ds ua c ∷ next_records k P ds ua c)) (leading_grows cs ds u a (c ++ s) e h (enter_all_extends k P cs (beyond (u ++ (a ∷ c)) s)))
