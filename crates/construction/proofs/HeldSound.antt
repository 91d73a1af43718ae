-- What is held after some pairs is sound. Assumes ascending keys of bytes and storable outputs.
use Rattle.std.proofs.Common.{◌≡◌, ℕ, ◌<◌, ◌≤◌, false, List, [], ◌∷◌, ◌++◌, map, length, sym, refl, ap, ◌∙◌, subst, arith}
use mathlib.Core.List.{map-append}
use mathlib.Core.Option.{some}
use lib.ListN.{length-map}
use Rattle.outputs.specs.Kinds.{Kind, Laws}
use Rattle.machines.specs.Lists.{at, Each}
use Rattle.machines.specs.Keys.{Key}
use Rattle.machines.specs.Machines.{State}
use Rattle.machines.specs.Pairs.{Pairs, under, Ascending, ByteKeys, AllStorable}
use Rattle.machines.specs.Memory.{newest, closed_prefixes, held_classes}
use Rattle.machines.specs.Residuals.{alike, first_prefixes}
use Rattle.machines.specs.Minimal.{state_of, minimal}
use Rattle.machines.proofs.Classes.{Apart, first_prefixes_apart}
use Rattle.machines.proofs.Reaching.{empty_prefix}
use Rattle.machines.proofs.Walks.{common_storable}
use Rattle.machines.proofs.Targets.{targets_below}
use Rattle.machines.proofs.Covering.{at_left}
use Rattle.machines.proofs.OneMore.{newest_some}
use Rattle.construction.specs.Records.{same_state}
use Rattle.construction.specs.Building.{held_after}
use Rattle.machines.specs.Storing.{StateStorable}
use Rattle.construction.specs.Theorems.{OpenStorable, Different, ArcsSound, OpenBelow, HeldSound}
use Rattle.construction.proofs.Lists.{each_image}
use Rattle.construction.proofs.Closing.{aim_storable, same_state_turn}
use Rattle.construction.proofs.SortedPrefixes.{beyond}
use Rattle.construction.proofs.ClassLists.{Extends, extends_on, enter_all, enter_all_extends}
use Rattle.construction.proofs.AlikeStates.{Complete, same_alike, state_storable}
use Rattle.construction.proofs.Expected.{whole_record, first_record, next_records}
use Rattle.construction.proofs.Entering.{states_grow}
use Rattle.construction.proofs.ClosedStates.{all_complete}
use Rattle.construction.proofs.Adding.{held_of}
use Rattle.construction.proofs.Holding.{held_is}
use Rattle.construction.proofs.Sealing.{classes_end}
use Rattle.construction.proofs.RecordArcs.{arcs_sound, records_sound, records_below}

module _ (k : Kind) (laws : Laws k) (P : Pairs k.Ideal) (ascending : Ascending P) (storable : AllStorable k P) where
  pub records_storable : (cs : List Key) (u s : Key) → Each (OpenStorable k) (first_record k P cs u s ∷ next_records k P cs u s)
  records_storable cs u [] = (state_storable k laws P ascending storable cs u, tt)
  records_storable cs u (a ∷ s) = (aim_storable k 0 (whole_record k P cs u) (state_storable k laws P ascending storable cs u), records_storable cs (u ++ (a ∷ [])) s)

  records_since : (cs : List Key) (u s : Key) → Each (λ o. o.since ≤ length P) (first_record k P cs u s ∷ next_records k P cs u s)
  records_since cs u [] = (omega arith, tt)
  records_since cs u (a ∷ s) = (omega arith, records_since cs (u ++ (a ∷ [])) s)

  states_different : (cs vs : List Key) → Each (Complete k laws P ascending storable cs) vs → Apart k P vs → Different k (map (state_of k P cs) vs)
  states_different cs [] h d = tt
  states_different cs (v ∷ vs) h d = (later vs h.1 d.0, states_different cs vs h.1 d.1)
    where
      later : (us : List Key) → Each (Complete k laws P ascending storable cs) us → Each (λ u. alike k P u v ≡ false) us → Each (λ t. same_state k (state_of k P cs v) t ≡ false) (map (state_of k P cs) us)
      later [] g e = tt
      later (u ∷ us) g e = (
        same_state_turn k laws (state_of k P cs u) (state_of k P cs v) (state_storable k laws P ascending storable cs u) (state_storable k laws P ascending storable cs v) (same_alike k laws P ascending storable cs u v g.0 h.0 ∙ e.0),
        later us g.1 e.1,
      )

  module _ (w : Key) (newest_is : newest P ≡ some w) (nonempty : 0 < length P) where
    -- the closed states are the first ones of the minimal machine
    pub first_states : (more : List (State k.Ideal)) × ((minimal k P).states ≡ map (state_of k P (held_classes k P)) (held_classes k P) ++ more)
    first_states =
        let cs : List Key = held_classes k P in
        let d : Extends cs (first_prefixes k P)
        = extends_on cs (enter_all k P cs (beyond [] w)) (first_prefixes k P) (enter_all_extends k P cs (beyond [] w)) ([] ∷ [], sym (classes_end k laws P ascending storable w newest_is nonempty)) in (
          map (state_of k P (first_prefixes k P)) d.0,
          ap (map (state_of k P (first_prefixes k P))) d.1 ∙ map-append (state_of k P (first_prefixes k P)) cs d.0
              ∙ ap (λ l. l ++ map (state_of k P (first_prefixes k P)) d.0) (states_grow k laws P ascending storable cs (first_prefixes k P) cs d (all_complete k laws P ascending storable w newest_is)),
        )

    held_of_sound : ByteKeys P → HeldSound k (held_of k P w)
    held_of_sound bytes =
        let cs : List Key = held_classes k P in
        let first = first_states in
        record {
          start_storable = common_storable k laws P ascending storable [] (empty_prefix P nonempty);
          closed = record {
            different = states_different cs cs (all_complete k laws P ascending storable w newest_is) (first_prefixes_apart k P [] (closed_prefixes P));
            storable = each_image (StateStorable k) (state_of k P cs) cs (state_storable k laws P ascending storable cs);
            counted = length-map cs (λ u. length (under P u)) ∙ sym (length-map cs (state_of k P cs));
          };
          open_storable = records_storable cs [] w;
          closed_arcs = each_image (λ s. ArcsSound s.arcs) (state_of k P cs) cs (arcs_sound k laws P ascending bytes cs);
          open_arcs = records_sound k laws P ascending bytes cs [] w;
          closed_below = λ i s e. targets_below k laws P i s (subst (λ l. at l i ≡ some s) (sym first.1) (at_left (map (state_of k P cs) cs) first.0 i s e));
          open_below = subst (λ n. OpenBelow n (first_record k P cs [] w ∷ next_records k P cs [] w)) (sym (length-map cs (state_of k P cs))) (records_below k laws P ascending storable w newest_is [] w refl);
          since = records_since cs [] w;
        }

module _ (k : Kind) (laws : Laws k) where
  pub held_sound : (P : Pairs k.Ideal) → Ascending P → ByteKeys P → AllStorable k P → HeldSound k (held_after k P)
  held_sound [] h b s = record {
    start_storable = laws.empty_storable;
    closed = record { different = tt; storable = tt; counted = refl };
    open_storable = tt;
    closed_arcs = tt;
    open_arcs = tt;
    closed_below = λ i x e. let o : ◌≡◌ {A = ℕ} 0 1 = cc in absurd (omega arith);
    open_below = tt;
    since = tt;
  }
  held_sound (p ∷ P) h b s =
      let n = newest_some p P in
      subst (HeldSound k) (sym (held_is k laws (p ∷ P) n.0 h s n.1)) (held_of_sound k laws (p ∷ P) h s n.0 n.1 (omega arith) b)
