-- What a loaded store has of the states of the machine that it holds. Assumes nothing.
use Rattle.std.proofs.Common.{◌≡◌, ℕ, ◌+◌, ◌-◌, ◌*◌, ◌^◌, ◌<◌, ◌≤◌, Bool, not, eqb, ltb, List, [], length, get_or, sym, ap, ◌∙◌, subst, arith, ltb-false}
use mathlib.Core.Option.{some}
use Rattle.outputs.specs.Bits.{spread, filling}
use Rattle.outputs.specs.Kinds.{Kind}
use Rattle.machines.specs.Lists.{at}
use Rattle.machines.specs.Machines.{State, Machine, count_arcs, end_flag}
use Rattle.machines.specs.Counts.{counts_of}
use Rattle.machines.specs.Lengths.{longest_from}
use Rattle.machines.proofs.Lists.{below_at}
use Rattle.images.specs.Steps.{Step, reads, refuses, Reader, ◌>>=◌, ◌>>◌, gives, field}
use Rattle.images.specs.Loads.{Head, head, entries, records, record_place, keys_at, all_targeted, whole, load}
use Rattle.images.proofs.RecordReads.{sum_is}
use Rattle.loading.specs.declared.held.Loaded.{Loaded}
use Rattle.loading.specs.Loading.{Holds}
use Rattle.loading.proofs.EndsAlike.{machine_of, filled_then, behind_records}
use Rattle.lookups.specs.Standing.{Stored}
use Rattle.lookups.specs.Lookups.{bits_of}
use Rattle.lookups.proofs.ReadBack.{one_value, both_read, both_passed, tested}
use Rattle.lookups.proofs.RecordParts.{bits_below, RecordThere, states_there, entries_there}
use Rattle.lookups.proofs.CountedKeys.{counts_are}

-- states whose records were read, by an index that was passed
module _ (k : Kind) (all : List Bool) (index : ℕ) (m : Machine k.Ideal)
    (passed : (i : ℕ) → i < length m.states → index + 32 * i + 32 ≤ length all)
    (there : (i : ℕ) (s : State k.Ideal) → at m.states i ≡ some s → RecordThere k all index i s)
    (short : longest_from m.states m.start ≤ 64) where
  counts_held : (q : ℕ) → q < length m.states → keys_at k all index q ≡ get_or (counts_of m.states) q 0
  counts_held = counts_are {A = k.Ideal} (keys_at k all index) m.states (λ q s e. record { keys = (there q s e).keys; below = (there q s e).below })

  stored_so : Stored k all index m
  stored_so = record {
    states = λ q s e. let t = there q s e in record { entry = passed q (below_at m.states q s e); stands = t.stands; rising = t.rising; below = t.below };
    keys = counts_held;
    counted = λ q s e.
        let t = there q s e in
        let l = below_at m.states q s e in
        sym (counts_held q l) ∙ t.keys ∙ ap (λ (n : ℕ). end_flag s.end + n) (sum_is (keys_at k all index) (counts_of m.states) q s.arcs t.below (λ i b. counts_held i (omega arith)));
    few_keys = λ q s e. subst (λ (n : ℕ). n < 2 ^ 20) (counts_held q (below_at m.states q s e)) (bits_below all (record_place k all index q + 10) 20 (omega (arith, (there q s e).stands.within)));
    short = short;
  }

module _ (k : Kind) (all : List Bool) (front : Head k.Ideal) where
  -- the tests behind the last record
  module _ (ss : List (State k.Ideal)) where
    last_read : (p : ℕ) (m : Machine k.Ideal) (e : ℕ) → filled_then (machine_of k all front ss) all p ≡ reads m e → machine_of k all front ss ≡ m
    last_read p m e h =
        let a = both_read (field all (filling p)) _ p m e h in
        one_value (tested 26 p (not (eqb a.first 0)) (gives (machine_of k all front ss)) a.behind m e a.after).1

    rest_read : (p : ℕ) (m : Machine k.Ideal) (e : ℕ) → behind_records k all front ss p ≡ reads m e → (longest_from ss (front.states - 1) ≤ 64) × (machine_of k all front ss ≡ m)
    rest_read p m e h =
        let a = tested 24 front.keys_place (not (eqb front.keys (keys_at k all front.index (front.states - 1)))) _ p m e h in
        let b = tested 24 front.arcs_place (not (eqb front.arcs (count_arcs ss))) _ p m e a.1 in
        let c = both_passed (all_targeted k all front.index ss 0 (front.states - 1)) _ p m e b.1 in
        let d = tested 25 (record_place k all front.index (front.states - 1)) (ltb 64 (longest_from ss (front.states - 1))) (filled_then (machine_of k all front ss) all) c.behind m e c.after in
        (ltb-false 64 (longest_from ss (front.states - 1)) d.0, last_read c.behind m e d.1)

  abbrev behind_head : Reader (Machine k.Ideal)
  behind_head = do
    entries k all front.states
    states ← records k all front.index 0 front.states []
    behind_records k all front states

  behind_stored : (m : Machine k.Ideal) (e : ℕ) → behind_head front.index ≡ reads m e → Stored k all front.index m
  behind_stored m e h =
      let b = both_passed (entries k all front.states) (◌>>=◌ (records k all front.index 0 front.states []) (behind_records k all front)) front.index m e h in
      let c = both_read (records k all front.index 0 front.states []) (behind_records k all front) b.behind m e b.after in
      let ss : List (State k.Ideal) = c.first in
      let t = states_there k all front.index 0 front.states b.behind [] ss c.behind c.read in
      let r = rest_read ss c.behind m e c.after in
      let entry = entries_there k all front.states front.index b.first b.behind b.read in
      let many : length ss ≡ front.states = ap length t.is ∙ t.many in
      subst (Stored k all front.index) r.1
      (stored_so k all front.index (machine_of k all front ss)
      (λ q l. entry q (subst (λ (n : ℕ). q < n) many l))
      (λ q s f. let z : 0 + q ≡ q = omega arith in subst (λ (n : ℕ). RecordThere k all front.index n s) z (t.each q s (sym (ap (λ (l : List (State k.Ideal)). at l q) t.is) ∙ f)))
      r.0)

pub whole_stored : (k : Kind) (all : List Bool) (working : ℕ) (front : Head k.Ideal) → head k all working 0 ≡ reads front front.index → (m : Machine k.Ideal) (e : ℕ) → whole k all working 0 ≡ reads m e → Stored k all front.index m
whole_stored k all working front front_read m e h =
    let f : Step (Head k.Ideal) → Step (Machine k.Ideal) = λ s. elim s [ reads x p ↦ behind_head k all x p | refuses d ↦ refuses d ] in
    behind_stored k all front m e (sym (ap f front_read) ∙ h)

-- the machine that a loaded store holds stands in its bits
pub held_stored : {O S : Type 0} (k : Kind) (meaning : O → k.Ideal) (bytes : S → List ℕ) (loaded : Loaded O S) (m : Machine k.Ideal) → Holds k meaning bytes loaded m → Stored k (bits_of bytes loaded) loaded.index m
unfolding load
held_stored k meaning bytes loaded m h =
    subst (λ (n : ℕ). Stored k (bits_of bytes loaded) n m) (sym h.index) (whole_stored k (spread (bytes loaded.store)) h.working h.front h.front_read m h.behind h.taken)
