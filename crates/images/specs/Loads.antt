-- What load answers on any bytes: the machine that they hold, or the first refusal, test by test. Assumes nothing.
use Rattle.std.specs.Prelude.{ℕ, zero, suc, ◌+◌, ◌-◌, ◌*◌, Bool, true, false, not, ◌&&◌, ◌||◌, List, [], ◌∷◌, ◌++◌, take, drop, ◌==◌, nat_le, nat_lt}
use Rattle.std.proofs.Math.Option.{Option, none, some}
use Rattle.outputs.specs.Bits.{value, spread, filling}
use Rattle.outputs.specs.Kinds.{Kind}
use Rattle.machines.specs.Machines.{Arc, State, Machine, count_arcs, targeted}
use Rattle.machines.specs.Lengths.{longest_from}
use Rattle.images.specs.Images.{mark}
use Rattle.images.specs.Steps.{Step, Reader, ◌>>=◌, ◌>>◌, gives, place, refuse, field, output}

-- The fields in front of the index, and the place of the index.
pub record Head (A : Type 0) : Type 0 where
  pub states : ℕ
  pub arcs_place : ℕ
  pub arcs : ℕ
  pub keys_place : ℕ
  pub keys : ℕ
  pub start_output : A
  pub index : ℕ

-- an arc count that no record has: over 256, or 0 without an end
abbrev pub misshapen : ℕ → ℕ → Bool
misshapen count flag = nat_lt 256 count || (count == 0 && flag == 0)

-- the sum of what f has for the targets of some arcs
abbrev pub sum_over : {A : Type 0} → (ℕ → ℕ) → List (Arc A) → ℕ
sum_over f [] = 0
sum_over f (arc ∷ arcs) = f arc.target + sum_over f arcs

-- read if a flag is set, else absent
abbrev pub if_flagged : {A : Type 0} → Bool → Reader A → Reader (Option A)
if_flagged true r = do
  x ← r
  gives (some x)
if_flagged false r = gives none

module _ (k : Kind) (all : List Bool) where
  -- the head, for a number of working bytes
  abbrev pub head : ℕ → Reader (Head k.Ideal)
  head working = do
    mark_place ← place
    found ← field all 16
    refuse 17 mark_place (not (found == mark))
    kind_place ← place
    number ← field all 8
    refuse 18 kind_place (not (number == k.number))
    states_place ← place
    states ← field all 16
    arcs_place ← place
    arcs ← field all 17
    keys_place ← place
    keys ← field all 20
    refuse 19 states_place (states == 0)
    refuse 19 keys_place (keys == 0)
    refuse 20 states_place (nat_lt working states)
    start_output ← output all k
    index ← place
    gives (record { states = states; arcs_place = arcs_place; arcs = arcs; keys_place = keys_place; keys = keys; start_output = start_output; index = index })

  -- the index is passed, entry by entry
  unfoldable pub entries : ℕ → Reader (Unit {0})
  entries zero = gives tt
  entries (suc n) = do
    entry ← field all 32
    entries n

  -- where the index has the entry of state q
  abbrev pub entry_place : ℕ → ℕ → ℕ
  entry_place index q = index + 32 * q

  -- the place of the record of state q, as the index says
  abbrev pub record_place : ℕ → ℕ → ℕ
  record_place index q = value (take 32 (drop (entry_place index q) all))

  -- the key count in that record
  abbrev pub keys_at : ℕ → ℕ → ℕ
  keys_at index q = value (take 20 (drop (record_place index q + 10) all))

  -- an arc of state q, its byte not below `least`
  abbrev pub arc : ℕ → ℕ → Reader (Arc k.Ideal)
  arc q least = do
    byte_place ← place
    byte ← field all 8
    refuse 23 byte_place (nat_lt byte least)
    target_place ← place
    target ← field all 16
    refuse 23 target_place (nat_le q target)
    x ← output all k
    gives (record { byte = byte; target = target; output = x })

  -- n more arcs of state q behind those that are done
  unfoldable pub arcs : ℕ → ℕ → ℕ → List (Arc k.Ideal) → Reader (List (Arc k.Ideal))
  arcs q zero least done = gives done
  arcs q (suc n) least done = do
    next ← arc q least
    arcs q n (suc next.byte) (done ++ (next ∷ []))

  -- the end output, if the flag is set
  unfoldable pub end_output : ℕ → Reader (Option k.Ideal)
  end_output flag = if_flagged (flag == 1) (output all k)

  -- the record of state q
  abbrev pub record_at : ℕ → ℕ → Reader (State k.Ideal)
  record_at index q = do
    here ← place
    refuse 22 (entry_place index q) (not (record_place index q == here))
    flag ← field all 1
    count_place ← place
    count ← field all 9
    refuse 23 count_place (misshapen count flag)
    keys_place ← place
    keys ← field all 20
    end ← end_output flag
    row ← arcs q count 0 []
    refuse 24 keys_place (not (keys == flag + sum_over (keys_at index) row))
    gives (record { end = end; arcs = row })

  -- n more records, from that of state q on, behind the states that are done
  unfoldable pub records : ℕ → ℕ → ℕ → List (State k.Ideal) → Reader (List (State k.Ideal))
  records index q zero done = gives done
  records index q (suc n) done = do
    next ← record_at index q
    records index (suc q) n (done ++ (next ∷ []))

  -- every one of n states from q on is some arc's target
  unfoldable pub all_targeted : ℕ → List (State k.Ideal) → ℕ → ℕ → Reader (Unit {0})
  all_targeted index states q zero = gives tt
  all_targeted index states q (suc n) = do
    refuse 25 (record_place index q) (not (targeted q states))
    all_targeted index states (suc q) n

  -- the whole image, for a number of working bytes; its start is the last state
  abbrev pub whole : ℕ → Reader (Machine k.Ideal)
  whole working = do
    front ← head working
    entries front.states
    states ← records front.index 0 front.states []
    refuse 24 front.keys_place (not (front.keys == keys_at front.index (front.states - 1)))
    refuse 24 front.arcs_place (not (front.arcs == count_arcs states))
    all_targeted front.index states 0 (front.states - 1)
    refuse 25 (record_place front.index (front.states - 1)) (nat_lt 64 (longest_from states (front.states - 1)))
    used ← place
    rest ← field all (filling used)
    refuse 26 used (not (rest == 0))
    gives (record { start = front.states - 1; start_output = front.start_output; states = states })

-- the answer of load on the bytes of a store, for a number of working bytes
unfoldable pub load : (k : Kind) → ℕ → List ℕ → Step (Machine k.Ideal)
load k working bytes = whole k (spread bytes) working 0
