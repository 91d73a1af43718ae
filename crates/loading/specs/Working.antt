-- What the working bytes hold: of each state the length of its longest string, 100 at most, and 128 more once an arc leads to it. Assumes nothing.
use Rattle.std.specs.Prelude.{◌≡◌, ℕ, suc, ◌%◌, ◌<◌, ◌≤◌, min, max, Bool, false, ◌||◌, List, [], ◌∷◌, length, nat_le, slice_index, slice_index_or}
use Rattle.outputs.specs.Kinds.{Kind}
use Rattle.machines.specs.Lists.{Each}
use Rattle.machines.specs.Machines.{Arc, State, count_arcs, aims, targeted}
use Rattle.machines.specs.Lengths.{longest_from}
use Rattle.images.specs.Loads.{sum_over, keys_at}

-- the length in the byte of state q
abbrev pub length_in : List ℕ → ℕ → ℕ
length_in working q = slice_index working q % 128

-- whether the byte of state q is marked
abbrev pub marked_in : List ℕ → ℕ → Bool
marked_in working q = nat_le 128 (slice_index working q)

-- one more than the longest that the bytes have for the targets of some arcs, 100 at most, and 0 without an arc
abbrev pub longest_in : {A : Type 0} → List ℕ → List (Arc A) → ℕ
longest_in working [] = 0
longest_in working (arc ∷ arcs) = max (min 100 (suc (length_in working arc.target))) (longest_in working arcs)

-- the targets of some arcs of state q are marked, and nothing else is changed below q
pub record Aimed {A : Type 0} (working working' : List ℕ) (q : ℕ) (arcs : List (Arc A)) : Type 0 where
  pub lengths : (t : ℕ) → t < q → length_in working' t ≡ length_in working t
  pub marks : (t : ℕ) → t < q → marked_in working' t ≡ (marked_in working t || aims t arcs)

-- the arcs of state q are noted: their targets are marked, and q has its own length and no mark
pub record Noted {A : Type 0} (working working' : List ℕ) (q : ℕ) (arcs : List (Arc A)) : Type 0 where
  pub below : Each (λ arc. arc.target < q) arcs
  pub aimed : Aimed working working' q arcs
  pub own : slice_index_or working' q 0 ≡ longest_in working arcs

-- what code that reads the arcs of state q tells: the sum of the keys of their targets
pub record RowRead (k : Kind) (all : List Bool) (index q count : ℕ) (working working' : List ℕ) (sum : ℕ) (row : List (Arc k.Ideal)) : Type 0 where
  pub keys : sum ≡ sum_over (keys_at k all index) row
  pub many : length row ≡ count
  pub noted : Noted working working' q row

-- what code that reads the record of state q tells: how many arcs it has
pub record RecordRead {A : Type 0} (q : ℕ) (working working' : List ℕ) (count : ℕ) (state : State A) : Type 0 where
  pub many : count ≡ length state.arcs
  pub noted : Noted working working' q state.arcs

-- the working bytes hold what they should of some states
pub record Kept {A : Type 0} (working : List ℕ) (states : List (State A)) : Type 0 where
  pub lengths : (q : ℕ) → q < length states → length_in working q ≡ min 100 (longest_from states q)
  pub marks : (q : ℕ) → q < length states → marked_in working q ≡ targeted q states
  pub below : (q : ℕ) → length states ≤ q → targeted q states ≡ false

-- what code that reads n records in turn tells: how many arcs they have
pub record RecordsRead {A : Type 0} (n : ℕ) (working : List ℕ) (count : ℕ) (states : List (State A)) : Type 0 where
  pub many : length states ≡ n
  pub arcs : count ≡ count_arcs states
  pub kept : Kept working states
