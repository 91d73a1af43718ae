-- What a step on the open records changes, and what it leaves as it was. Assumes nothing.
use Rattle.std.specs.Prelude.{◌≡◌, ℕ, ◌+◌, ◌-◌, ◌<◌, ◌≤◌, List, map, length, get_or, slice_index_or}
use Rattle.std.proofs.Math.Option.{Option, none, some}
use Rattle.stacks.specs.Stacks.{lows, highs, capacity}
use Rattle.machines.specs.Machines.{Arc as Edge}
use Rattle.construction.specs.Records.{Open, blank}
use Rattle.records.specs.declared.record.State.{State}
use Rattle.records.specs.declared.memory.Core.{Core}
use Rattle.records.specs.Shape.{openings}
use Rattle.records.specs.Holding.{arcs_of, end_of, held}
use Rattle.pushing.specs.Altering.{alter, alter_range}

-- the closed part of the memory, its register and its room are as they were
pub record Keeps {O : Type 0} (before after : Core O) : Type 0 where
  pub states : lows after.states ≡ lows before.states
  pub arcs : highs after.arcs ≡ highs before.arcs
  pub slots : after.slots.now ≡ before.slots.now
  pub staterooms : capacity after.states ≡ capacity before.states
  pub arcrooms : capacity after.arcs ≡ capacity before.arcs

-- besides, there are as many pairs, open records and arcs of them
pub record SameShape {O : Type 0} (before after : Core O) : Type 0 where
  pub keeps : Keeps before after
  pub pairs : after.pairs ≡ before.pairs
  pub openings : openings after ≡ openings before
  pub arcs : length (lows after.arcs) ≡ length (lows before.arcs)

-- the open record at a depth is altered, and nothing else
pub record Altered {O I : Type 0} (mean : O → I) (depth : ℕ) (f : Open I → Open I) (before after : Core O) : Type 0 where
  pub shape : SameShape before after
  pub start : after.start ≡ before.start
  pub records : (held mean after).open' ≡ alter depth f (held mean before).open'

-- what is known of an open record at a depth, as it lies in memory
pub record RecordAt {O : Type 0} (c : Core O) (depth : ℕ) (s : State O) : Type 0 where
  pub at : (e : State O) → s ≡ slice_index_or (highs c.states) (openings c - 1 - depth) e
  pub fits : s.first + s.count ≤ length (lows c.arcs)
  pub leads : depth + 1 < openings c → 0 < s.count

-- a place is that of the last arc of the open record at a depth, as it lies in memory
pub record LastPlace {O : Type 0} (c : Core O) (depth : ℕ) (place : ℕ) : Type 0 where
  pub of : State O
  pub at : (e : State O) → of ≡ slice_index_or (highs c.states) (openings c - 1 - depth) e
  pub last : place + 1 ≡ of.first + of.count
  pub some : 0 < of.count
  pub fits : place < length (lows c.arcs)

-- the arcs of the open record at a depth
abbrev pub arcs_at : {I : Type 0} → ℕ → List (Open I) → List (Edge I)
arcs_at depth os = (get_or os depth (blank 0)).arcs

abbrev pub output_under : {I : Type 0} → (I → I) → Edge I → Edge I
output_under f e = record { byte = e.byte; target = e.target; output = f e.output }

abbrev pub end_under : {I : Type 0} → (I → I) → Option I → Option I
end_under f none = none
end_under f (some x) = some (f x)

-- all outputs of an open record under f
abbrev pub outputs_under : {I : Type 0} → (I → I) → Open I → Open I
outputs_under f o = record { end = end_under f o.end; arcs = map (output_under f) o.arcs; since = o.since }

-- the outputs of a range of the open records' arcs are under f, and nothing else is changed
pub record ArcsUnder {O I : Type 0} (mean : O → I) (f : I → I) (from to : ℕ) (before after : Core O) : Type 0 where
  pub shape : SameShape before after
  pub start : after.start ≡ before.start
  pub arcs : arcs_of mean (lows after.arcs) ≡ alter_range (output_under f) from to (arcs_of mean (lows before.arcs))
  pub records : highs after.states ≡ highs before.states

-- the end output of a record is under f, and nothing else is changed
pub record EndUnder {O I : Type 0} (mean : O → I) (f : I → I) (before after : State O) : Type 0 where
  pub first : after.first ≡ before.first
  pub count : after.count ≡ before.count
  pub keys : after.keys ≡ before.keys
  pub end : end_of mean after ≡ end_under f (end_of mean before)
