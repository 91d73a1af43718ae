-- Pushing outputs along the open records, step by step. Assumes nothing.
use Rattle.std.specs.Prelude.{◌≡◌, ℕ, List, slice_index_or}
use Rattle.outputs.specs.Kinds.{Kind}
use Rattle.machines.specs.Machines.{Arc as Edge}
use Rattle.construction.specs.Records.{Open, Held, blank, last_byte}
use Rattle.construction.specs.Steps.{push, lead, last_output}
use Rattle.construction.specs.Building.{push_along}
use Rattle.construction.specs.Theorems.{Joins, AlongStorable}
use Rattle.records.specs.declared.record.Arc.{Arc}
use Rattle.records.specs.declared.memory.Core.{Core}
use Rattle.records.specs.Holding.{held}
use Rattle.pushing.specs.declared.along.Parted.{Parted}
use Rattle.pushing.specs.Altering.{alter, At}
use Rattle.pushing.specs.Changes.{SameShape}

-- an arc is the last of some arcs
pub record LastOf (k : Kind) {O : Type 0} (mean : O → k.Ideal) (es : List (Edge k.Ideal)) (a : Arc O) : Type 0 where
  pub byte : a.byte ≡ last_byte es
  pub output : mean a.output ≡ last_output k es

-- two outputs are parted behind what they have in common
pub record Parts (k : Kind) {O : Type 0} (mean : O → k.Ideal) (x y : k.Ideal) (p : Parted O) : Type 0 where
  pub shared : mean p.shared ≡ k.common x y
  pub carry : mean p.carry ≡ k.rest (k.common x y) x
  pub left : mean p.left ≡ k.rest (k.common x y) y

module _ (k : Kind) (carry left : k.Ideal) where
  -- the output of a record's last arc, once `carry` is in front of all that follows
  abbrev pub whole : Open k.Ideal → k.Ideal
  whole o = last_output k (push k carry o).arcs

  -- what it has in common with the new output
  abbrev pub shared : Open k.Ideal → k.Ideal
  shared o = k.common (whole o) left

  -- the record then
  abbrev pub stepped : Open k.Ideal → Open k.Ideal
  stepped o = lead k (shared o) (push k carry o)

-- `carry` is in front of all that follows the open record at a depth, where all joins are storable.
pub record Pushed (k : Kind) {O : Type 0} (mean : O → k.Ideal) (depth : ℕ) (carry : k.Ideal) (before after : Core O) : Type 0 where
  pub shape : SameShape before after
  pub start : after.start ≡ before.start
  pub records : At depth (Joins k carry) (held mean before).open' → (held mean after).open' ≡ alter depth (push k carry) (held mean before).open'

-- One step along some open records, at a depth: the records then, what is carried on from there, and what is left of the new output.
pub record Steps (k : Kind) (depth : ℕ) (carry left : k.Ideal) (os after : List (Open k.Ideal)) (on rest : k.Ideal) : Type 0 where
  pub records : after ≡ alter depth (stepped k carry left) os
  pub carried : on ≡ k.rest (shared k carry left (slice_index_or os depth (blank 0))) (whole k carry left (slice_index_or os depth (blank 0)))
  pub remains : rest ≡ k.rest (shared k carry left (slice_index_or os depth (blank 0))) left

-- the same in memory, where all joins are storable
pub record PushedStep (k : Kind) {O : Type 0} (mean : O → k.Ideal) (depth : ℕ) (carry left : k.Ideal) (before after : Core O) (r : Parted O) : Type 0 where
  pub shape : SameShape before after
  pub start : after.start ≡ before.start
  pub steps : At depth (Joins k carry) (held mean before).open' → Steps k depth carry left (held mean before).open' (held mean after).open' (mean r.carry) (mean r.left)

module _ (k : Kind) where
  -- what is held once the start output and the open records share no more with a new output than they have to, and what is left of that
  abbrev pub push_held : Held k.Ideal → k.Ideal → Held k.Ideal × k.Ideal
  push_held h output =
      let common : k.Ideal = k.common h.start output in
      let pushed : List (Open k.Ideal) × k.Ideal = push_along k (k.rest common h.start) (k.rest common output) h.open' in
      (record { closed = h.closed; open' = pushed.0; start = common; pairs = h.pairs }, pushed.1)

  -- every join that is made there is storable
  abbrev pub PushHeldStorable : Held k.Ideal → k.Ideal → Type 0
  PushHeldStorable h output =
      let common : k.Ideal = k.common h.start output in
      AlongStorable k (k.rest common h.start) (k.rest common output) h.open'

-- what is held, and what is left of the new output, where all joins are storable
pub record PushedAlong (k : Kind) {O : Type 0} (mean : O → k.Ideal) (output : k.Ideal) (before after : Core O) (r : O) : Type 0 where
  pub shape : SameShape before after
  pub holds : PushHeldStorable k (held mean before) output → held mean after ≡ (push_held k (held mean before) output).0
  pub left : PushHeldStorable k (held mean before) output → mean r ≡ (push_held k (held mean before) output).1
