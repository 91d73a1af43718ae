-- How much a builder's memory holds. Assumes nothing.
use Rattle.std.specs.Prelude.{◌≡◌, ℕ, ◌+◌, ◌≤◌, length}
use Rattle.stacks.specs.Stacks.{lows, highs, capacity}
use Rattle.records.specs.declared.memory.Core.{Core}

-- how many records are open
abbrev pub openings : {O : Type 0} → Core O → ℕ
openings c = length (highs c.states)

-- how many states are closed
abbrev pub closings : {O : Type 0} → Core O → ℕ
closings c = length (lows c.states)

-- how many arcs all have
abbrev pub edgings : {O : Type 0} → Core O → ℕ
edgings c = length (lows c.arcs) + length (highs c.arcs)

-- the lists have the room that they had, and hold no more
pub record Within {O : Type 0} (before after : Core O) : Type 0 where
  pub staterooms : capacity after.states ≡ capacity before.states
  pub arcrooms : capacity after.arcs ≡ capacity before.arcs
  pub states : closings after + openings after ≤ closings before + openings before
  pub arcs : edgings after ≤ edgings before
