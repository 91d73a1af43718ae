use Rattle.std.proofs.Common.{◌≡◌, ◌+◌, ◌-◌, ◌<◌, ◌≤◌, length, drop}
use Rattle.stacks.specs.Stacks.{capacity}
use Rattle.construction.specs.Steps.{extend_last}
use Rattle.records.specs.Shape.{openings, closings, edgings}
use Rattle.records.specs.Holding.{held}
use Rattle.pushing.specs.Changes.{Keeps}
use Rattle.adding.proofs.extending.extend.Given as goal

-- the rest of the key, added to the records as they are now, gives what the whole rest gives
abbrev pub invariant-loop-byte : goal.invariant-loop-byte
invariant-loop-byte g l =
    Keeps l.initial.core l.core
    × (l.core.pairs ≡ l.initial.core.pairs)
    × (l.core.start ≡ l.initial.core.start)
    × (0 < openings l.core)
    × (closings l.core + openings l.core + (length l.byte-items - l.byte-index) ≤ capacity l.core.states)
    × (edgings l.core + (length l.byte-items - l.byte-index) ≤ capacity l.core.arcs)
    × (extend_last g.O.Output.kind l.initial.core.pairs (held g.O.Output.meaning l.core).open' (drop l.byte-index l.byte-items) (g.O.Output.meaning l.output)
    ≡ extend_last g.O.Output.kind l.initial.core.pairs (held g.O.Output.meaning l.initial.core).open' l.byte-items (g.O.Output.meaning l.initial.output))
