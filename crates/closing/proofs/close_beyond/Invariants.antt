use Rattle.std.proofs.Common.{◌≡◌, ◌+◌}
use Rattle.records.specs.Shape.{Within, openings}
use Rattle.records.specs.Holding.{held}
use Rattle.records.specs.Registering.{Registered}
use Rattle.closing.specs.Closing.{closed_beyond}
use Rattle.closing.proofs.close_beyond.Given as goal

abbrev pub invariant-loop : goal.invariant-loop
invariant-loop g l =
    (Registered g.O.Output.digested g.O.Output.meaning l.initial.core → Registered g.O.Output.digested g.O.Output.meaning l.core)
    × Within l.initial.core l.core
    × (openings l.core + l.counter ≡ openings l.initial.core + (l.depth + 1))
    × (Registered g.O.Output.digested g.O.Output.meaning l.initial.core → closed_beyond g.O.Output.kind l.depth (held g.O.Output.meaning l.core) ≡ closed_beyond g.O.Output.kind l.depth (held g.O.Output.meaning l.initial.core))
    × (l.core.pairs ≡ l.initial.core.pairs)
