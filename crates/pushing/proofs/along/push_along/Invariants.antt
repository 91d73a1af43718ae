use Rattle.std.proofs.Common.{◌≡◌}
use Rattle.records.specs.Holding.{held}
use Rattle.pushing.specs.Changes.{SameShape}
use Rattle.pushing.proofs.Steps.{push_from, StorableFrom}
use Rattle.pushing.proofs.along.push_along.Given as goal

-- what is to be done from here on gives what was to be done at first, where all joins are storable
abbrev pub invariant-loop-d : goal.invariant-loop-d
invariant-loop-d g l =
    SameShape l.initial.core l.core
    × (l.core.start ≡ l.initial.core.start)
    × (StorableFrom g.O.Output.kind 0 (g.O.Output.meaning l.initial.parted.carry) (g.O.Output.meaning l.initial.parted.left) (held g.O.Output.meaning l.initial.core).open'
    → (push_from g.O.Output.kind l.d (g.O.Output.meaning l.parted.carry) (g.O.Output.meaning l.parted.left) (held g.O.Output.meaning l.core).open'
    ≡ push_from g.O.Output.kind 0 (g.O.Output.meaning l.initial.parted.carry) (g.O.Output.meaning l.initial.parted.left) (held g.O.Output.meaning l.initial.core).open')
    × StorableFrom g.O.Output.kind l.d (g.O.Output.meaning l.parted.carry) (g.O.Output.meaning l.parted.left) (held g.O.Output.meaning l.core).open')
