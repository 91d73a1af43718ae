use Rattle.std.proofs.Common.{◌≡◌, ◌-◌}
use Rattle.loading.specs.Loading.{Holds}
use Rattle.lookups.specs.Lookups.{bits_of}
use Rattle.searching.proofs.SearchSteps.{Passing}
use Rattle.searching.proofs.seeking.+seek.Given as goal

abbrev pub decreases-seek : goal.decreases-seek
decreases-seek g l = 64 - l.depth

-- the buffer is as it was, and the arcs passed lead to nothing
abbrev pub invariant-loop-arc : goal.invariant-loop-arc
invariant-loop-arc g l =
    (l.buffer ≡ l.initial.buffer)
    × (l.arc-iterator.loaded.now ≡ l.loaded)
    × Passing g.O.Output.kind (bits_of g.S.Store.bytes l.loaded) (Holds g.O.Output.kind g.O.Output.meaning g.S.Store.bytes l.loaded) l.state (g.O.Output.meaning l.output) l.depth l.arc-iterator.row
