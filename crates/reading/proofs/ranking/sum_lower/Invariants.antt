use Rattle.std.proofs.Common.{◌+◌, ◌-◌, ◌^◌, ◌<◌, List}
use Rattle.machines.specs.Machines.{Arc, Machine, sum_at}
use Rattle.machines.specs.Counts.{counts_of}
use Rattle.machines.specs.Numbering.{Rising}
use Rattle.loading.specs.Loading.{Holds}
use Rattle.lookups.specs.Lookups.{bits_of, RowOf}
use Rattle.reading.proofs.RowScans.{Summed}
use Rattle.reading.proofs.ranking.sum_lower.Given as goal

abbrev pub invariant-loop : goal.invariant-loop
invariant-loop g l =
    (m : Machine g.O.Output.kind.Ideal) → Holds g.O.Output.kind g.O.Output.meaning g.S.Store.bytes l.loaded m
    → (arcs : List (Arc g.O.Output.kind.Ideal)) → Rising arcs → RowOf g.O.Output.kind (bits_of g.S.Store.bytes l.loaded) (record { left = l.end; place = l.initial.place }) arcs → l.before + sum_at (counts_of m.states) arcs < 2 ^ 20
    → Summed g.O.Output.kind (bits_of g.S.Store.bytes l.loaded) (counts_of m.states) l.byte l.before arcs (l.end - l.counter) l.place l.keys
