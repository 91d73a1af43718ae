use Rattle.std.proofs.Common.{◌-◌, List}
use Rattle.machines.specs.Machines.{Arc}
use Rattle.machines.specs.Numbering.{Rising}
use Rattle.lookups.specs.Lookups.{bits_of, RowOf}
use Rattle.reading.proofs.RowScans.{Scanned}
use Rattle.reading.proofs.seeking.seek.Given as goal

abbrev pub invariant-loop : goal.invariant-loop
invariant-loop g l =
    (arcs : List (Arc g.O.Output.kind.Ideal)) → Rising arcs → RowOf g.O.Output.kind (bits_of g.S.Store.bytes l.loaded) (record { left = l.end; place = l.initial.place }) arcs
    → Scanned g.O.Output.kind (bits_of g.S.Store.bytes l.loaded) l.byte arcs (l.end - l.counter) l.place
