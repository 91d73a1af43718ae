use Rattle.std.proofs.Common.{◌*◌, ◌≤◌, length}
use Rattle.outputs.specs.Bits.{spread}
use Rattle.loading.proofs.ArcRows.{Walked}
use Rattle.loading.proofs.arcs.read_arcs.Given as goal

abbrev pub invariant-loop : goal.invariant-loop
invariant-loop g l =
    (l.keys ≤ 1048575 * l.counter)
    × (l.here ≤ length (spread (g.S.Store.bytes l.store)))
    × Walked g.O.Output.kind (spread (g.S.Store.bytes l.store)) l.index l.state l.count l.initial.working l.place l.counter l.least l.keys l.longest l.here l.working
