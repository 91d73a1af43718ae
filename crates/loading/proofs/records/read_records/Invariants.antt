use Rattle.std.proofs.Common.{ℕ, ◌*◌, ◌<◌, ◌≤◌, length}
use Rattle.outputs.specs.Bits.{spread}
use Rattle.loading.specs.Index.{There}
use Rattle.loading.proofs.StateRows.{Walked}
use Rattle.loading.proofs.records.read_records.Given as goal

abbrev pub invariant-loop-state : goal.invariant-loop-state
invariant-loop-state g l =
    (l.arcs ≤ 256 * l.state)
    × (l.here ≤ length (spread (g.S.Store.bytes l.store)))
    × ((t : ℕ) → t < l.state → There g.O.Output.kind (spread (g.S.Store.bytes l.store)) l.index t)
    × Walked g.O.Output.kind (spread (g.S.Store.bytes l.store)) l.index l.states l.place l.state l.arcs l.here l.working
