use Rattle.std.proofs.Common.{◌≡◌, ◌+◌, ◌-◌, ◌*◌, ◌≤◌, length}
use Rattle.outputs.specs.Bits.{spread}
use Rattle.images.specs.Loads.{entries}
use Rattle.loading.proofs.head.pass_entries.Given as goal

abbrev pub invariant-loop : goal.invariant-loop
invariant-loop g l =
    (l.place ≡ l.index + 32 * l.counter)
    × (l.place ≤ length (spread (g.S.Store.bytes l.store)))
    × (entries g.O.Output.kind (spread (g.S.Store.bytes l.store)) l.states l.index ≡ entries g.O.Output.kind (spread (g.S.Store.bytes l.store)) (l.states - l.counter) l.place)
