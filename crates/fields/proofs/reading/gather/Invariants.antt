use Rattle.std.proofs.Common.{◌≡◌, ◌+◌, ◌≤◌, max, length, take, drop}
use Rattle.outputs.specs.Bits.{spread, value}
use Rattle.fields.proofs.reading.gather.Given as goal

abbrev pub invariant-loop-i : goal.invariant-loop-i
invariant-loop-i g l =
    (l.row ≡ value (spread (take l.i (drop l.first (g.S.Store.bytes l.store)))))
    × (l.first + l.i ≤ max l.first (length (g.S.Store.bytes l.store)))
