use Rattle.std.proofs.Common.{◌≡◌}
use Rattle.outputs.specs.Bits.{bits}
use Rattle.outputs.specs.TextReading.{octets}
use Rattle.fields.specs.Packs.{Gave}
use Rattle.fields.proofs.packing.Packer.give_whole.Given as goal

abbrev pub invariant-loop-i : goal.invariant-loop-i
invariant-loop-i g l =
    Gave (g.S.Store.room l.initial.self.store) (g.S.Store.bytes l.initial.self.store) l.initial.self.outcome (octets l.i (bits l.count l.row)) (g.S.Store.bytes l.self.store) l.self.outcome
    × (g.S.Store.room l.self.store ≡ g.S.Store.room l.initial.self.store)
    × g.S.Store.follows l.initial.self.store l.self.store
