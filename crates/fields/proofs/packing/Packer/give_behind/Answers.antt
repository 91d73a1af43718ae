use Rattle.std.proofs.Common.{refl, arith}
use Rattle.fields.proofs.BitsTaken.{packs_bits}
use Rattle.fields.proofs.packing.Packer.give_behind.Goals as goal

pub returns : goal.returns
returns g c =
    let s = c.args.self.now in
    let told = c.give_whole.ensures in (
      packs_bits (g.S.Store.room s.store) _ (g.S.Store.bytes s.store) _ s.outcome _ s.filled s.partial c.args.value c.args.width c.min-width.result c.from.result c.from-2.result _ c.min-width.ensures (omega arith) c.from.ensures c.from-2.ensures refl told.room told.given,
      told.follows,
    )
