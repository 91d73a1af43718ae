use Rattle.fields.specs.Packs.{pending}
use Rattle.fields.proofs.Filling.{finishes, none_waits}
use Rattle.fields.proofs.packing.Packer.fill.Goals as goal

pub returns-clause-given : goal.returns-clause-given
returns-clause-given g c =
    let s = c.args.self.now in
    let t = c.take_bits.new.self in
    finishes (g.S.Store.room s.store) (g.S.Store.room t.store) (g.S.Store.bytes s.store) (g.S.Store.bytes t.store) s.outcome t.outcome s.filled s.partial c.args.with (pending t.filled t.partial) c.take_bits.ensures.0

pub returns-clause-waits : goal.returns-clause-waits
returns-clause-waits g c =
    let s = c.args.self.now in
    let t = c.take_bits.new.self in
    none_waits s.filled s.partial c.args.with (pending t.filled t.partial) c.take_bits.ensures.0.waiting
