use Rattle.std.proofs.Common.{refl, ◌∙◌, arith}
use Rattle.fields.specs.PackLaws.{gave_none}
use Rattle.fields.proofs.Giving.{gave_turn, gave_all}
use Rattle.fields.proofs.packing.Packer.give_whole.Goals as goal

pub loop-i-init : goal.loop-i-init
loop-i-init g c =
    let s = c.args.self.now in
    (gave_none (g.S.Store.room s.store) (g.S.Store.bytes s.store) s.outcome (g.S.Store.sound s.store).within, refl, g.S.Store.chained.stay s.store)

pub loop-i-preserved : goal.loop-i-preserved
loop-i-preserved g c =
    let s = c.args.self.now in
    let (gave, room, follows) = c.loop-i.invariant in
    let told = c.give.ensures in (
      gave_turn (g.S.Store.room s.store) _ c.args.count c.loop-i.i c.args.row _ (g.S.Store.bytes s.store) _ _ s.outcome _ _ (omega arith) room refl gave told.given,
      told.room ∙ room,
      g.S.Store.chained.more _ _ _ follows told.follows,
    )

pub returns : goal.returns
returns g c =
    let s = c.args.self.now in
    let (gave, room, follows) = c.loop-i.invariant in
    record {
      given = gave_all (g.S.Store.room s.store) c.args.count c.loop-i.i c.args.row (g.S.Store.bytes s.store) _ s.outcome _ (omega arith) gave;
      room = room;
      follows = follows;
    }
