use Rattle.std.proofs.Common.{◌<◌, List, [], ◌∷◌, ◌++◌, length, sym, refl, ap, ◌∙◌, arith, length-take}
use Rattle.std.proofs.lemmas.List.{take_more_set}
use Rattle.stores.specs.Runs.{Answer, answers, after_all}
use Rattle.stores.proofs.Running.{answered, left}
use Rattle.stores.proofs.runs.run.Goals as goal

pub loop-i-init : goal.loop-i-init
unfolding answers after_all
loop-i-init g c = (refl, refl, refl, g.S.Store.chained.stay _)

pub loop-i-preserved : goal.loop-i-preserved
loop-i-preserved g c =
    let i = c.loop-i.i in
    let items = c.loop-i.note-items in
    let told = c.ask.ensures in
    let (noted, bytes, room, follows) = c.loop-i.invariant in
    let l : i < length c.args.calls.now = omega (arith, length-take c.min-made.result c.args.notes.now) in
    let m : i < length items = omega (arith, length-take c.min-made.result c.args.notes.now) in (
      take_more_set items i c.ask.result m ∙ ap (λ (z : List Answer). z ++ c.ask.result ∷ []) noted ∙ sym (answered _ _ _ _ c.args.calls.now i c.ask.result l bytes room told.answer),
      left _ _ _ _ _ c.args.calls.now i l bytes room told.bytes,
      told.room ∙ room,
      g.S.Store.chained.more _ _ _ follows told.follows,
    )
