use Rattle.std.proofs.Common.{◌≡◌, ◌<◌, length, take, refl, ◌∙◌, arith}
use Rattle.std.proofs.lemmas.List.{take_all}
use Rattle.stores.specs.Runs.{answers, after_all}
use Rattle.stores.proofs.Running.{answered, left, alike_answer, same_more}
use Rattle.stores.proofs.runs.same_answers.Goals as goal

pub loop-call-init : goal.loop-call-init
unfolding answers after_all
loop-call-init g c = (λ _. refl, λ _. refl, refl, refl, refl, refl)

pub loop-call-preserved : goal.loop-call-preserved
loop-call-preserved g c =
    let i = c.loop-call.call-index in
    let calls = c.args.calls.now in
    let (law, told, bytes, room, bytes', room') = c.loop-call.invariant in
    let given = c.ask-given.ensures in
    let reply = c.ask-reply.ensures in
    let l : i < length calls = omega arith in
    let one = answered _ _ _ _ calls i c.ask-given.result l bytes room given.answer in
    let other = answered _ _ _ _ calls i c.ask-reply.result l bytes' room' reply.answer in (
      λ alike. c.still_same-same.ensures.1 (law alike, alike_answer _ _ _ _ _ _ _ _ _ _ _ _ alike bytes room bytes' room' given.answer reply.answer),
      λ t. let (s, e) = c.still_same-same.ensures.0 t in same_more _ _ _ _ _ _ one other (told s) e,
      left _ _ _ _ _ calls i l bytes room given.bytes,
      given.room ∙ room,
      left _ _ _ _ _ calls i l bytes' room' reply.bytes,
      reply.room ∙ room',
    )

pub returns : goal.returns
returns g c =
    let calls = c.args.calls.now in
    let (law, told, bytes, room, bytes', room') = c.loop-call.invariant in
    let all : take c.loop-call.call-index calls ≡ calls = take_all c.loop-call.call-index calls (omega arith) in
    record {
      law = λ alike. let (a, b) = alike in (law alike, ((cc), (cc)));
      told = λ t. let e = told t in cc;
      one = cc;
      other = cc;
    }
