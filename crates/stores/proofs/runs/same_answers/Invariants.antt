use Rattle.std.proofs.Common.{◌≡◌, true, take}
use Rattle.stores.specs.Runs.{answers, after_all, Alike}
use Rattle.stores.proofs.runs.same_answers.Given as goal

abbrev pub invariant-loop-call : goal.invariant-loop-call
invariant-loop-call g l =
    let bytes = g.S.Store.bytes l.initial.one in
    let room = g.S.Store.room l.initial.one in
    let bytes' = g.T.Store.bytes l.initial.other in
    let room' = g.T.Store.room l.initial.other in
    let made = take l.call-index l.calls in
    (Alike bytes room bytes' room' → l.same ≡ true)
    × (l.same ≡ true → answers bytes room made ≡ answers bytes' room' made)
    × (g.S.Store.bytes l.one ≡ after_all bytes room made)
    × (g.S.Store.room l.one ≡ room)
    × (g.T.Store.bytes l.other ≡ after_all bytes' room' made)
    × (g.T.Store.room l.other ≡ room')
