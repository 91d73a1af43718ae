use Rattle.std.proofs.Common.{◌≡◌, take}
use Rattle.stores.specs.Runs.{answers, after_all}
use Rattle.stores.proofs.runs.run.Given as goal

abbrev pub invariant-loop-i : goal.invariant-loop-i
invariant-loop-i g l =
    (take l.i l.note-items ≡ answers (g.S.Store.bytes l.initial.store) (g.S.Store.room l.initial.store) (take l.i l.calls))
    × (g.S.Store.bytes l.store ≡ after_all (g.S.Store.bytes l.initial.store) (g.S.Store.room l.initial.store) (take l.i l.calls))
    × (g.S.Store.room l.store ≡ g.S.Store.room l.initial.store)
    × g.S.Store.follows l.initial.store l.store
