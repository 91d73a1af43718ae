use Rattle.std.proofs.Common.{arith}
use Rattle.outputs.specs.Bits.{spread}
use Rattle.loading.proofs.Walking.{is_passed, is_stopped}
use Rattle.loading.proofs.IndexPass.{entries_more, entries_stop, entries_end}
use Rattle.loading.proofs.head.pass_entries.Goals as goal

pub returns-in_err-behind : goal.returns-in_err-behind
returns-in_err-behind g c =
    let all = spread (g.S.Store.bytes c.args.store.now) in
    let inv = c.loop.invariant in
    let h = entries_stop g.O.Output.kind all c.args.states c.args.index c.loop.counter c.loop.place inv.2 c.in_err-behind.field-0.0 (omega arith) c.in_err-behind.ensures.answers in
    let f = is_stopped _ c.in_err-behind.field-0.0 c.from_residual.result _ h c.from_residual.ensures.1 in
    record { passes = f.0; within = f.1 }

pub loop-preserved : goal.loop-preserved
loop-preserved g c =
    let all = spread (g.S.Store.bytes c.args.store.now) in
    let inv = c.loop.invariant in
    let e = c.in_ok-behind.ensures in (
      omega (arith, e.within.1, inv.0),
      omega (arith, e.within.1, e.within.2),
      entries_more g.O.Output.kind all c.args.states c.args.index c.loop.counter c.loop.place inv.2 _ (omega arith) e.answers,
    )

pub returns : goal.returns
returns g c =
    let all = spread (g.S.Store.bytes c.args.store.now) in
    let inv = c.loop.invariant in
    let e = entries_end g.O.Output.kind all c.args.states c.args.index c.loop.counter c.loop.place inv.2 (omega arith) in
    record { passes = is_passed _ tt c.loop.place e; within = (omega (arith, inv.0), inv.1) }
