use Rattle.std.proofs.Common.{arith, below_more}
use Rattle.outputs.specs.Bits.{spread}
use Rattle.loading.specs.Working.{RecordsRead}
use Rattle.loading.proofs.Walking.{is_refused}
use Rattle.loading.proofs.StateRows.{begins, more, stops, ends}
use Rattle.loading.proofs.records.read_records.Goals as goal

pub loop-state-init : goal.loop-state-init
loop-state-init g c = (omega arith, omega arith, λ t l. absurd (omega arith), begins g.O.Output.kind (spread (g.S.Store.bytes c.args.store.now)) c.args.index c.args.states c.args.place c.args.working.now)

pub returns-in_err-count : goal.returns-in_err-count
returns-in_err-count g c =
    let k = g.O.Output.kind in
    let all = spread (g.S.Store.bytes c.args.store.now) in
    let h = stops k all c.args.index c.args.states c.args.place c.loop-state.state c.loop-state.arcs c.loop-state.here c.loop-state.working c.loop-state.invariant.3
    _ c.in_err-count.field-0.0 (omega arith) c.in_err-count.ensures.answers in
    let f = is_refused (RecordsRead c.args.states _) _ c.in_err-count.field-0.0 c.from_residual.result _ h c.from_residual.ensures.1 in
    record { answers = f.0; within = f.1 }

pub loop-state-preserved : goal.loop-state-preserved
loop-state-preserved g c =
    let k = g.O.Output.kind in
    let all = spread (g.S.Store.bytes c.args.store.now) in
    let a = c.in_ok-count.ensures in (
      omega (arith, a.within.0),
      a.within.1,
      below_more _ _ c.loop-state.invariant.2 a.within.2,
      more k all c.args.index c.args.states c.args.place c.loop-state.state c.loop-state.arcs c.loop-state.here c.loop-state.working c.loop-state.invariant.3
          (c.in_ok-count.count, c.in_ok-count.behind) _ (omega arith) a.answers,
    )

pub returns : goal.returns
returns g c =
    let k = g.O.Output.kind in
    let all = spread (g.S.Store.bytes c.args.store.now) in
    let i = c.loop-state.invariant in
    record {
      answers = ends k all c.args.index c.args.states c.args.place c.loop-state.state c.loop-state.arcs c.loop-state.here c.loop-state.working i.3 (omega arith);
      within = (i.1, λ t l. i.2 t (omega arith));
    }
