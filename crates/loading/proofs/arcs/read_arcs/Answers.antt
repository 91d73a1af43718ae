use Rattle.std.proofs.Common.{ℕ, set, ap, arith}
use Rattle.outputs.specs.Bits.{spread}
use Rattle.loading.specs.Working.{RowRead}
use Rattle.loading.proofs.Walking.{is_refused}
use Rattle.loading.proofs.ArcRows.{begins, more, stops, ends}
use Rattle.loading.proofs.arcs.read_arcs.Goals as goal

pub loop-init : goal.loop-init
loop-init g c = (omega arith, omega arith, begins g.O.Output.kind (spread (g.S.Store.bytes c.args.store.now)) c.args.index c.args.state c.args.count c.args.working.now c.args.place)

pub returns-in_err-arc : goal.returns-in_err-arc
returns-in_err-arc g c =
    let k = g.O.Output.kind in
    let all = spread (g.S.Store.bytes c.args.store.now) in
    let h = stops k all c.args.index c.args.state c.args.count c.args.working.now c.args.place c.loop.counter c.loop.least c.loop.keys c.loop.longest c.loop.here c.loop.working c.loop.invariant.2
    c.in_err-arc.field-0.0 (omega arith) c.in_err-arc.ensures.answers in
    let f = is_refused (RowRead k all c.args.index c.args.state c.args.count c.args.working.now c.loop.working) _ c.in_err-arc.field-0.0 c.from_residual.result _ h c.from_residual.ensures.1 in
    record { answers = f.0; within = f.1 }

pub loop-preserved : goal.loop-preserved
loop-preserved g c =
    let k = g.O.Output.kind in
    let all = spread (g.S.Store.bytes c.args.store.now) in
    let a = c.in_ok-arc.ensures in (
      omega arith,
      a.within.1,
      more k all c.args.index c.args.state c.args.count c.args.working.now c.args.place c.loop.counter c.loop.least c.loop.keys c.loop.longest c.loop.here c.loop.working c.loop.invariant.2
          (c.in_ok-arc.arc, c.in_ok-arc.behind) _ c.keys_at-keys.result c.aim.result c.max-longest.result _ (omega arith) (omega arith) a.answers a.within.0 (omega (arith, a.within.0)) (c.keys_at-keys.ensures.keys (c.requires.there c.in_ok-arc.arc.target a.within.0)) c.aim.ensures.longest c.aim.ensures.marked (omega arith),
    )

pub returns : goal.returns
returns g c =
    let k = g.O.Output.kind in
    let all = spread (g.S.Store.bytes c.args.store.now) in
    record {
      answers = ends k all c.args.index c.args.state c.args.count c.args.working.now c.args.place c.loop.counter c.loop.least c.loop.keys c.loop.longest c.loop.here c.loop.working c.loop.invariant.2 _ (omega arith) (omega arith) (ap (λ (n : ℕ). set c.loop.working n c.loop.longest) c.from.ensures);
      within = (omega (arith, c.loop.invariant.0), c.loop.invariant.1);
    }
