use Rattle.std.proofs.Common.{length}
use Rattle.outputs.specs.Bits.{spread}
use Rattle.loading.specs.Wholes.{WholeRead}
use Rattle.loading.proofs.Walking.{is_refused}
use Rattle.loading.proofs.WholeSteps.{stopped_at_end, whole_is_read}
use Rattle.loading.proofs.whole.read_whole.Goals as goal

pub returns-in_err-behind : goal.returns-in_err-behind
returns-in_err-behind g c =
    let k = g.O.Output.kind in
    let all = spread (g.S.Store.bytes c.args.store.now) in
    let hd = c.in_ok-head.ensures in
    let h = stopped_at_end k g.O.Output.meaning all (length c.args.working.now) c.in_ok-head.head c.in_ok-head.index c.in_ok-records.records c.in_ok-arcs.ending c.in_ok-arcs.arcs _
    hd.within.2 hd.within.0 hd.answers c.in_ok-records.ensures.passes c.in_ok-arcs.ensures.answers c.in_err-behind.field-0.0 c.in_err-behind.ensures in
    let f = is_refused (WholeRead k g.O.Output.meaning all (length c.args.working.now)) _ c.in_err-behind.field-0.0 c.from_residual-in_err-behind.result _ h c.from_residual-in_err-behind.ensures.1 in
    record { answers = f.0; within = f.1 }

pub returns : goal.returns
returns g c =
    let k = g.O.Output.kind in
    let all = spread (g.S.Store.bytes c.args.store.now) in
    let hd = c.in_ok-head.ensures in
    record {
      answers = whole_is_read k g.O.Output.meaning all (length c.args.working.now) c.in_ok-head.head c.in_ok-head.index c.in_ok-records.records c.in_ok-arcs.ending c.in_ok-arcs.arcs _
          hd.within.2 hd.within.0 hd.answers c.in_ok-records.ensures.passes c.in_ok-arcs.ensures.answers c.in_ok-behind.behind c.in_ok-behind.ensures;
      within = hd.within.0;
    }
