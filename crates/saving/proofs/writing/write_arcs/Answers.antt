use Rattle.std.proofs.Common.{subst, arith}
use Rattle.saving.proofs.Turns.{arcs_more}
use Rattle.saving.proofs.writing.write_arcs.Goals as goal

pub loop-arc-preserved : goal.loop-arc-preserved
loop-arc-preserved g c =
    subst (λ row. g.K.BitSink.took c.args.sink.now row c.write_arc.new.sink)
    (arcs_more g.O.Output.kind g.O.Output.meaning c.args.arcs.now c.loop-arc.arc-index c.arc-item.result (omega arith) c.arc-item.is)
    (g.K.BitSink.taking.in_turn _ _ _ _ _ c.loop-arc.invariant c.write_arc.ensures)
