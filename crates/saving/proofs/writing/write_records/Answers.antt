use Rattle.std.proofs.Common.{length, subst, arith}
use Rattle.records.proofs.Laying.{placed_at, packed_placed}
use Rattle.saving.specs.Standing.{record_of}
use Rattle.saving.proofs.Turns.{records_more}
use Rattle.saving.proofs.writing.write_records.Goals as goal

pub write_record-requires : goal.write_record-requires
write_record-requires g c =
    let rows = c.args.rows.now in
    let n = length rows.arcs.now in
    let p = placed_at n rows.states.now c.loop-state.state-index c.state-item.result (omega arith) (packed_placed 0 n rows.states.now c.args.rows.now.shaped.packed) c.state-item.is in
    record { first = p.0; count = p.1 }

pub loop-state-preserved : goal.loop-state-preserved
loop-state-preserved g c =
    let rows = c.args.rows.now in
    subst (λ row. g.K.BitSink.took c.args.sink.now row c.write_record.new.sink)
    (records_more (record_of g.O.Output.kind g.O.Output.meaning rows.arcs.now) rows.states.now c.loop-state.state-index c.state-item.result (omega arith) c.state-item.is)
    (g.K.BitSink.taking.in_turn _ _ _ _ _ c.loop-state.invariant c.write_record.ensures)
