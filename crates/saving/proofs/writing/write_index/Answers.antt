use Rattle.std.proofs.Common.{map, length, take, ap, subst, arith, length-append}
use Rattle.outputs.specs.Bits.{bits}
use Rattle.images.specs.Images.{in_turn}
use Rattle.records.proofs.Laying.{placed_at, packed_placed}
use Rattle.saving.specs.Standing.{record_of}
use Rattle.saving.proofs.Turns.{records_more, records_within, record_within, index_more}
use Rattle.saving.proofs.writing.write_index.Goals as goal

pub overflow_cast-place : goal.overflow_cast-place
overflow_cast-place g c =
    let rows = c.args.rows.now in
    let f = record_of g.O.Output.kind g.O.Output.meaning rows.arcs.now in
    omega (arith, c.loop-state.invariant.1, records_within f rows.states.now c.loop-state.state-index, c.requires)

pub place_behind-place-requires : goal.place_behind-place-requires
place_behind-place-requires g c =
    let rows = c.args.rows.now in
    let f = record_of g.O.Output.kind g.O.Output.meaning rows.arcs.now in
    let n = length rows.arcs.now in
    let p = placed_at n rows.states.now c.loop-state.state-index c.state-item.result (omega arith) (packed_placed 0 n rows.states.now c.args.rows.now.shaped.packed) c.state-item.is in
    record {
      first = p.0;
      count = p.1;
      small = omega (arith, c.loop-state.invariant.1, record_within f rows.states.now c.loop-state.state-index c.state-item.result (omega arith) c.state-item.is, c.requires);
    }

pub loop-state-preserved : goal.loop-state-preserved
loop-state-preserved g c =
    let rows = c.args.rows.now in
    let took = g.K.BitSink.took in
    let f = record_of g.O.Output.kind g.O.Output.meaning rows.arcs.now in
    let i = c.loop-state.state-index in
    let x = c.state-item.result in
    let before = map f (take i rows.states.now) in
    let (taken, place) = c.loop-state.invariant in
    let entry = subst (λ v. took c.loop-state.sink (bits 32 v) c.put.new.self) place c.put.ensures in (
      subst (λ row. took c.args.sink.now row c.put.new.self) (index_more f c.args.base rows.states.now i x (omega arith)) (g.K.BitSink.taking.in_turn _ _ _ _ _ taken entry),
      omega (arith, place, c.place_behind-place.ensures, length-append (in_turn before) (f x), ap length (records_more f rows.states.now i x (omega arith) c.state-item.is)),
    )
