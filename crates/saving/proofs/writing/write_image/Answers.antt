use Rattle.std.proofs.Common.{◌≡◌, ◌+◌, ◌*◌, ◌++◌, length, sym, subst, ap₂, arith}
use Rattle.std.proofs.lemmas.List.{length-map}
use Rattle.images.specs.Images.{head_bits, index_bits, places, in_turn}
use Rattle.records.specs.Holding.{arcs_of, closed_state}
use Rattle.saving.specs.Standing.{machine_of}
use Rattle.saving.proofs.Laid.{records_same, image_length, image_small}
use Rattle.saving.proofs.writing.write_image.Goals as goal

pub overflow_add-base : goal.overflow_add-base
overflow_add-base g c =
    let rows = c.args.rows.now in
    let small = image_small g.O.Output.kind g.O.Output.meaning g.met.O.Output.lawful g.met.O.Output.stored rows in
    omega (arith, c.head_length.ensures, small, image_length g.O.Output.kind g.O.Output.meaning g.met.O.Output.lawful g.met.O.Output.stored rows)

pub write_index-requires : goal.write_index-requires
write_index-requires g c =
    let rows = c.args.rows.now in
    let small = image_small g.O.Output.kind g.O.Output.meaning g.met.O.Output.lawful g.met.O.Output.stored rows in
    omega (arith, c.head_length.ensures, small, image_length g.O.Output.kind g.O.Output.meaning g.met.O.Output.lawful g.met.O.Output.stored rows)

pub returns : goal.returns
returns g c =
    let k = g.O.Output.kind in
    let mean = g.O.Output.meaning in
    let rows = c.args.rows.now in
    let head = head_bits k (machine_of k mean rows) rows.keys in
    let base : c.head_length.result + 32 * length rows.states.now ≡ length head + 32 * length (machine_of k mean rows).states =
    omega (arith, c.head_length.ensures, length-map rows.states.now (closed_state mean (arcs_of mean rows.arcs.now))) in
    subst (λ row. g.K.BitSink.took c.args.sink.now row c.write_records.new.sink)
    (ap₂ (λ b rs. head ++ index_bits (places b rs) ++ in_turn rs) base (sym (records_same k mean rows.arcs.now rows.states.now)))
    (g.K.BitSink.taking.in_turn _ _ _ _ _ (g.K.BitSink.taking.in_turn _ _ _ _ _ c.write_head.ensures c.write_index.ensures) c.write_records.ensures)
