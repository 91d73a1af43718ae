use Rattle.std.proofs.Common.{ap, ◌∙◌, subst}
use Rattle.images.specs.Images.{record_bits}
use Rattle.records.specs.Holding.{end_of, arcs_of}
use Rattle.records.proofs.Cutting.{arcs_part_last}
use Rattle.saving.proofs.writing.write_record.Goals as goal

pub returns : goal.returns
returns g c =
    let mean = g.O.Output.meaning in
    let s = c.args.state.now in
    subst (λ own. g.K.BitSink.took c.args.sink.now (record_bits g.O.Output.kind (record { end = end_of mean s; arcs = own }) s.keys) c.write_own.new.sink)
    (ap (arcs_of mean) c.closed_arcs.ensures ∙ arcs_part_last mean s.count s.first c.args.arcs.now)
    c.write_own.ensures
