use Rattle.std.proofs.Common.{take}
use Rattle.images.specs.Images.{arcs_bits}
use Rattle.records.specs.Holding.{arcs_of}
use Rattle.saving.proofs.writing.write_arcs.Given as goal

abbrev pub invariant-loop-arc : goal.invariant-loop-arc
invariant-loop-arc g l = g.K.BitSink.took l.initial.sink (arcs_bits g.O.Output.kind (arcs_of g.O.Output.meaning (take l.arc-index l.arcs))) l.sink
