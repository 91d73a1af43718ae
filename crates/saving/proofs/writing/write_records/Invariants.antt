use Rattle.std.proofs.Common.{take}
use Rattle.images.specs.Images.{in_turn}
use Rattle.saving.specs.Standing.{records_of}
use Rattle.saving.proofs.writing.write_records.Given as goal

abbrev pub invariant-loop-state : goal.invariant-loop-state
invariant-loop-state g l = g.K.BitSink.took l.initial.sink (in_turn (records_of g.O.Output.kind g.O.Output.meaning l.rows.arcs.now (take l.state-index l.rows.states.now))) l.sink
