use Rattle.std.proofs.Common.{◌≡◌, drop}
use Rattle.records.specs.Holding.{arcs_of, end_of}
use Rattle.records.specs.Registering.{stirred_end, stirred_arcs}
use Rattle.comparing.proofs.homes.first_slot.Given as goal

abbrev pub invariant-loop-arc : goal.invariant-loop-arc
invariant-loop-arc g l = stirred_arcs g.O.Output.digested l.h (arcs_of g.O.Output.meaning (drop l.arc-index l.arcs)) ≡ stirred_arcs g.O.Output.digested (stirred_end g.O.Output.digested (end_of g.O.Output.meaning l.state)) (arcs_of g.O.Output.meaning l.arcs)
