use Rattle.std.specs.Prelude.{◌≡◌, [], map, take}
use Rattle.machines.specs.Runs.{taken, told as told_in_turn}
use Rattle.adding.specs.Refusals.{told}
use Rattle.builder.specs.Standing.{Stands}
use Rattle.builder_trials.specs.Lists.{meant, states_in, arcs_in}
use Rattle.builder_trials.proofs.building.build.Given as goal

abbrev pub invariant-loop-line : goal.invariant-loop-line
invariant-loop-line g l =
    let states = states_in l.fn.lent in
    let arcs = arcs_in l.fn.lent in
    let done = take l.line-index l.line-items in
    let P = meant g.O.Output.kind g.O.Output.meaning (map (λ line. line.pair) done) in
    (map (λ line. line.pair) l.line-items ≡ map (λ line. line.pair) l.fn.lines)
    × (map (λ line. told line.answer) done ≡ told_in_turn g.O.Output.kind states arcs [] P)
    × Stands g.O.Output.kind g.O.Output.meaning g.O.Output.digested l.builder.core states arcs (taken g.O.Output.kind states arcs [] P)
