use Rattle.std.specs.Prelude.{◌≡◌, [], map, take}
use Rattle.machines.specs.Pairs.{Pairs}
use Rattle.machines.specs.Runs.{taken, told as told_in_turn}
use Rattle.adding.specs.Refusals.{told}
use Rattle.builder.specs.Standing.{Stands}
use Rattle.builder_trials.specs.Lists.{keys_of, states_in, arcs_in}
use Rattle.builder_trials.proofs.building.build_list.Given as goal

abbrev pub invariant-loop-pair : goal.invariant-loop-pair
invariant-loop-pair g l =
    let states = states_in l.fn.lent in
    let arcs = arcs_in l.fn.lent in
    let k = g.V.Proved.Output.kind in
    (P : Pairs k.Ideal)
    × (map (λ e. e.0) P ≡ keys_of (take l.pair-index l.pairs))
    × (map (λ answer. told answer) l.answers.items ≡ told_in_turn k states arcs [] P)
    × Stands k g.V.Proved.Output.meaning g.V.Proved.Output.digested l.builder.core states arcs (taken k states arcs [] P)
