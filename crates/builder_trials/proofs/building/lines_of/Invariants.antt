use Rattle.std.specs.Prelude.{◌≡◌, All, map, take}
use Rattle.std.proofs.Math.Option.{none}
use Rattle.adding.specs.Refusals.{told}
use Rattle.builder_trials.specs.Lists.{keys_of}
use Rattle.builder_trials.proofs.building.lines_of.Given as goal

abbrev pub invariant-loop-pair : goal.invariant-loop-pair
invariant-loop-pair g l =
    (keys_of (map (λ line. line.pair) l.lines.items) ≡ keys_of (take l.pair-index l.pairs))
    × All (λ line. told line.answer ≡ none) l.lines.items
