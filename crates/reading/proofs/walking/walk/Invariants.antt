use Rattle.std.proofs.Common.{◌≡◌, drop}
use Rattle.machines.specs.Machines.{Machine}
use Rattle.machines.specs.Asked.{walk, walk_from}
use Rattle.loading.specs.Loading.{Holds}
use Rattle.reading.proofs.walking.walk.Given as goal

abbrev pub invariant-loop-byte : goal.invariant-loop-byte
invariant-loop-byte g l =
    (m : Machine g.O.Output.kind.Ideal) → Holds g.O.Output.kind g.O.Output.meaning g.S.Store.bytes l.loaded m
    → walk g.O.Output.kind m l.string ≡ walk_from g.O.Output.kind m.states l.reached.state (g.O.Output.meaning l.reached.output) (drop l.byte-index l.string)
