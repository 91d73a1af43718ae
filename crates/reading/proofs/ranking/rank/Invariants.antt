use Rattle.std.proofs.Common.{◌≡◌, ◌+◌, ◌^◌, ◌<◌, get_or, drop}
use Rattle.machines.specs.Machines.{Machine}
use Rattle.machines.specs.Counts.{counts_of}
use Rattle.machines.specs.Asked.{rank, rank_from}
use Rattle.loading.specs.Loading.{Holds}
use Rattle.reading.proofs.ranking.rank.Given as goal

abbrev pub invariant-loop-byte : goal.invariant-loop-byte
invariant-loop-byte g l =
    (m : Machine g.O.Output.kind.Ideal) → Holds g.O.Output.kind g.O.Output.meaning g.S.Store.bytes l.loaded m
    → (rank m (counts_of m.states) l.key ≡ rank_from m.states (counts_of m.states) l.lower.target l.lower.keys (drop l.byte-index l.key))
    × (l.lower.keys + get_or (counts_of m.states) l.lower.target 0 < 2 ^ 20)
