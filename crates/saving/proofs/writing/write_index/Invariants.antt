use Rattle.std.proofs.Common.{◌≡◌, ◌+◌, map, length, take}
use Rattle.images.specs.Images.{places, index_bits, in_turn}
use Rattle.saving.specs.Standing.{record_of}
use Rattle.saving.proofs.writing.write_index.Given as goal

abbrev pub invariant-loop-state : goal.invariant-loop-state
invariant-loop-state g l =
    let f = record_of g.O.Output.kind g.O.Output.meaning l.rows.arcs.now in
    let before = map f (take l.state-index l.rows.states.now) in
    g.K.BitSink.took l.initial.sink (index_bits (places l.base before)) l.sink × (l.place ≡ l.base + length (in_turn before))
