use Rattle.std.proofs.Common.{◌≡◌, ◌^◌, ◌<◌, take}
use Rattle.outputs.specs.Bits.{value}
use Rattle.output_trials.proofs.tape.number_of.Given as goal

abbrev pub invariant-loop-bit : goal.invariant-loop-bit
invariant-loop-bit l = (l.number ≡ value (take l.bit-index l.row)) × (l.number < 2 ^ l.bit-index)
