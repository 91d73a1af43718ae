use Rattle.std.proofs.Common.{take}
use Rattle.outputs.specs.Bits.{spread}
use Rattle.outputs.proofs.text.calls.TextOutput.write.Given as goal

abbrev pub invariant-loop-byte : goal.invariant-loop-byte
invariant-loop-byte g l = g.K.BitSink.took l.initial.sink (spread (take l.byte-index (take l.self.len l.self.bytes))) l.sink
