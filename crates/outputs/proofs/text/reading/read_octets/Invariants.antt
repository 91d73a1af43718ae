use Rattle.std.proofs.Common.{◌≡◌, ◌+◌, ◌*◌, ◌≤◌, true, length, take, drop}
use Rattle.outputs.specs.Texts.{all_bytes}
use Rattle.outputs.specs.TextReading.{octets}
use Rattle.outputs.proofs.text.reading.read_octets.Given as goal

abbrev pub invariant-loop-i : goal.invariant-loop-i
invariant-loop-i g l = (l.place + 8 * l.i ≤ length (g.B.BitSource.all l.source)) × (take l.i l.byte-items ≡ octets l.i (drop l.place (g.B.BitSource.all l.source))) × (all_bytes l.byte-items ≡ true) × (length l.byte-items ≡ l.len)
