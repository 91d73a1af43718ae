use Rattle.std.proofs.Common.{min, arith}
use Rattle.outputs.specs.BitRows.{length_bits}
use Rattle.fields.proofs.counting.Counter.count.Goals as goal

pub returns : goal.returns
returns c n = omega (arith, length_bits (min c.args.width 32) n)
