use Rattle.std.proofs.Common.{take, arith, length-take-le}
use Rattle.outputs.specs.TextBytes.{join_storable, all_bytes_take}
use Rattle.outputs.proofs.text.calls.TextOutput.joins.Goals as goal

pub returns : goal.returns
returns c =
    let a = c.args.self.now in
    let b = c.args.other.now in
    join_storable (take a.len a.bytes) (take b.len b.bytes) a.len b.len
    (all_bytes_take a.len a.bytes a.whole) (all_bytes_take b.len b.bytes b.whole)
    (length-take-le a.len a.bytes (omega (arith, a.fits, a.row))) (length-take-le b.len b.bytes (omega (arith, b.fits, b.row)))
