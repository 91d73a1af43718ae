use Rattle.std.proofs.Common.{drop, arith, length-drop}
use Rattle.outputs.proofs.TextReads.{few_begin}
use Rattle.outputs.proofs.text.reading.begins_length.Goals as goal

pub returns-in-Err-field : goal.returns-in-Err-field
returns-in-Err-field g c =
    let all = g.B.BitSource.all c.args.source.now in
    let p = c.args.place in
    few_begin (drop p all) (omega (arith, length-drop p all, c.in-Err-field.ensures.0))
