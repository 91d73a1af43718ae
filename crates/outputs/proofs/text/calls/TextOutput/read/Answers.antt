use Rattle.std.proofs.Common.{◌+◌, drop, refl, arith}
use Rattle.std.proofs.lemmas.Result.{err_from_is_err_and}
use Rattle.outputs.specs.Texts.{texts}
use Rattle.outputs.proofs.FieldReads.{by_reading}
use Rattle.outputs.proofs.TextReads.{text_there, text_cut, code_length, length_octets}
use Rattle.outputs.proofs.text.calls.TextOutput.read.Goals as goal

pub returns-in_err-bytes : goal.returns-in_err-bytes
returns-in_err-bytes g c =
    let all = g.B.BitSource.all c.args.source.now in
    let p = c.args.place in
    let err = err_from_is_err_and c.from_residual-in_err-bytes.result c.from_residual-in_err-bytes.ensures.1 in
    let a = c.in_ok-len.ensures in
    let b = c.in_err-bytes.ensures.read in
    by_reading texts _ p _ c.from_residual-in_err-bytes.result (text_cut all p c.in_ok-len.len a.3 a.1 b.0)
    (rw (err.1, err.2, b.1, g.B.BitSource.steady c.args.source.now (p + 5) p a.1 (omega (arith, a.1))) refl)

pub returns : goal.returns
returns g c =
    let all = g.B.BitSource.all c.args.source.now in
    let p = c.args.place in
    let n = c.in_ok-len.len in
    let a = c.in_ok-len.ensures in
    let b = c.in_ok-bytes.ensures.read in
    by_reading texts _ p _ _ (text_there all p n a.3 b.0) (
      b.1,
      omega (arith, code_length _ n (length_octets n (drop (p + 5) all))),
      omega (arith, b.0, a.2),
    )
