-- Thirty-two bits that are there are a number; fewer only begin one.
use Rattle.std.proofs.Common.{◌+◌, sym, refl, ap, arith, lit<}
use Rattle.std.proofs.lemmas.Result.{err_from_is_err_and}
use Rattle.outputs.specs.Numbers.{numbers}
use Rattle.outputs.specs.BitRows.{length_bits}
use Rattle.outputs.proofs.FieldReads.{read_there, read_cut, by_reading}
use Rattle.outputs.proofs.number.NumberOutput.read.Goals as goal

pub returns-in_err-value : goal.returns-in_err-value
returns-in_err-value g c =
    let p = err_from_is_err_and c.from_residual.result c.from_residual.ensures.1 in
    let h = c.in_err-value.ensures in
    by_reading numbers _ c.args.place _ c.from_residual.result (read_cut (g.B.BitSource.all c.args.source.now) c.args.place 32 (lit< tt) h.0) (rw (p.1, p.2, h.1) refl)

pub returns : goal.returns
returns g c =
    let h = c.in_ok-value.ensures in
    by_reading numbers _ c.args.place _ _ (read_there (g.B.BitSource.all c.args.source.now) c.args.place 32 h.0)
    (h.2, ap (λ n. c.args.place + n) (sym (length_bits 32 _)), omega (arith, h.0, h.1))
