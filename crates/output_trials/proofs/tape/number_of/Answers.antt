use Rattle.std.proofs.Common.{◌≡◌, ℕ, ◌+◌, ◌*◌, ◌^◌, ◌<◌, false, length, get_or, take, sym, ap, ◌∙◌, subst, ap₂, arith}
use lib.Seq.{take-length}
use Rattle.outputs.specs.Bits.{bit, value}
use Rattle.output_trials.proofs.Rows.{value_more, one_more_fits, one_more_below, bit_of, bit_small}
use Rattle.output_trials.proofs.tape.number_of.Goals as goal

pub overflow_mul-number : goal.overflow_mul-number
overflow_mul-number c = omega (arith, one_more_fits c.loop-bit.number c.loop-bit.bit-index c.loop-bit.invariant.1 (omega arith))

pub overflow_add-number : goal.overflow_add-number
overflow_add-number c =
    let b = get_or c.args.row.now c.loop-bit.bit-index false in
    let e : c.from.result ≡ bit b = c.from.ensures ∙ bit_of b in
    omega (arith, e, bit_small b, one_more_fits c.loop-bit.number c.loop-bit.bit-index c.loop-bit.invariant.1 (omega arith))

pub loop-bit-preserved : goal.loop-bit-preserved
loop-bit-preserved c =
    let b = get_or c.args.row.now c.loop-bit.bit-index false in
    let e : c.from.result ≡ bit b = c.from.ensures ∙ bit_of b in
    let P : ℕ → Type 0 = λ r. 2 * c.loop-bit.number + r < 2 ^ (c.loop-bit.bit-index + 1) in (
      ap₂ (λ n r. 2 * n + r) c.loop-bit.invariant.0 e ∙ sym (value_more c.args.row.now c.loop-bit.bit-index c.loop-bit-test.true),
      subst P (sym e) (one_more_below c.loop-bit.number c.loop-bit.bit-index b c.loop-bit.invariant.1),
    )

pub returns : goal.returns
returns c =
    let row = c.args.row.now in
    let e : c.loop-bit.bit-index ≡ length row = omega arith in
    let P : ℕ → Type 0 = λ i. c.loop-bit.number < 2 ^ i in
    record {
      is = c.loop-bit.invariant.0 ∙ ap (λ i. value (take i row)) e ∙ ap value (take-length row);
      below = subst P e c.loop-bit.invariant.1;
    }
