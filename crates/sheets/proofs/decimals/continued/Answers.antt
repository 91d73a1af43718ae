use Rattle.sheets.proofs.Digits.{reads_more, reads_too_much, reads_all}
use Rattle.sheets.proofs.decimals.continued.Goals as goal

pub returns-in_err-so_far : goal.returns-in_err-so_far
returns-in_err-so_far c = rw c.from_residual.ensures (reads_too_much c.args.number c.args.digits.now c.loop-digit.digit-index c.loop-digit.so_far 4294967296 c.loop-digit-test.true c.loop-digit.invariant c.in_err-so_far.ensures)

pub loop-digit-preserved : goal.loop-digit-preserved
loop-digit-preserved c = reads_more c.args.number c.args.digits.now c.loop-digit.digit-index c.loop-digit.so_far c.in_ok-so_far.so_far c.loop-digit-test.true c.loop-digit.invariant c.in_ok-so_far.ensures

pub returns : goal.returns
returns c = reads_all c.args.number c.args.digits.now c.loop-digit.digit-index c.loop-digit.so_far c.loop-digit-test.false c.loop-digit.invariant
