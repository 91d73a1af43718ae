use Rattle.sheets.proofs.Digits.{Reads}
use Rattle.sheets.proofs.decimals.continued.Given as goal

abbrev pub invariant-loop-digit : goal.invariant-loop-digit
invariant-loop-digit l = Reads l.number l.digits l.digit-index l.so_far
