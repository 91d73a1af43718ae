use Rattle.std.proofs.Common.{ℕ, ◌<◌, ◌≤◌}
use Rattle.register.specs.Answers.{Among, Other}
use Rattle.register.proofs.scan.Given as goal

abbrev pub invariant-loop-i : goal.invariant-loop-i
invariant-loop-i g l = (j : ℕ) → l.from ≤ j → j < l.i → Other (Among (g.C.Wanted.count l.want) (g.C.Wanted.equals l.want)) l.slots j
