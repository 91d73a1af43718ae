use Rattle.stacks.specs.Stacks.{Changed}
use Rattle.stacks.proofs.stack.Stacks.change_low.Given as goal

-- those before the index are changed
abbrev pub invariant-loop-x : goal.invariant-loop-x
invariant-loop-x g l = Changed (λ x y. g.F.Fn.post l.change (x, tt) y) 0 l.x-index l.initial.x-items l.x-items
