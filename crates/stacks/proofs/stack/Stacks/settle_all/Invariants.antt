use Rattle.std.proofs.Common.{◌≡◌, ◌+◌, ◌++◌, length}
use Rattle.stacks.specs.Stacks.{lows, highs, capacity}
use Rattle.stacks.proofs.stack.Stacks.settle_all.Given as goal

abbrev pub invariant-loop : goal.invariant-loop
invariant-loop g l = (lows l.self ++ highs l.self ≡ lows l.initial.self ++ highs l.initial.self) × (length (lows l.self) + l.counter ≡ length (lows l.initial.self)) × (capacity l.self ≡ capacity l.initial.self)
