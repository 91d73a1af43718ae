-- The longest string along the arcs of each state, of states whose targets have lower numbers. Assumes nothing.
use Rattle.std.specs.Prelude.{ℕ, suc, max, List, [], ◌∷◌, ◌++◌, slice_index}
use Rattle.machines.specs.Machines.{Arc, State}

-- one more than the most that a list has for the targets of some arcs, and 0 without an arc
abbrev pub longest_on : {A : Type 0} → List ℕ → List (Arc A) → ℕ
longest_on done [] = 0
longest_on done (arc ∷ arcs) = max (suc (slice_index done arc.target)) (longest_on done arcs)

-- the length for each state in turn, behind those that are done
abbrev pub longest_each : {A : Type 0} → List ℕ → List (State A) → List ℕ
longest_each done [] = done
longest_each done (s ∷ ss) = longest_each (done ++ (longest_on done s.arcs ∷ [])) ss

-- the length of the longest string along arcs from state q
abbrev pub longest_from : {A : Type 0} → List (State A) → ℕ → ℕ
longest_from states q = slice_index (longest_each [] states) q
