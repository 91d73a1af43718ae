-- The number of strings accepted from each state, of states whose targets have lower numbers. Assumes nothing.
use Rattle.std.specs.Prelude.{ℕ, ◌+◌, List, [], ◌∷◌, ◌++◌}
use Rattle.machines.specs.Machines.{State, end_flag, sum_at}

-- the number for each state in turn, behind those that are done: as many as from its targets, and one more with an end output
abbrev pub count_each : {A : Type 0} → List ℕ → List (State A) → List ℕ
count_each done [] = done
count_each done (s ∷ ss) = count_each (done ++ ((end_flag s.end + sum_at done s.arcs) ∷ [])) ss

-- the number of strings accepted from each state
abbrev pub counts_of : {A : Type 0} → List (State A) → List ℕ
counts_of states = count_each [] states
