-- Subsequential transducers, and what one answers. Assumes nothing.
use Rattle.std.specs.Prelude.{ℕ, ◌+◌, Bool, true, false, ◌||◌, List, [], ◌∷◌, length, ◌==◌, slice_index}
use Rattle.std.proofs.Math.Option.{Option, none, some}
use Rattle.outputs.specs.Kinds.{Kind}
use Rattle.machines.specs.Lists.{at}
use Rattle.machines.specs.Keys.{Key}

-- An arc is taken on a byte, puts out its output and leads to its target.
pub record Arc (A : Type 0) : Type 0 where
  pub byte : ℕ
  pub target : ℕ
  pub output : A

-- A state is a final one if it has an end output.
pub record State (A : Type 0) : Type 0 where
  pub end : Option A
  pub arcs : List (Arc A)

-- States are numbered by their places in the list. A start or a target that no state has leads nowhere.
pub record Machine (A : Type 0) : Type 0 where
  pub start : ℕ
  pub start_output : A
  pub states : List (State A)

-- the arc on a byte: the first, should there be several
abbrev pub arc_on : {A : Type 0} → ℕ → List (Arc A) → Option (Arc A)
arc_on a [] = none
arc_on a (arc ∷ arcs) = elim (arc.byte == a) [ true ↦ some arc | false ↦ arc_on a arcs ]

-- the end output of a state, if the state is there and has one
abbrev pub end_at : {A : Type 0} → Option (State A) → Option A
end_at none = none
end_at (some s) = s.end

-- the arc of a state on a byte, if both are there
abbrev pub arc_at : {A : Type 0} → Option (State A) → ℕ → Option (Arc A)
arc_at none a = none
arc_at (some s) a = arc_on a s.arcs

-- the arcs of all states, counted
abbrev pub count_arcs : {A : Type 0} → List (State A) → ℕ
count_arcs [] = 0
count_arcs (s ∷ ss) = length s.arcs + count_arcs ss

-- 1 for an end output, 0 without one
abbrev pub end_flag : {A : Type 0} → Option A → ℕ
end_flag none = 0
end_flag (some x) = 1

-- the sum of what a list has for the targets of some arcs
abbrev pub sum_at : {A : Type 0} → List ℕ → List (Arc A) → ℕ
sum_at ns [] = 0
sum_at ns (arc ∷ arcs) = slice_index ns arc.target + sum_at ns arcs

-- state q is the target of one of these arcs
abbrev pub aims : {A : Type 0} → ℕ → List (Arc A) → Bool
aims q [] = false
aims q (arc ∷ arcs) = arc.target == q || aims q arcs

-- state q is the target of an arc of one of these states
abbrev pub targeted : {A : Type 0} → ℕ → List (State A) → Bool
targeted q [] = false
targeted q (s ∷ ss) = aims q s.arcs || targeted q ss

module _ (k : Kind) where
  -- x in front of an output, if there is one
  abbrev pub join_some : k.Ideal → Option k.Ideal → Option k.Ideal
  join_some x none = none
  join_some x (some y) = some (k.join x y)

  -- what is put out from state q on over a string, the end output at last; absent if an arc or the end output is missing
  abbrev pub answer_from : List (State k.Ideal) → ℕ → Key → Option k.Ideal
  answer_from states q [] = end_at (at states q)
  answer_from states q (a ∷ w) = elim (arc_at (at states q) a) [
    | none ↦ none
    | some arc ↦ join_some arc.output (answer_from states arc.target w)
  ]

  -- the answer of a machine to a string
  abbrev pub answer : Machine k.Ideal → Key → Option k.Ideal
  answer m w = join_some m.start_output (answer_from m.states m.start w)

  -- the state after a string and what is put out by then, from state q with x put out; absent if an arc is missing
  abbrev pub reach_from : List (State k.Ideal) → ℕ → k.Ideal → Key → Option (ℕ × k.Ideal)
  reach_from states q x [] = some (q, x)
  reach_from states q x (a ∷ w) = elim (arc_at (at states q) a) [
    | none ↦ none
    | some arc ↦ reach_from states arc.target (k.join x arc.output) w
  ]

  -- the state that a machine is in after a string, and what it has put out so far
  abbrev pub reach : Machine k.Ideal → Key → Option (ℕ × k.Ideal)
  reach m w = reach_from m.states m.start m.start_output w
