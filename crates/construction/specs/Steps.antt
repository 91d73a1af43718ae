-- The steps of the incremental construction: closing what a new key leaves, pushing outputs along what it shares, and adding what is new. Assumes nothing.
use Rattle.std.specs.Prelude.{ℕ, ◌-◌, List, [], ◌∷◌, ◌++◌, map, length}
use Rattle.std.proofs.Math.Option.{Option, none, some}
use Rattle.outputs.specs.Kinds.{Kind}
use Rattle.machines.specs.Keys.{Key}
use Rattle.machines.specs.Machines.{Arc}
use Rattle.construction.specs.Records.{Open, Closed, state_of, blank, number_of}

-- the last arc leads to state q
abbrev pub aim_last : {A : Type 0} → ℕ → List (Arc A) → List (Arc A)
aim_last q [] = []
aim_last q (arc ∷ []) = record { byte = arc.byte; target = q; output = arc.output } ∷ []
aim_last q (arc ∷ next ∷ arcs) = arc ∷ aim_last q (next ∷ arcs)

abbrev pub aim : {A : Type 0} → ℕ → Open A → Open A
aim q o = record { end = o.end; arcs = aim_last q o.arcs; since = o.since }

module _ (k : Kind) where
  -- A record is closed once `pairs` pairs were taken: an equal closed state takes its place, else it becomes the next state. Its number, and the closed states then.
  abbrev pub enter : ℕ → Closed k.Ideal → Open k.Ideal → ℕ × Closed k.Ideal
  enter pairs closed o = elim (number_of k (state_of o) closed.states) [
    | some q ↦ (q, closed)
    | none ↦ (length closed.states, record { states = closed.states ++ (state_of o ∷ []); counts = closed.counts ++ ((pairs - o.since) ∷ []) })
  ]

  -- closes the records behind o, the deepest first; each becomes the target of the arc that leads to it
  abbrev pub settle : ℕ → Closed k.Ideal → Open k.Ideal → List (Open k.Ideal) → Closed k.Ideal × Open k.Ideal
  settle pairs closed o [] = (closed, o)
  settle pairs closed o (next ∷ more) =
      let deeper : Closed k.Ideal × Open k.Ideal = settle pairs closed next more in
      let entered : ℕ × Closed k.Ideal = enter pairs deeper.0 deeper.1 in
      (entered.1, aim entered.0 o)

  -- x in front of an end output
  abbrev pub push_end : k.Ideal → Option k.Ideal → Option k.Ideal
  push_end x none = none
  push_end x (some y) = some (k.join x y)

  abbrev pub push_arc : k.Ideal → Arc k.Ideal → Arc k.Ideal
  push_arc x arc = record { byte = arc.byte; target = arc.target; output = k.join x arc.output }

  -- x in front of all that follows a record: its end output and the outputs of its arcs
  abbrev pub push : k.Ideal → Open k.Ideal → Open k.Ideal
  push x o = record { end = push_end x o.end; arcs = map (push_arc x) o.arcs; since = o.since }

  -- the output of the last arc, and that arc with another output
  abbrev pub last_output : List (Arc k.Ideal) → k.Ideal
  last_output [] = k.empty
  last_output (arc ∷ []) = arc.output
  last_output (arc ∷ next ∷ arcs) = last_output (next ∷ arcs)

  abbrev pub with_last_output : k.Ideal → List (Arc k.Ideal) → List (Arc k.Ideal)
  with_last_output x [] = []
  with_last_output x (arc ∷ []) = record { byte = arc.byte; target = arc.target; output = x } ∷ []
  with_last_output x (arc ∷ next ∷ arcs) = arc ∷ with_last_output x (next ∷ arcs)

  abbrev pub lead : k.Ideal → Open k.Ideal → Open k.Ideal
  lead x o = record { end = o.end; arcs = with_last_output x o.arcs; since = o.since }

  -- Along the records from o on: `carry` is what the records before have given up and goes in front of all that follows o; `left` is what is left of the new output. Each arc that leads on keeps what it has in common with the new output. The records then, and what is left of the new output at the last.
  abbrev pub push_down : k.Ideal → k.Ideal → Open k.Ideal → List (Open k.Ideal) → List (Open k.Ideal) × k.Ideal
  push_down carry left o [] = (push carry o ∷ [], left)
  push_down carry left o (next ∷ more) =
      let pushed : Open k.Ideal = push carry o in
      let whole : k.Ideal = last_output pushed.arcs in
      let shared : k.Ideal = k.common whole left in
      let deeper : List (Open k.Ideal) × k.Ideal = push_down (k.rest shared whole) (k.rest shared left) next more in
      (lead shared pushed ∷ deeper.0, deeper.1)

  abbrev pub add_arc : ℕ → k.Ideal → Open k.Ideal → Open k.Ideal
  add_arc byte x o = record { end = o.end; arcs = o.arcs ++ (record { byte = byte; target = 0; output = x } ∷ []); since = o.since }

  -- the rest of the new key behind o, with what is left of its output, after `pairs` pairs
  abbrev pub extend : ℕ → Open k.Ideal → Key → k.Ideal → List (Open k.Ideal)
  extend pairs o [] x = record { end = some x; arcs = o.arcs; since = o.since } ∷ []
  extend pairs o (a ∷ w) x = add_arc a x o ∷ extend pairs (blank pairs) w k.empty

  -- the last of some records is extended
  abbrev pub extend_last : ℕ → List (Open k.Ideal) → Key → k.Ideal → List (Open k.Ideal)
  extend_last pairs [] w x = extend pairs (blank pairs) w x
  extend_last pairs (o ∷ []) w x = extend pairs o w x
  extend_last pairs (o ∷ next ∷ more) w x = o ∷ extend_last pairs (next ∷ more) w x
