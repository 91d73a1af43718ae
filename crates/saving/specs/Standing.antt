-- What the rows of a sealed dictionary stand for, by what outputs mean. Assumes nothing.
use Rattle.std.specs.Prelude.{ℕ, ◌-◌, Bool, List, map, length}
use Rattle.outputs.specs.Kinds.{Kind}
use Rattle.machines.specs.Machines.{State as Node, Machine}
use Rattle.images.specs.Images.{record_bits, image_bits}
use Rattle.records.specs.declared.record.Arc.{Arc}
use Rattle.records.specs.declared.record.State.{State}
use Rattle.records.specs.Holding.{arcs_of, closed_state}
use Rattle.saving.specs.declared.rows.Rows.{Rows}

-- the number of keys accepted from each state
abbrev pub counts_of : {O : Type 0} → Rows O → List ℕ
counts_of rows = map (λ s. s.keys) rows.states.now

module _ (k : Kind) {O : Type 0} (mean : O → k.Ideal) where
  -- the record of a state among the arcs of all
  abbrev pub record_of : List (Arc O) → State O → List Bool
  record_of arcs s = record_bits k (closed_state mean (arcs_of mean arcs) s) s.keys

  abbrev pub records_of : List (Arc O) → List (State O) → List (List Bool)
  records_of arcs states = map (record_of arcs) states

  abbrev pub states_of : Rows O → List (Node k.Ideal)
  states_of rows = map (closed_state mean (arcs_of mean rows.arcs.now)) rows.states.now

  -- the machine, whose start is the last state
  abbrev pub machine_of : Rows O → Machine k.Ideal
  machine_of rows = record { start = length (states_of rows) - 1; start_output = mean rows.start; states = states_of rows }

  -- the bits of the image
  abbrev pub bits_of : Rows O → List Bool
  bits_of rows = image_bits k (machine_of rows) (counts_of rows) rows.keys
