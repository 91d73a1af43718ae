-- What the memory stands for, by what outputs mean: closed states, open records, the start output and the pairs. Assumes nothing.
use Rattle.std.specs.Prelude.{ℕ, ◌-◌, List, map, reverse, length, take, drop}
use Rattle.std.proofs.Math.Option.{Option}
use Rattle.outputs.specs.Meanings.{meant}
use Rattle.stacks.specs.Stacks.{lows, highs}
use Rattle.machines.specs.Machines.{Arc as Edge, State as Node}
use Rattle.construction.specs.Records.{Open, Closed, Held}
use Rattle.records.specs.declared.record.Arc.{Arc}
use Rattle.records.specs.declared.record.State.{State}
use Rattle.records.specs.declared.memory.Core.{Core}

module _ {O I : Type 0} (mean : O → I) where
  abbrev pub arc_of : Arc O → Edge I
  arc_of a = record { byte = a.byte; target = a.target; output = mean a.output }

  abbrev pub arcs_of : List (Arc O) → List (Edge I)
  arcs_of as' = map arc_of as'

  abbrev pub end_of : State O → Option I
  end_of s = meant mean s.end

  -- a closed state among the arcs of all closed ones
  abbrev pub closed_state : List (Edge I) → State O → Node I
  closed_state es s = record { end = end_of s; arcs = take s.count (drop (length es - s.first) es) }

  -- an open record among the arcs of all open ones
  abbrev pub open_record : List (Edge I) → State O → Open I
  open_record es s = record { end = end_of s; arcs = take s.count (drop s.first es); since = s.keys }

  -- the closed states by number
  abbrev pub closed_states : Core O → List (Node I)
  closed_states c = map (closed_state (arcs_of (highs c.arcs))) (lows c.states)

  -- the numbers of keys accepted from the closed states
  abbrev pub counts : List (State O) → List ℕ
  counts ss = map (λ (s : State O). s.keys) ss

  abbrev pub closed : Core O → Closed I
  closed c = record { states = closed_states c; counts = counts (lows c.states) }

  -- the open records, the newest first
  abbrev pub opened : Core O → List (Open I)
  opened c = map (open_record (arcs_of (lows c.arcs))) (highs c.states)

  -- all that is held, the open records from that of the empty prefix on
  abbrev pub held : Core O → Held I
  held c = record { closed = closed c; open' = reverse (opened c); start = mean c.start; pairs = c.pairs }
