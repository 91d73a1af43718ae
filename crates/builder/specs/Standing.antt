-- What a builder's memory stands for, and what a sealed one holds: the pairs taken. Assumes nothing.
use Rattle.std.specs.Prelude.{◌≡◌, ℕ, ◌-◌, ◌<◌, ◌≤◌, length}
use Rattle.stacks.specs.Stacks.{lows, capacity}
use Rattle.outputs.specs.Kinds.{Kind}
use Rattle.machines.specs.Machines.{Machine, count_arcs}
use Rattle.machines.specs.Pairs.{Pairs, Ascending, ByteKeys, ShortKeys, AllStorable}
use Rattle.machines.specs.Minimal.{minimal, key_counts}
use Rattle.construction.specs.Building.{held_after}
use Rattle.records.specs.declared.memory.Core.{Core}
use Rattle.records.specs.Holding.{closed_states, counts, held}
use Rattle.records.specs.Registering.{Registered}
use Rattle.builder.specs.declared.builder.Counts.{Counts}

-- Pairs that a builder can have taken: by ascending keys of at most 64 bytes, with storable outputs, and not too many.
pub record Takeable (k : Kind) (P : Pairs k.Ideal) : Type 0 where
  pub ascending : Ascending P
  pub bytes : ByteKeys P
  pub short : ShortKeys P
  pub few : length P ≤ 1048575
  pub storable : AllStorable k P

module _ (k : Kind) {O : Type 0} (mean : O → k.Ideal) where
  -- A builder's memory, with room for so many states and arcs, stands for the pairs P: it holds what the construction makes of them, and its slots are the register of the closed states. Without room for a state the room for arcs does not matter.
  pub record Stands (digested : k.Ideal → ℕ) (core : Core O) (states arcs : ℕ) (P : Pairs k.Ideal) : Type 0 where
    pub stateroom : capacity core.states ≡ states
    pub arcroom : 0 < states → capacity core.arcs ≡ arcs
    pub takeable : Takeable k P
    pub registered : Registered digested mean core
    pub holds : held mean core ≡ held_after k P

  -- the machine in a sealed memory: its start is the last state
  abbrev pub machine_in : Core O → Machine k.Ideal
  machine_in core = record { start = length (closed_states mean core) - 1; start_output = mean core.start; states = closed_states mean core }

  -- A sealed memory holds exactly the minimal machine of the pairs P: its states by number with their end outputs and arcs, the keys accepted from each, the start output, and the number of all keys.
  pub record SealedOf (core : Core O) (P : Pairs k.Ideal) : Type 0 where
    pub takeable : Takeable k P
    pub machine : machine_in core ≡ minimal k P
    pub counts : counts mean (lows core.states) ≡ key_counts k P
    pub pairs : core.pairs ≡ length P

-- the numbers of states and arcs of the minimal machine; without a pair both are 0
pub record CountsOf (k : Kind) (P : Pairs k.Ideal) (counts : Counts) : Type 0 where
  pub states : counts.states ≡ length (minimal k P).states
  pub arcs : counts.arcs ≡ count_arcs (minimal k P).states
  pub few_states : counts.states < 65536
  pub few_arcs : counts.arcs < 131072
