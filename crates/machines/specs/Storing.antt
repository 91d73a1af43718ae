-- What an image asks of the minimal machine: storable outputs, and numbers that its fields can hold. Assumes nothing.
use Rattle.std.specs.Prelude.{◌≡◌, ℕ, ◌+◌, ◌<◌, ◌≤◌, true, length}
use Rattle.std.proofs.Math.Option.{Option, none, some}
use Rattle.outputs.specs.Kinds.{Kind}
use Rattle.machines.specs.Lists.{at, Each}
use Rattle.machines.specs.Machines.{State, end_flag}
use Rattle.machines.specs.Pairs.{Pairs}
use Rattle.machines.specs.Minimal.{minimal, key_counts}

-- an end output, if there is one, is storable
abbrev pub EndStorable : (k : Kind) → Option k.Ideal → Type 0
EndStorable k none = Unit {0}
EndStorable k (some x) = k.storable x ≡ true

-- all outputs of a state are storable
abbrev pub StateStorable : (k : Kind) → State k.Ideal → Type 0
StateStorable k s = EndStorable k s.end × Each (λ arc. k.storable arc.output ≡ true) s.arcs

-- What holds of each state of the minimal machine.
pub record StoringState (k : Kind) (s : State k.Ideal) : Type 0 where
  -- an end or an arc, and at most one arc for each byte
  pub some_way : 0 < end_flag s.end + length s.arcs
  pub few_arcs : length s.arcs ≤ 256
  pub end_storable : (x : k.Ideal) → s.end ≡ some x → k.storable x ≡ true
  pub arcs_storable : Each (λ arc. k.storable arc.output ≡ true) s.arcs

-- What holds of the minimal machine as a whole.
pub record Storing (k : Kind) (P : Pairs k.Ideal) : Type 0 where
  pub start_storable : k.storable (minimal k P).start_output ≡ true
  pub each_state : (i : ℕ) (s : State k.Ideal) → at (minimal k P).states i ≡ some s → StoringState k s
  -- there is a count for each state, and none is above the number of all keys
  pub each_counted : length (key_counts k P) ≡ length (minimal k P).states
  pub counts_within : (i n : ℕ) → at (key_counts k P) i ≡ some n → n ≤ length P
