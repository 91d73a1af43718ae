-- Which machines, with the number of keys accepted from each state and of all, are fit for an image. Assumes nothing.
use Rattle.std.specs.Prelude.{◌≡◌, ℕ, suc, ◌+◌, ◌<◌, ◌≤◌, true, List, length}
use Rattle.std.proofs.Math.Option.{some}
use Rattle.outputs.specs.Kinds.{Kind}
use Rattle.machines.specs.Lists.{at, Each}
use Rattle.machines.specs.Machines.{State, Machine, count_arcs, end_flag, sum_at, targeted}
use Rattle.machines.specs.Lengths.{longest_from}
use Rattle.machines.specs.Numbering.{Rising}
use Rattle.machines.specs.Storing.{EndStorable}

-- What an image asks of state q, where `counts` has the keys accepted from each state.
pub record FitState (k : Kind) (counts : List ℕ) (q : ℕ) (s : State k.Ideal) : Type 0 where
  -- it has an end or an arc
  pub some_way : 0 < end_flag s.end + length s.arcs
  -- its arcs go by rising bytes to lower states
  pub rising : Rising s.arcs
  pub bytes : Each (λ arc. arc.byte < 256) s.arcs
  pub below : Each (λ arc. arc.target < q) s.arcs
  -- its outputs are storable
  pub end_storable : EndStorable k s.end
  pub storable : Each (λ arc. k.storable arc.output ≡ true) s.arcs
  -- as many keys are accepted from it as from its targets, and one more with an end output
  pub counted : at counts q ≡ some (end_flag s.end + sum_at counts s.arcs)
  pub few_keys : end_flag s.end + sum_at counts s.arcs ≤ 1048575

-- What an image asks of a machine.
pub record Fit (k : Kind) (m : Machine k.Ideal) (counts : List ℕ) (keys : ℕ) : Type 0 where
  pub some_states : 0 < length m.states
  pub few_states : length m.states ≤ 65535
  pub few_arcs : count_arcs m.states ≤ 131071
  pub some_keys : 0 < keys
  pub few_keys : keys ≤ 1048575
  pub start_last : suc m.start ≡ length m.states
  pub start_storable : k.storable m.start_output ≡ true
  pub each_counted : length counts ≡ length m.states
  pub each_fit : (q : ℕ) (s : State k.Ideal) → at m.states q ≡ some s → FitState k counts q s
  -- from the start all keys are accepted
  pub all_counted : at counts m.start ≡ some keys
  -- every state but the last is some arc's target
  pub all_targeted : (q : ℕ) → suc q < length m.states → targeted q m.states ≡ true
  -- no string along its arcs is longer than a key may be
  pub short : longest_from m.states m.start ≤ 64
