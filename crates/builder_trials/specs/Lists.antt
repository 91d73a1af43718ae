-- A list given to a builder in lent memory: its pairs, and what comes of them. Assumes nothing.
use Rattle.std.proofs.Math.Option.{Option}
use Rattle.std.specs.Prelude.{◌≡◌, ℕ, List, [], map, vec_len}
use Rattle.outputs.specs.Kinds.{Kind}
use Rattle.machines.specs.Keys.{Key}
use Rattle.machines.specs.Pairs.{Pairs}
use Rattle.machines.specs.Memory.{usable}
use Rattle.machines.specs.Runs.{taken, told}
use Rattle.records.specs.declared.memory.Core.{Core}
use Rattle.builder.specs.Standing.{SealedOf}
use Rattle.lending.specs.declared.Lent.{Lent}
use Rattle.sheets.specs.declared.pair.Pair.{Pair}

-- the keys of pairs
abbrev pub keys_of : {O : Type 0} → List (Pair O) → List Key
keys_of pairs = map (λ pair. pair.key.items) pairs

-- how many states and how many arcs a builder in lent memory has room for
abbrev pub states_in : {O : Type 0} → Lent O → ℕ
states_in lent = usable (vec_len lent.states) (vec_len lent.arcs) (vec_len lent.slots)

abbrev pub arcs_in : {O : Type 0} → Lent O → ℕ
arcs_in lent = vec_len lent.arcs

module _ (k : Kind) {O : Type 0} (mean : O → k.Ideal) where
  -- pairs with what their outputs stand for
  abbrev pub meant : List (Pair O) → Pairs k.Ideal
  meant pairs = map (λ pair. (pair.key.items, mean pair.output)) pairs

  -- In the lent memory the pairs P are told these answers in turn, and the sealed memory is the dictionary of those taken.
  pub record Ran (lent : Lent O) (P : Pairs k.Ideal) (answers : List (Option ℕ)) (core : Core O) : Type 0 where
    pub told : answers ≡ told k (states_in lent) (arcs_in lent) [] P
    pub sealed : SealedOf k mean core (taken k (states_in lent) (arcs_in lent) [] P)

  -- The same of pairs that have these keys: plain outputs do not say what their counterparts stand for.
  pub record RanKeys (lent : Lent O) (keys : List Key) (answers : List (Option ℕ)) (core : Core O) : Type 0 where
    pub pairs : Pairs k.Ideal
    pub keyed : map (λ pair. pair.0) pairs ≡ keys
    pub ran : Ran lent pairs answers core
