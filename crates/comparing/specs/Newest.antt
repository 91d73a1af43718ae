-- What looking up the newest open record tells. Assumes nothing.
use Rattle.std.specs.Prelude.{◌≡◌, ℕ, List, [], ◌∷◌, Result, length}
use Rattle.std.proofs.Math.Option.{none}
use Rattle.machines.specs.Machines.{State as Node}
use Rattle.construction.specs.Records.{Open, state_of}
use Rattle.register.specs.Answers.{Told}
use Rattle.records.specs.declared.memory.Core.{Core}
use Rattle.records.specs.Shape.{closings}
use Rattle.records.specs.Holding.{closed_states, opened}
use Rattle.records.specs.Registering.{state_at, home}

-- the state that the newest record is to become
abbrev pub newest : {I : Type 0} → List (Open I) → Node I
newest [] = record { end = none; arcs = [] }
newest (o ∷ os) = state_of o

-- looked for from its home among the closed states
abbrev pub LookedUp : {O I : Type 0} → (I → ℕ) → (O → I) → Core O → Result ℕ ℕ → Type 0
LookedUp digested mean c r = Told (closings c) (λ q. newest (opened mean c) ≡ state_at (closed_states mean c) q) c.slots.now (home digested (length c.slots.now) (newest (opened mean c))) r
