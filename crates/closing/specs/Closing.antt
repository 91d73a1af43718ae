-- What closing open records makes of what is held, as the incremental construction has it. Assumes nothing.
use Rattle.std.specs.Prelude.{◌≡◌, ℕ, ◌+◌, ◌-◌, List, [], ◌∷◌, ◌++◌, length}
use Rattle.stacks.specs.Stacks.{lows, highs}
use Rattle.outputs.specs.Kinds.{Kind}
use Rattle.construction.specs.Records.{Open, Closed, Held, state_of}
use Rattle.construction.specs.Steps.{aim, enter}
use Rattle.construction.specs.Building.{close_beyond, sealed_states}
use Rattle.register.specs.Answers.{Missing}
use Rattle.records.specs.declared.memory.Core.{Core}
use Rattle.records.specs.Lying.{Led}
use Rattle.records.specs.Shape.{Within, openings, closings}
use Rattle.records.specs.Holding.{closed, closed_states, opened}
use Rattle.records.specs.Registering.{state_at, home}
use Rattle.comparing.specs.Newest.{newest}

-- the newest open record is gone, and the one before it has an arc
pub record Popped {O : Type 0} (before after : Core O) : Type 0 where
  pub within : Within before after
  pub opens : openings after + 1 ≡ openings before
  pub led : Led (length (lows after.arcs)) (highs after.states)
  pub pairs : after.pairs ≡ before.pairs
  pub start : after.start ≡ before.start

-- the newest open record is let go
pub record Dropped {O I : Type 0} (mean : O → I) (before after : Core O) : Type 0 where
  pub top : Open I
  pub was : opened mean before ≡ top ∷ opened mean after
  pub closed : closed mean after ≡ closed mean before
  pub slots : after.slots.now ≡ before.slots.now

-- the closed states with one more, closed once `pairs` pairs were taken
abbrev pub with_state : {I : Type 0} → ℕ → Closed I → Open I → Closed I
with_state pairs c o = record { states = c.states ++ (state_of o ∷ []); counts = c.counts ++ ((pairs - o.since) ∷ []) }

-- the newest open record has become the next state
pub record Settled {O I : Type 0} (mean : O → I) (before after : Core O) (number : ℕ) : Type 0 where
  pub top : Open I
  pub was : opened mean before ≡ top ∷ opened mean after
  pub closed : closed mean after ≡ with_state before.pairs (closed mean before) top
  pub next : number ≡ closings before
  pub slots : after.slots.now ≡ before.slots.now

-- no closed state is equal to the newest open record, and this slot is free for it
abbrev pub NoEqual : {O I : Type 0} → (I → ℕ) → (O → I) → Core O → ℕ → Type 0
NoEqual digested mean c slot = Missing (closings c) (λ q. newest (opened mean c) ≡ state_at (closed_states mean c) q) c.slots.now (home digested (length c.slots.now) (newest (opened mean c))) slot

module _ (k : Kind) where
  -- the newest open record is closed as the construction closes it
  pub record Closes {O : Type 0} (mean : O → k.Ideal) (before after : Core O) (number : ℕ) : Type 0 where
    pub top : Open k.Ideal
    pub was : opened mean before ≡ top ∷ opened mean after
    pub entered : enter k before.pairs (closed mean before) top ≡ (number, closed mean after)

  -- what is held once the records beyond a depth are closed
  abbrev pub closed_beyond : ℕ → Held k.Ideal → Held k.Ideal
  closed_beyond depth held = elim held.open' [
    | [] ↦ held
    | o ∷ more ↦
        let kept : Closed k.Ideal × List (Open k.Ideal) = close_beyond k held.pairs held.closed depth o more in
        record { closed = kept.0; open' = kept.1; start = held.start; pairs = held.pairs }
  ]

  -- what is held once all records are closed
  abbrev pub all_closed : Held k.Ideal → Held k.Ideal
  all_closed held = record { closed = sealed_states k held; open' = []; start = held.start; pairs = held.pairs }

-- the last arc of the newest open record leads to state q
abbrev pub aim_newest : {I : Type 0} → ℕ → List (Open I) → List (Open I)
aim_newest q [] = []
aim_newest q (o ∷ os) = aim q o ∷ os

-- the newest arc leads elsewhere, and all else is as it was
pub record Aimed {O I : Type 0} (mean : O → I) (before after : Core O) (q : ℕ) : Type 0 where
  pub within : Within before after
  pub opens : openings after ≡ openings before
  pub opened : opened mean after ≡ aim_newest q (opened mean before)
  pub closed : closed mean after ≡ closed mean before
  pub slots : after.slots.now ≡ before.slots.now
  pub pairs : after.pairs ≡ before.pairs
  pub start : after.start ≡ before.start
