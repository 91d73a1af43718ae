-- What is new of a key, added to the open records. Assumes nothing.
use Rattle.std.specs.Prelude.{◌≡◌, ℕ, suc, ◌+◌, ◌<◌, max, List, [], ◌∷◌, ◌++◌, length, drop}
use Rattle.std.proofs.Math.Option.{some}
use Rattle.stacks.specs.Stacks.{lows, highs}
use Rattle.outputs.specs.Kinds.{Kind}
use Rattle.machines.specs.Keys.{Key}
use Rattle.construction.specs.Records.{Open, Held, blank}
use Rattle.construction.specs.Steps.{add_arc, extend_last}
use Rattle.records.specs.declared.memory.Core.{Core}
use Rattle.records.specs.Lying.{Led}
use Rattle.records.specs.Shape.{openings}
use Rattle.records.specs.Holding.{held}
use Rattle.pushing.specs.Changes.{Keeps}

-- the last element under f
abbrev pub at_last : {X : Type 0} → (X → X) → List X → List X
at_last f [] = []
at_last f (x ∷ []) = f x ∷ []
at_last f (x ∷ y ∷ xs) = x ∷ at_last f (y ∷ xs)

-- a record that a key ends at, with an end output
abbrev pub ended : {I : Type 0} → I → Open I → Open I
ended x o = record { end = some x; arcs = o.arcs; since = o.since }

-- there is one more open record, without arcs
pub record Opened {O I : Type 0} (mean : O → I) (before after : Core O) : Type 0 where
  pub keeps : Keeps before after
  pub pairs : after.pairs ≡ before.pairs
  pub start : after.start ≡ before.start
  pub openings : openings after ≡ openings before + 1
  pub arcs : length (lows after.arcs) ≡ length (lows before.arcs)
  pub records : (held mean after).open' ≡ (held mean before).open' ++ (blank before.pairs ∷ [])

-- the newest open record has one more arc
pub record ArcAdded (k : Kind) {O : Type 0} (mean : O → k.Ideal) (byte : ℕ) (x : k.Ideal) (before after : Core O) : Type 0 where
  pub keeps : Keeps before after
  pub pairs : after.pairs ≡ before.pairs
  pub start : after.start ≡ before.start
  pub openings : openings after ≡ openings before
  pub arcs : length (lows after.arcs) ≡ length (lows before.arcs) + 1
  pub led : Led (length (lows after.arcs)) (highs after.states)
  pub records : (held mean after).open' ≡ at_last (add_arc k byte x) (held mean before).open'

-- a key ends at the newest open record, and one more pair is taken
pub record Accepted {O I : Type 0} (mean : O → I) (x : I) (before after : Core O) : Type 0 where
  pub keeps : Keeps before after
  pub pairs : after.pairs ≡ before.pairs + 1
  pub start : after.start ≡ before.start
  pub openings : openings after ≡ openings before
  pub records : (held mean after).open' ≡ at_last (ended x) (held mean before).open'

-- what is held once a record is open: before the first pair that of the empty prefix is opened, with the start output x
abbrev pub rooted : {I : Type 0} → I → Held I → Held I
rooted x h = elim h.open' [
  | [] ↦ record { closed = h.closed; open' = blank h.pairs ∷ []; start = x; pairs = h.pairs }
  | o ∷ more ↦ h
]

-- a record is open
pub record Rooted {O I : Type 0} (mean : O → I) (x : I) (before after : Core O) : Type 0 where
  pub keeps : Keeps before after
  pub openings : openings after ≡ max 1 (openings before)
  pub arcs : length (lows after.arcs) ≡ length (lows before.arcs)
  pub holds : held mean after ≡ rooted x (held mean before)

-- what is held once the rest of a key behind a depth is added, with what is left of its output
abbrev pub extended : (k : Kind) → Key → ℕ → k.Ideal → Held k.Ideal → Held k.Ideal
extended k key depth x h = record { closed = h.closed; open' = extend_last k h.pairs h.open' (drop depth key) x; start = h.start; pairs = suc h.pairs }

-- the rest of a key is added
pub record Extended (k : Kind) {O : Type 0} (mean : O → k.Ideal) (key : Key) (depth : ℕ) (x : k.Ideal) (before after : Core O) : Type 0 where
  pub keeps : Keeps before after
  pub opened : 0 < openings after
  pub holds : held mean after ≡ extended k key depth x (held mean before)
