-- What probing the slots of a register tells. Assumes nothing.
use Rattle.std.specs.Prelude.{◌≡◌, ℕ, ◌-◌, ◌<◌, ◌≤◌, List, Option, Some, None, Result, Ok, Err, slice_index, slice_index_or}
use Rattle.register.specs.Slots.{Taken, Entered, Hole}

-- a state below n that E holds of
abbrev pub Among : ℕ → (ℕ → Type 0) → ℕ → Type 0
Among n E q = (q < n) × E q

-- slot j holds a state that E does not hold of
pub record Other (E : ℕ → Type 0) (slots : List ℕ) (j : ℕ) : Type 0 where
  pub taken : Taken slots j
  pub other : E (slice_index slots j - 1) → ⊥

-- slot i is the first free one from slot a up to slot b, and E holds of no state before it
pub record FirstFree (E : ℕ → Type 0) (slots : List ℕ) (a b i : ℕ) : Type 0 where
  pub low : a ≤ i
  pub high : i < b
  pub free : slice_index_or slots i 0 ≡ 0
  pub passed : (j : ℕ) → a ≤ j → j < i → Other E slots j

-- what a scan of the slots from a up to b tells
abbrev pub Scanned : (ℕ → Type 0) → List ℕ → ℕ → ℕ → Option (Result ℕ ℕ) → Type 0
Scanned E slots a b (Some (Ok q)) = E q
Scanned E slots a b (Some (Err i)) = FirstFree E slots a b i
Scanned E slots a b None = (j : ℕ) → a ≤ j → j < b → Other E slots j

-- the slot for a state that is not there: E holds of no state that is entered from this home
pub record Missing (n : ℕ) (E : ℕ → Type 0) (slots : List ℕ) (home i : ℕ) : Type 0 where
  pub hole : Hole slots home i
  pub none_equal : (q : ℕ) → q < n → Entered home slots q → E q → ⊥

-- what looking up tells: a state that E holds of, or the slot for one that is missing
abbrev pub Told : ℕ → (ℕ → Type 0) → List ℕ → ℕ → Result ℕ ℕ → Type 0
Told n E slots home (Ok q) = Among n E q
Told n E slots home (Err i) = Missing n E slots home i
