-- The slots of a register: in which order they are probed, and which states are entered. Assumes nothing.
use Rattle.std.specs.Prelude.{◌≡◌, ℕ, zero, suc, ◌+◌, ◌<◌, ◌≤◌, List, [], ◌∷◌, length, slice_index, slice_index_or}

-- P of each slot that is probed before slot i, where probing starts at home, goes up to the end of l slots and on from slot 0
pub record EachBefore (home l i : ℕ) (P : ℕ → Type 0) : Type 0 where
  pub up : (j : ℕ) → home ≤ i → home ≤ j → j < i → P j
  pub to_end : (j : ℕ) → i < home → home ≤ j → j < l → P j
  pub from_start : (j : ℕ) → i < home → j < i → P j

-- slot j holds a state
abbrev pub Taken : List ℕ → ℕ → Type 0
Taken slots j = slice_index slots j ≡ 0 → ⊥

-- how many slots hold a state
abbrev pub used : List ℕ → ℕ
used [] = 0
used (zero ∷ slots) = used slots
used (suc q ∷ slots) = suc (used slots)

-- state q is entered: probing from home meets it before any free slot
pub record Entered (home : ℕ) (slots : List ℕ) (q : ℕ) : Type 0 where
  pub slot : ℕ
  pub within : slot < length slots
  pub holds : slice_index_or slots slot 0 ≡ q + 1
  pub way : EachBefore home (length slots) slot (Taken slots)

-- slot i is the first free one that probing from home meets
pub record Hole (slots : List ℕ) (home i : ℕ) : Type 0 where
  pub within : i < length slots
  pub free : slice_index_or slots i 0 ≡ 0
  pub way : EachBefore home (length slots) i (Taken slots)
