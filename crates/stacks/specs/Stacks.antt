-- What two facing stacks hold, as lists. Assumes nothing.
use Rattle.std.specs.Prelude.{ℕ, zero, suc, ◌≡◌, ◌+◌, ◌-◌, ◌≤◌, List, [], ◌∷◌, length, take, drop}
use Rattle.stacks.specs.declared.stack.Stacks.{Stacks}

abbrev pub capacity : {T : Type 0} → Stacks T → ℕ
capacity s = length s.cells.now

-- the low stack, the oldest first
abbrev pub lows : {T : Type 0} → Stacks T → List T
lows s = take s.low s.cells.now

-- the high stack, the newest first
abbrev pub highs : {T : Type 0} → Stacks T → List T
highs s = drop (length s.cells.now - s.high) s.cells.now

-- the two stacks do not overlap
abbrev pub Room : {T : Type 0} → Stacks T → Type 0
Room s = s.low + s.high ≤ length s.cells.now

-- two lists of one length: from one place up to another each element is related to what it was, and the others are the same
abbrev pub Changed : {T : Type 0} → (T → T → Type 0) → ℕ → ℕ → List T → List T → Type 0
Changed R from to [] [] = Unit {0}
Changed R from to [] (y ∷ ys) = ⊥
Changed R from to (x ∷ xs) [] = ⊥
Changed R zero zero (x ∷ xs) (y ∷ ys) = (x ≡ y) × Changed R zero zero xs ys
Changed R zero (suc to) (x ∷ xs) (y ∷ ys) = R x y × Changed R zero to xs ys
Changed R (suc from) zero (x ∷ xs) (y ∷ ys) = (x ≡ y) × Changed R from zero xs ys
Changed R (suc from) (suc to) (x ∷ xs) (y ∷ ys) = (x ≡ y) × Changed R from to xs ys
