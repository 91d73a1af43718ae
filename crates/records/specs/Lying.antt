-- How records lie in a builder's memory. Assumes nothing.
use Rattle.std.specs.Prelude.{◌≡◌, ℕ, ◌+◌, ◌<◌, ◌≤◌, List, [], ◌∷◌, length, slice_index}
use Rattle.std.specs.Coded.{×_prop, Unit-prop, le_prop, Coded-set, coded_ℕ}
use Rattle.stacks.specs.declared.stack.Stacks.{Stacks}
use Rattle.stacks.specs.Stacks.{lows, highs, capacity}
use Rattle.register.specs.Slots.{used}
use Rattle.records.specs.declared.record.Arc.{Arc}
use Rattle.records.specs.declared.record.State.{State}

-- the records' arcs lie one after the other up to place n, and none is without one
abbrev pub Led : {O : Type 0} → ℕ → List (State O) → Type 0
Led n [] = n ≡ 0
Led n (s ∷ ss) = (s.first + s.count ≡ n) × (0 < s.count) × Led s.first ss

-- the same, but the newest may be without one
abbrev pub Laid : {O : Type 0} → ℕ → List (State O) → Type 0
Laid n [] = n ≡ 0
Laid n (s ∷ ss) = (s.first + s.count ≡ n) × Led s.first ss

-- the records were opened when at most p pairs were taken
abbrev pub Since : {O : Type 0} → ℕ → List (State O) → Type 0
Since p [] = Unit {0}
Since p (s ∷ ss) = (s.keys ≤ p) × Since p ss

-- the closed states' arcs lie among the n closed ones
abbrev pub Placed : {O : Type 0} → ℕ → List (State O) → Type 0
Placed n [] = Unit {0}
Placed n (s ∷ ss) = (s.first ≤ n) × (s.count ≤ s.first) × Placed n ss

-- counted from the end of the arc list, the closed states' arcs lie one after the other from place a up to place n
abbrev pub Packed : {O : Type 0} → ℕ → ℕ → List (State O) → Type 0
Packed a n [] = a ≡ n
Packed a n (s ∷ ss) = (s.first ≡ a + s.count) × Packed s.first n ss

-- What is always true of a memory of states, arcs, slots and a number of pairs, whatever the outputs mean.
pub record Sound {O : Type 0} (states : Stacks (State O)) (arcs : Stacks (Arc O)) (slots : List ℕ) (pairs : ℕ) : Type 0 where
  pub few : capacity states < 65536
  pub arcfew : capacity arcs < 131072
  pub slotroom : capacity states ≤ length slots
  pub laid : Laid (length (lows arcs)) (highs states)
  pub since : Since pairs (highs states)
  pub packed : Packed 0 (length (highs arcs)) (lows states)
  -- a slot holds the number of a closed state plus one, or 0
  pub known : (i : ℕ) → slice_index slots i ≤ length (lows states)
  -- so the register is never full
  pub used : used slots ≤ length (lows states)
  pub paired : pairs < 1048576

same_prop : (m n : ℕ) → IsProp (m ≡ n)
same_prop m n = Coded-set coded_ℕ m n

module _ {O : Type 0} where
  -- each has one proof at most, as what a type keeps must
  pub led_prop : (n : ℕ) (ss : List (State O)) → IsProp (Led n ss)
  led_prop n [] = same_prop n 0
  led_prop n (s ∷ ss) = λ a b. λ i. (same_prop (s.first + s.count) n a.0 b.0 i, le_prop a.1 b.1 i, led_prop s.first ss a.2 b.2 i)

  pub laid_prop : (n : ℕ) (ss : List (State O)) → IsProp (Laid n ss)
  laid_prop n [] = same_prop n 0
  laid_prop n (s ∷ ss) = ×_prop (same_prop (s.first + s.count) n) (led_prop s.first ss)

  pub since_prop : (p : ℕ) (ss : List (State O)) → IsProp (Since p ss)
  since_prop p [] = Unit-prop
  since_prop p (s ∷ ss) = ×_prop le_prop (since_prop p ss)

  pub packed_prop : (a n : ℕ) (ss : List (State O)) → IsProp (Packed a n ss)
  packed_prop a n [] = same_prop a n
  packed_prop a n (s ∷ ss) = ×_prop (same_prop s.first (a + s.count)) (packed_prop s.first n ss)

  pub sound_prop : (states : Stacks (State O)) (arcs : Stacks (Arc O)) (slots : List ℕ) (pairs : ℕ) → IsProp (Sound states arcs slots pairs)
  sound_prop states arcs slots pairs a b = λ i. record {
    few = le_prop a.few b.few i;
    arcfew = le_prop a.arcfew b.arcfew i;
    slotroom = le_prop a.slotroom b.slotroom i;
    laid = laid_prop (length (lows arcs)) (highs states) a.laid b.laid i;
    since = since_prop pairs (highs states) a.since b.since i;
    packed = packed_prop 0 (length (highs arcs)) (lows states) a.packed b.packed i;
    known = λ k. le_prop (a.known k) (b.known k) i;
    used = le_prop a.used b.used i;
    paired = le_prop a.paired b.paired i;
  }
