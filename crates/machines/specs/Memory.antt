-- What a builder holds in its memory, and which adds it refuses. Assumes nothing.
use Rattle.std.specs.Prelude.{ℕ, ◌+◌, ◌-◌, Bool, true, false, not, ◌&&◌, List, [], ◌∷◌, length, nat_le, nat_lt}
use Rattle.std.proofs.Math.Option.{Option, none, some}
use Rattle.outputs.specs.Kinds.{Kind}
use Rattle.machines.specs.Keys.{Key, is_prefix, lower, common_length, prefixes}
use Rattle.machines.specs.Pairs.{Pairs, under, key_prefixes, first_bytes}
use Rattle.machines.specs.Residuals.{firsts_after}

-- of tests in turn, each with the number of its refusal, the number of the first that finds fault
abbrev pub first_fault : List (Bool × ℕ) → Option ℕ
first_fault [] = none
first_fault (t ∷ more) = elim t.0 [ true ↦ some t.1 | false ↦ first_fault more ]

-- the first refusal of a memory for so many states, arcs and register slots
unfoldable pub memory_refusal : ℕ → ℕ → ℕ → Option ℕ
memory_refusal states arcs slots =
    first_fault (
    (not (nat_le 1 states && nat_le states 65535), 2)
    ∷ (not (nat_le 1 arcs && nat_le arcs 131071), 3)
    ∷ (nat_lt slots states, 4)
    ∷ [])

-- the states that a builder made in such a memory may hold: none if it is refused
unfoldable pub usable : ℕ → ℕ → ℕ → ℕ
usable states arcs slots = elim (memory_refusal states arcs slots) [ none ↦ states | some n ↦ 0 ]

-- the key of the pair taken last
abbrev pub newest : {A : Type 0} → Pairs A → Option Key
newest [] = none
newest (p ∷ []) = some p.0
newest (p ∷ q ∷ P) = newest (q ∷ P)

-- those that are no prefixes of a key
abbrev pub no_prefixes_of : Key → List Key → List Key
no_prefixes_of key [] = []
no_prefixes_of key (u ∷ us) = elim (is_prefix u key) [ true ↦ no_prefixes_of key us | false ↦ u ∷ no_prefixes_of key us ]

-- the prefixes of the newest key are open: a later key may change them. Before the first pair the empty one is.
abbrev pub open_prefixes : {A : Type 0} → Pairs A → List Key
open_prefixes P = elim (newest P) [ none ↦ [] ∷ [] | some key ↦ prefixes key ]

-- all others are closed
abbrev pub closed_prefixes : {A : Type 0} → Pairs A → List Key
closed_prefixes P = elim (newest P) [ none ↦ [] | some key ↦ no_prefixes_of key (key_prefixes P) ]

-- the different next bytes of some prefixes, added up
abbrev pub next_bytes : {A : Type 0} → Pairs A → List Key → ℕ
next_bytes P [] = 0
next_bytes P (u ∷ us) = length (first_bytes (under P u)) + next_bytes P us

-- how many prefixes a key adds to those that are open and stay so
abbrev pub growth : {A : Type 0} → Pairs A → Key → ℕ
growth P key = length key - elim (newest P) [ none ↦ 0 | some last ↦ common_length key last ]

-- a key that is not above the newest
abbrev pub not_above : {A : Type 0} → Pairs A → Key → Bool
not_above P key = elim (newest P) [ none ↦ false | some last ↦ not (lower last key) ]

module _ (k : Kind) where
  -- the first closed prefix of each class
  abbrev pub held_classes : Pairs k.Ideal → List Key
  held_classes P = firsts_after k P [] (closed_prefixes P)

  -- one state for each class of closed prefixes, and one for each open prefix
  abbrev pub held_states : Pairs k.Ideal → ℕ
  held_states P = length (held_classes P) + length (open_prefixes P)

  -- the arcs of those classes, and the different next bytes of each open prefix
  abbrev pub held_arcs : Pairs k.Ideal → ℕ
  held_arcs P = next_bytes P (held_classes P) + next_bytes P (open_prefixes P)

  -- the first refusal that applies to a key after the pairs P, with room for so many states and arcs; none if the key is taken
  unfoldable pub refusal : ℕ → ℕ → Pairs k.Ideal → Key → Option ℕ
  refusal states arcs P key =
      first_fault (
      (nat_lt 64 (length key), 5)
      ∷ (not_above P key, 6)
      ∷ (nat_le 1048575 (length P), 7)
      ∷ (nat_lt states (held_states P + growth P key), 8)
      ∷ (nat_lt arcs (held_arcs P + growth P key), 9)
      ∷ [])
