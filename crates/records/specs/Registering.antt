-- Which slots the closed states are entered in. Assumes nothing.
use Rattle.std.specs.Prelude.{ℕ, ◌+◌, ◌*◌, ◌/◌, ◌%◌, ◌^◌, ◌<◌, List, [], ◌∷◌, length, ◌≢◌, slice_index_or}
use Rattle.std.proofs.Math.Option.{Option, none, some}
use Rattle.machines.specs.Machines.{Arc as Edge, State as Node}
use Rattle.register.specs.Slots.{Entered}
use Rattle.records.specs.declared.memory.Core.{Core}
use Rattle.records.specs.Holding.{closed_states}

-- x stirred into what is gathered so far, in 64 bits
unfoldable pub stirred : ℕ → ℕ → ℕ
stirred h x = (h + x) % 2 ^ 64 * 11400714819323198485 % 2 ^ 64

module _ {I : Type 0} (digested : I → ℕ) where
  abbrev pub stirred_end : Option I → ℕ
  stirred_end none = 0
  stirred_end (some x) = stirred 1 (digested x)

  abbrev pub stirred_arcs : ℕ → List (Edge I) → ℕ
  stirred_arcs h [] = h
  stirred_arcs h (a ∷ as') = stirred_arcs (stirred (stirred h (a.byte * 65536 + a.target)) (digested a.output)) as'

  -- the slot from which a state is looked for, one of so many
  abbrev pub home : ℕ → Node I → ℕ
  home slots s = stirred_arcs (stirred_end s.end) s.arcs / 2 ^ 32 % slots

-- the state of a number, and one without end and arcs where there is none
abbrev pub state_at : {I : Type 0} → List (Node I) → ℕ → Node I
state_at states q = slice_index_or states q (record { end = none; arcs = [] })

-- Every state is entered from its home, and no two are equal: so the number of an equal state is found, and it is the only one.
pub record Register {I : Type 0} (digested : I → ℕ) (slots : List ℕ) (states : List (Node I)) : Type 0 where
  pub entered : (q : ℕ) → q < length states → Entered (home digested (length slots) (state_at states q)) slots q
  pub distinct : (p q : ℕ) → p < q → q < length states → state_at states p ≢ state_at states q

-- the slots of a memory are the register of its closed states
abbrev pub Registered : {O I : Type 0} → (I → ℕ) → (O → I) → Core O → Type 0
Registered digested mean c = Register digested c.slots.now (closed_states mean c)
