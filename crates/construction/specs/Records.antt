-- What a builder holds while pairs come in: closed states, open records, and how records are compared. Assumes nothing.
use Rattle.std.specs.Prelude.{ℕ, suc, ◌+◌, Bool, true, false, ◌&&◌, List, [], ◌∷◌, length, ◌==◌}
use Rattle.std.proofs.Math.Option.{Option, none, some}
use Rattle.outputs.specs.Kinds.{Kind, same}
use Rattle.machines.specs.Machines.{Arc, State}

-- The record of an open prefix: its end output, its arcs by ascending byte, and how many pairs were taken before it was opened. The last arc of every record but the newest leads to the next one, and has no target yet.
pub record Open (A : Type 0) : Type 0 where
  pub end : Option A
  pub arcs : List (Arc A)
  pub since : ℕ

-- The closed states by number, and the number of keys accepted from each.
pub record Closed (A : Type 0) : Type 0 where
  pub states : List (State A)
  pub counts : List ℕ

-- All that a builder holds: the closed states, the open records from that of the empty prefix to that of the newest key, the start output, and the number of pairs taken. Before the first pair nothing is open.
pub record Held (A : Type 0) : Type 0 where
  pub closed : Closed A
  pub open' : List (Open A)
  pub start : A
  pub pairs : ℕ

-- the state that an open record is to become
abbrev pub state_of : {A : Type 0} → Open A → State A
state_of o = record { end = o.end; arcs = o.arcs }

-- a record without end and arcs, opened after so many pairs
abbrev pub blank : {A : Type 0} → ℕ → Open A
blank pairs = record { end = none; arcs = []; since = pairs }

-- the byte of the last arc, which leads to the next open record
abbrev pub last_byte : {A : Type 0} → List (Arc A) → ℕ
last_byte [] = 0
last_byte (arc ∷ []) = arc.byte
last_byte (arc ∷ next ∷ arcs) = last_byte (next ∷ arcs)

-- the newest key, read off the arcs that lead on
abbrev pub newest_key : {A : Type 0} → List (Open A) → List ℕ
newest_key [] = []
newest_key (o ∷ []) = []
newest_key (o ∷ next ∷ more) = last_byte o.arcs ∷ newest_key (next ∷ more)

-- the arcs of all open records, counted
abbrev pub open_arcs : {A : Type 0} → List (Open A) → ℕ
open_arcs [] = 0
open_arcs (o ∷ os) = length o.arcs + open_arcs os

module _ (k : Kind) where
  abbrev pub same_end : Option k.Ideal → Option k.Ideal → Bool
  same_end none none = true
  same_end none (some y) = false
  same_end (some x) none = false
  same_end (some x) (some y) = same k x y

  abbrev pub same_arcs : List (Arc k.Ideal) → List (Arc k.Ideal) → Bool
  same_arcs [] [] = true
  same_arcs [] (b ∷ bs) = false
  same_arcs (a ∷ as') [] = false
  same_arcs (a ∷ as') (b ∷ bs) = a.byte == b.byte && a.target == b.target && same k a.output b.output && same_arcs as' bs

  abbrev pub same_state : State k.Ideal → State k.Ideal → Bool
  same_state s t = same_end s.end t.end && same_arcs s.arcs t.arcs

  -- the number of the first state that is equal to s, counted from q
  abbrev pub number_from : ℕ → State k.Ideal → List (State k.Ideal) → Option ℕ
  number_from q s [] = none
  number_from q s (t ∷ ts) = elim (same_state s t) [ true ↦ some q | false ↦ number_from (suc q) s ts ]

  -- the number of the closed state that is equal to s
  abbrev pub number_of : State k.Ideal → List (State k.Ideal) → Option ℕ
  number_of s ts = number_from 0 s ts
