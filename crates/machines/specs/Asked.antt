-- What the reading calls answer of a machine: find, so far, rank and who. Assumes nothing.
use Rattle.std.specs.Prelude.{◌≡◌, ℕ, ◌+◌, true, false, List, [], ◌∷◌, ◌≢◌, nat_lt, slice_index_or}
use Rattle.std.proofs.Math.Option.{Option, none, some}
use Rattle.outputs.specs.Bits.{bit}
use Rattle.outputs.specs.Kinds.{Kind}
use Rattle.machines.specs.Keys.{Key, lower}
use Rattle.machines.specs.Machines.{Arc, State, Machine, arc_at, end_at, end_flag, answer}
use Rattle.machines.specs.Lists.{at}
use Rattle.machines.specs.Pairs.{Pairs, output_of, KeyPrefix}
use Rattle.machines.specs.Residuals.{greatest_common}
use Rattle.machines.specs.Minimal.{minimal, key_counts}

-- An output; or absent; or that a join on the way is not storable, which is refusal 27.
pub data Told (A : Type 0) : Type 0 where
  gives : A → Told A
  absent : Told A
  unstorable : Told A

-- an output that is there, or absent
abbrev pub tell : {A : Type 0} → Option A → Told A
tell none = absent
tell (some x) = gives x

-- goes on with what was told, if it was an output
abbrev pub and_tell : {A B : Type 0} → Told A → (A → Told B) → Told B
and_tell (gives x) f = f x
and_tell absent f = absent
and_tell unstorable f = unstorable

-- the keys accepted behind the arcs on bytes below a, by the key counts of the states
abbrev pub keys_below : {A : Type 0} → List ℕ → ℕ → List (Arc A) → ℕ
keys_below counts a [] = 0
keys_below counts a (arc ∷ arcs) = elim (nat_lt arc.byte a) [ true ↦ slice_index_or counts arc.target 0 | false ↦ 0 ] + keys_below counts a arcs

-- the arcs of a state, if it is there
abbrev pub arcs_at : {A : Type 0} → Option (State A) → List (Arc A)
arcs_at none = []
arcs_at (some s) = s.arcs

-- the number of lower keys, if the string is a key: n, the ends passed on the way, and the keys behind lower arcs
abbrev pub rank_from : {A : Type 0} → List (State A) → List ℕ → ℕ → ℕ → Key → Option ℕ
rank_from states counts q n [] = elim (end_at (at states q)) [ none ↦ none | some x ↦ some n ]
rank_from states counts q n (a ∷ w) = elim (arc_at (at states q) a) [
  | none ↦ none
  | some arc ↦ rank_from states counts arc.target (n + end_flag (end_at (at states q)) + keys_below counts a (arcs_at (at states q))) w
]

-- rank, of a machine and the key counts of its states
unfoldable pub rank : {A : Type 0} → Machine A → List ℕ → Key → Option ℕ
rank m counts w = rank_from m.states counts m.start 0 w

-- the pairs with a lower key, counted
abbrev pub lower_keys : {A : Type 0} → Pairs A → Key → ℕ
lower_keys [] w = 0
lower_keys (p ∷ P) w = bit (lower p.0 w) + lower_keys P w

-- the number of lower keys, for a key
abbrev pub rank_of : {A : Type 0} → Pairs A → Key → Option ℕ
rank_of P w = elim (output_of P w) [ none ↦ none | some z ↦ some (lower_keys P w) ]

module _ (k : Kind) where
  -- x joined to y, if that is storable
  abbrev pub joined : k.Ideal → k.Ideal → Told k.Ideal
  joined x y = elim (k.storable (k.join x y)) [ true ↦ gives (k.join x y) | false ↦ unstorable ]

  -- the state and the output so far along a string, from state q with x put out
  abbrev pub walk_from : List (State k.Ideal) → ℕ → k.Ideal → Key → Told (ℕ × k.Ideal)
  walk_from states q x [] = gives (q, x)
  walk_from states q x (a ∷ w) = elim (arc_at (at states q) a) [
    | none ↦ absent
    | some arc ↦ and_tell (joined x arc.output) (λ y. walk_from states arc.target y w)
  ]

  -- the same from the start
  abbrev pub walk : Machine k.Ideal → Key → Told (ℕ × k.Ideal)
  walk m w = walk_from m.states m.start m.start_output w

  -- x joined to the end output of state q, if it has one
  abbrev pub end_tell : List (State k.Ideal) → ℕ → k.Ideal → Told k.Ideal
  end_tell states q x = elim (end_at (at states q)) [ none ↦ absent | some y ↦ joined x y ]

  -- the start output joined to the outputs along a string
  unfoldable pub so_far : Machine k.Ideal → Key → Told k.Ideal
  so_far m w = and_tell (walk m w) (λ s. gives s.1)

  -- the output of a string
  unfoldable pub find : Machine k.Ideal → Key → Told k.Ideal
  find m w = and_tell (walk m w) (λ s. end_tell m.states s.0 s.1)

  -- what who may answer for an output: a string with that answer, or absent if there is none
  abbrev pub Who : Machine k.Ideal → k.Ideal → Option Key → Type 0
  Who m x none = (w : Key) → answer k m w ≢ some x
  Who m x (some w) = answer k m w ≡ some x

-- What the reading calls answer of the minimal machine: refusal 27 never comes.
pub record RightReadings (k : Kind) (P : Pairs k.Ideal) : Type 0 where
  pub finds : (w : Key) → find k (minimal k P) w ≡ tell (output_of P w)
  pub reaches : (u : Key) → KeyPrefix P u → so_far k (minimal k P) u ≡ gives (greatest_common k P u)
  pub nowhere : (u : Key) → (KeyPrefix P u → ⊥) → so_far k (minimal k P) u ≡ absent
  pub ranks : (w : Key) → rank (minimal k P) (key_counts k P) w ≡ rank_of P w
  pub names : (x : k.Ideal) (w : Key) → Who k (minimal k P) x (some w) → output_of P w ≡ some x
  pub unnamed : (x : k.Ideal) → Who k (minimal k P) x none → (w : Key) → output_of P w ≢ some x
