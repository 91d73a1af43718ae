-- What holds of the incremental construction: of its steps, of what is held after some pairs, and of the machine that is sealed. Assumes nothing.
use Rattle.std.specs.Prelude.{◌≡◌, ℕ, suc, ◌+◌, ◌<◌, ◌≤◌, max, true, false, List, [], ◌∷◌, ◌++◌, length}
use Rattle.std.proofs.Math.Option.{Option, none, some}
use Rattle.outputs.specs.Kinds.{Kind, same}
use Rattle.machines.specs.Lists.{at, Each}
use Rattle.machines.specs.Keys.{Key, common_length}
use Rattle.machines.specs.Machines.{Arc, State, count_arcs}
use Rattle.machines.specs.Pairs.{Pairs}
use Rattle.machines.specs.Minimal.{minimal, key_counts}
use Rattle.machines.specs.Memory.{newest, held_states, held_arcs}
use Rattle.machines.specs.Numbering.{Rising}
use Rattle.machines.specs.Storing.{StateStorable}
use Rattle.construction.specs.Records.{Open, Closed, Held, state_of, newest_key, open_arcs, same_state}
use Rattle.construction.specs.Steps.{enter, settle, push, last_output}
use Rattle.construction.specs.Building.{close_beyond, add, held_after, sealed, sealed_states}

-- The arcs of a record: by rising bytes, so at most 256.
pub record ArcsSound {A : Type 0} (arcs : List (Arc A)) : Type 0 where
  pub rising : Rising arcs
  pub bytes : Each (λ arc. arc.byte < 256) arcs
  pub few : length arcs ≤ 256

-- every arc but the last leads to a state below n
abbrev pub OthersBelow : {A : Type 0} → ℕ → List (Arc A) → Type 0
OthersBelow n [] = Unit {0}
OthersBelow n (arc ∷ []) = Unit {0}
OthersBelow n (arc ∷ next ∷ arcs) = (arc.target < n) × OthersBelow n (next ∷ arcs)

-- each open record but the newest has an arc, of which the last leads on; every other arc leads to a state below n
abbrev pub OpenBelow : {A : Type 0} → ℕ → List (Open A) → Type 0
OpenBelow n [] = Unit {0}
OpenBelow n (o ∷ []) = Each (λ arc. arc.target < n) o.arcs
OpenBelow n (o ∷ next ∷ more) = (0 < length o.arcs) × OthersBelow n o.arcs × OpenBelow n (next ∷ more)

module _ (k : Kind) where
  abbrev pub OpenStorable : Open k.Ideal → Type 0
  OpenStorable o = StateStorable k (state_of o)

  -- no two states are equal
  abbrev pub Different : List (State k.Ideal) → Type 0
  Different [] = Unit {0}
  Different (s ∷ ss) = Each (λ t. same_state k s t ≡ false) ss × Different ss

  -- What holds of closed states at all times: no two are equal, their outputs are storable, and each has its number of keys.
  pub record ClosedSound (closed : Closed k.Ideal) : Type 0 where
    pub different : Different closed.states
    pub storable : Each (StateStorable k) closed.states
    pub counted : length closed.counts ≡ length closed.states

  -- x can be put in front of an end output, if there is one
  abbrev pub JoinsEnd : k.Ideal → Option k.Ideal → Type 0
  JoinsEnd x none = Unit {0}
  JoinsEnd x (some y) = k.storable (k.join x y) ≡ true

  -- x can be put in front of all that follows a record
  abbrev pub Joins : k.Ideal → Open k.Ideal → Type 0
  Joins x o = JoinsEnd x o.end × Each (λ arc. k.storable (k.join x arc.output) ≡ true) o.arcs

  -- every join that is made where outputs are pushed along some records is storable
  abbrev pub PushStorable : k.Ideal → k.Ideal → Open k.Ideal → List (Open k.Ideal) → Type 0
  PushStorable carry left o [] = Joins carry o
  PushStorable carry left o (next ∷ more) =
      let whole : k.Ideal = last_output k (push k carry o).arcs in
      let shared : k.Ideal = k.common whole left in
      Joins carry o × PushStorable (k.rest shared whole) (k.rest shared left) next more

  abbrev pub AlongStorable : k.Ideal → k.Ideal → List (Open k.Ideal) → Type 0
  AlongStorable carry left [] = Unit {0}
  AlongStorable carry left (o ∷ more) = PushStorable carry left o more

  -- every join that is made where a pair is added is storable
  abbrev pub AddStorable : Held k.Ideal → Key → k.Ideal → Type 0
  AddStorable held key output = elim held.open' [
    | [] ↦ Unit {0}
    | o ∷ more ↦
        let kept : Closed k.Ideal × List (Open k.Ideal) = close_beyond k held.pairs held.closed (common_length key (newest_key (o ∷ more))) o more in
        let shared : k.Ideal = k.common held.start output in
        AlongStorable (k.rest shared held.start) (k.rest shared output) kept.1
  ]

  -- Storable outputs and states compare as equal exactly if they are.
  pub record ComparingRight : Type 0 where
    pub output_self : (x : k.Ideal) → same k x x ≡ true
    pub output_equal : (x y : k.Ideal) → k.storable x ≡ true → k.storable y ≡ true → same k x y ≡ true → x ≡ y
    pub state_self : (s : State k.Ideal) → same_state k s s ≡ true
    pub state_equal : (s t : State k.Ideal) → StateStorable k s → StateStorable k t → same_state k s t ≡ true → s ≡ t

  -- Closing storable records keeps the closed states sound.
  pub record ClosingSound : Type 0 where
    pub enters : (pairs : ℕ) (closed : Closed k.Ideal) (o : Open k.Ideal) → ClosedSound closed → OpenStorable o → ClosedSound (enter k pairs closed o).1
    pub settles : (pairs : ℕ) (closed : Closed k.Ideal) (o : Open k.Ideal) (more : List (Open k.Ideal)) → ClosedSound closed → OpenStorable o → Each OpenStorable more
        → ClosedSound (settle k pairs closed o more).0 × OpenStorable (settle k pairs closed o more).1
    pub closes : (pairs : ℕ) (closed : Closed k.Ideal) (depth : ℕ) (o : Open k.Ideal) (more : List (Open k.Ideal)) → ClosedSound closed → OpenStorable o → Each OpenStorable more
        → ClosedSound (close_beyond k pairs closed depth o more).0 × Each OpenStorable (close_beyond k pairs closed depth o more).1

  -- What holds of all that is held.
  pub record HeldSound (held : Held k.Ideal) : Type 0 where
    pub start_storable : k.storable held.start ≡ true
    pub closed : ClosedSound held.closed
    pub open_storable : Each OpenStorable held.open'
    pub closed_arcs : Each (λ s. ArcsSound s.arcs) held.closed.states
    pub open_arcs : Each (λ o. ArcsSound o.arcs) held.open'
    -- an arc of a closed state leads to a lower one, and one of an open record to a closed state, unless it leads on
    pub closed_below : (i : ℕ) (s : State k.Ideal) → at held.closed.states i ≡ some s → Each (λ arc. arc.target < i) s.arcs
    pub open_below : OpenBelow (length held.closed.states) held.open'
    pub since : Each (λ o. o.since ≤ held.pairs) held.open'

-- What is held after some pairs is as much as they need.
pub record HeldExact (k : Kind) (P : Pairs k.Ideal) : Type 0 where
  pub pairs : (held_after k P).pairs ≡ length P
  pub newest_read : 0 < length P → newest P ≡ some (newest_key (held_after k P).open')
  pub depth : 0 < length P → length (held_after k P).open' ≡ suc (length (newest_key (held_after k P).open'))
  pub states : length (held_after k P).closed.states + max 1 (length (held_after k P).open') ≡ held_states k P
  pub arcs : count_arcs (held_after k P).closed.states + open_arcs (held_after k P).open' ≡ held_arcs k P
  -- and one pair more is added to it
  pub one_more : (key : Key) (output : k.Ideal) → held_after k (P ++ ((key, output) ∷ [])) ≡ add k (held_after k P) key output

-- What is sealed is the minimal machine, with its key counts.
pub record SealedMinimal (k : Kind) (P : Pairs k.Ideal) : Type 0 where
  pub machine : sealed k (held_after k P) ≡ minimal k P
  pub counts : (sealed_states k (held_after k P)).counts ≡ key_counts k P
