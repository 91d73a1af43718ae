-- Which keys a builder takes, by what it holds and the room it has. Assumes nothing.
use Rattle.std.specs.Prelude.{◌≡◌, ℕ, ◌+◌, ◌-◌, ◌<◌, ◌≤◌, max, Bool, true, false, List, [], ◌∷◌, length, Ok, Err, Result}
use Rattle.machines.specs.Keys.{Key, lower, common_length}
use Rattle.machines.specs.Machines.{count_arcs}
use Rattle.construction.specs.Records.{Open, Held, newest_key, open_arcs}
use Rattle.adding.specs.declared.refusal.AddRefusal.{AddRefusal}
use Rattle.adding.specs.declared.refusal.AddRefusal.TheVariants.{LongKey, OutOfOrder, TooManyPairs, NoStateRoom, NoArcRoom}

-- a key is above the newest one, if there is one
abbrev pub above : {I : Type 0} → List (Open I) → Key → Bool
above [] key = true
above (o ∷ os) key = lower (newest_key (o ∷ os)) key

-- the states that are held: before the first pair there is room kept for the first record
abbrev pub states_held : {I : Type 0} → Held I → ℕ
states_held h = length h.closed.states + max 1 (length h.open')

-- the arcs that are held
abbrev pub arcs_held : {I : Type 0} → Held I → ℕ
arcs_held h = count_arcs h.closed.states + open_arcs h.open'

-- how many records and arcs a key adds
abbrev pub added : {I : Type 0} → Held I → Key → ℕ
added h key = length key - common_length key (newest_key h.open')

module _ {I : Type 0} (states arcs : ℕ) (h : Held I) (key : Key) where
  -- a key is taken, with room for so many states and arcs: the length of the prefix that it shares with the newest key
  pub record Admitted (depth : ℕ) : Type 0 where
    pub short : length key ≤ 64
    pub above : above h.open' key ≡ true
    pub few : h.pairs < 1048575
    pub stateroom : states_held h + added h key ≤ states
    pub arcroom : arcs_held h + added h key ≤ arcs
    pub shared : depth ≡ common_length key (newest_key h.open')

  -- what is true where a key is taken, and for each refusal that it is the first to apply
  abbrev pub Admits : Result ℕ AddRefusal → Type 0
  Admits (Ok depth) = Admitted depth
  Admits (Err LongKey) = 64 < length key
  Admits (Err OutOfOrder) = (length key ≤ 64) × (above h.open' key ≡ false)
  Admits (Err TooManyPairs) = (length key ≤ 64) × (above h.open' key ≡ true) × (1048575 ≤ h.pairs)
  Admits (Err NoStateRoom) = (length key ≤ 64) × (above h.open' key ≡ true) × (h.pairs < 1048575) × (states < states_held h + added h key)
  Admits (Err NoArcRoom) = (length key ≤ 64) × (above h.open' key ≡ true) × (h.pairs < 1048575) × (states_held h + added h key ≤ states) × (arcs < arcs_held h + added h key)
