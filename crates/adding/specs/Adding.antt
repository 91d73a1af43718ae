-- What a builder's memory is between two adds, and what an add makes of it. Assumes nothing.
use Rattle.std.specs.Prelude.{◌≡◌, ℕ, Ok, Err, Result}
use Rattle.stacks.specs.Stacks.{capacity}
use Rattle.outputs.specs.Kinds.{Kind}
use Rattle.machines.specs.Keys.{Key, common_length}
use Rattle.construction.specs.Records.{newest_key}
use Rattle.construction.specs.Building.{add}
use Rattle.construction.specs.Theorems.{AddStorable}
use Rattle.records.specs.declared.memory.Core.{Core}
use Rattle.records.specs.Shape.{openings}
use Rattle.records.specs.Holding.{held}
use Rattle.records.specs.Registering.{Registered}
use Rattle.adding.specs.declared.refusal.AddRefusal.{AddRefusal}
use Rattle.adding.specs.Admission.{Admitted, Admits}

-- nothing is open only before the first pair
pub record Ready {O : Type 0} (c : Core O) : Type 0 where
  pub first : openings c ≡ 0 → c.pairs ≡ 0

-- both lists have the room that they had
pub record SameRooms {O : Type 0} (before after : Core O) : Type 0 where
  pub states : capacity after.states ≡ capacity before.states
  pub arcs : capacity after.arcs ≡ capacity before.arcs

module _ (k : Kind) (digested : k.Ideal → ℕ) {O : Type 0} (mean : O → k.Ideal) (key : Key) (x : k.Ideal) (before after : Core O) where
  -- the pair is taken as the construction takes it, where the slots are the register of the closed states and all joins are storable
  pub record Takes : Type 0 where
    pub admitted : Admitted (capacity before.states) (capacity before.arcs) (held mean before) key (common_length key (newest_key (held mean before).open'))
    pub registered : Registered digested mean before → Registered digested mean after
    pub holds : Registered digested mean before → AddStorable k (held mean before) key x → held mean after ≡ add k (held mean before) key x

  -- a pair is taken, or refused for the first reason that applies, and then nothing is changed
  abbrev pub Adds : Result (Unit {0}) AddRefusal → Type 0
  Adds (Ok u) = Takes
  Adds (Err e) = Admits (capacity before.states) (capacity before.arcs) (held mean before) key (Err e) × (after ≡ before)
