-- What stands where the index says. Assumes nothing.
use Rattle.std.specs.Prelude.{ℕ, ◌+◌, ◌<◌, ◌≤◌, Bool, List, length}
use Rattle.outputs.specs.Kinds.{Kind}
use Rattle.images.specs.Loads.{entry_place, record_place}

-- the index entry of state q and the key count of its record lie within the bits
pub record There (k : Kind) (all : List Bool) (index q : ℕ) : Type 0 where
  pub entry : entry_place k all index q + 32 ≤ length all
  pub keys : record_place k all index q + 30 ≤ length all

-- those of every state below n do
abbrev pub AllThere : (k : Kind) → List Bool → ℕ → ℕ → Type 0
AllThere k all index n = (t : ℕ) → t < n → There k all index t
