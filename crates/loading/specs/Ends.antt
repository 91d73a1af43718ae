-- The tests behind the last record, by what the working bytes hold. Assumes nothing.
use Rattle.std.specs.Prelude.{ℕ, zero, suc, ◌-◌, Bool, not, List, ◌==◌, nat_lt}
use Rattle.outputs.specs.Bits.{filling}
use Rattle.outputs.specs.Kinds.{Kind}
use Rattle.images.specs.Steps.{Reader, ◌>>=◌, ◌>>◌, gives, place, refuse, field}
use Rattle.images.specs.Loads.{Head, record_place, keys_at}
use Rattle.loading.specs.Working.{length_in, marked_in}

-- every one of n states from q on is marked
unfoldable pub all_marked : (k : Kind) → List Bool → ℕ → List ℕ → ℕ → ℕ → Reader (Unit {0})
all_marked k all index working q zero = gives tt
all_marked k all index working q (suc n) = do
  refuse 25 (record_place k all index q) (not (marked_in working q))
  all_marked k all index working (suc q) n

-- the bits that fill the last byte are zero
abbrev pub filled : List Bool → Reader (Unit {0})
filled all = do
  used ← place
  rest ← field all (filling used)
  refuse 26 used (not (rest == 0))

-- what is tested behind the last record, for a head and the arcs that were counted
abbrev pub ending : {A : Type 0} (k : Kind) → List Bool → Head A → ℕ → List ℕ → Reader (Unit {0})
ending k all front count working = do
  refuse 24 front.keys_place (not (front.keys == keys_at k all front.index (front.states - 1)))
  refuse 24 front.arcs_place (not (front.arcs == count))
  all_marked k all front.index working 0 (front.states - 1)
  refuse 25 (record_place k all front.index (front.states - 1)) (nat_lt 64 (length_in working (front.states - 1)))
  filled all
