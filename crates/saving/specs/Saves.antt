-- What save does to a store, and for which pairs. Assumes nothing.
use Rattle.std.specs.Prelude.{◌≡◌, ℕ, ◌+◌, ◌<◌, ◌≤◌, List, ◌++◌, length, Ok, Err, Result}
use Rattle.outputs.specs.Kinds.{Kind}
use Rattle.machines.specs.Pairs.{Pairs}
use Rattle.machines.specs.Minimal.{minimal, key_counts}
use Rattle.saving.specs.declared.refusal.SaveRefusal.{SaveRefusal}
use Rattle.saving.specs.declared.refusal.SaveRefusal.TheVariants.{NoPairs, NoRoom}
use Rattle.saving.specs.declared.rows.Rows.{Rows}
use Rattle.saving.specs.declared.storing.Saved.{Saved}
use Rattle.saving.specs.Standing.{machine_of, counts_of}

-- The image of so many pairs joins the end of a store and its place and length are told; or there is no pair, or else no room, and nothing changes.
abbrev pub Saves : {X : Type 0} → (X → List ℕ) → (X → ℕ) → List ℕ → ℕ → X → X → Result Saved SaveRefusal → Type 0
Saves bytes room image pairs store store' (Ok saved) =
    (0 < pairs) × (length (bytes store) + length image ≤ room store)
    × (bytes store' ≡ bytes store ++ image) × (saved.place ≡ length (bytes store)) × (saved.length ≡ length image)
Saves bytes room image pairs store store' (Err NoPairs) = (pairs ≡ 0) × (store' ≡ store)
Saves bytes room image pairs store store' (Err NoRoom) = (0 < pairs) × (room store < length (bytes store) + length image) × (store' ≡ store)

-- The rows stand for some pairs.
pub record StandsFor (k : Kind) {O : Type 0} (mean : O → k.Ideal) (P : Pairs k.Ideal) (rows : Rows O) : Type 0 where
  pub machine : machine_of k mean rows ≡ minimal k P
  pub counts : counts_of rows ≡ key_counts k P
  pub pairs : rows.keys ≡ length P
