-- The newest key by its bytes, and whether a key is above it. Assumes nothing.
use Rattle.std.proofs.Common.{◌≡◌, ℕ, zero, suc, ◌+◌, ◌-◌, ◌<◌, true, List, [], ◌∷◌, length, get_or, refl, arith}
use Rattle.construction.specs.Records.{Open, last_byte, newest_key}
use Rattle.machines.specs.Keys.{Key, lower}
use Rattle.pushing.specs.Changes.{arcs_at}
use Rattle.adding.specs.Admission.{above}

module _ {A : Type 0} where
  pub newest_length : (os : List (Open A)) → length (newest_key os) ≡ length os - 1
  newest_length [] = refl
  newest_length (o ∷ []) = refl
  newest_length (o ∷ n ∷ os) = omega (arith, newest_length (n ∷ os))

  pub newest_byte : (os : List (Open A)) (i : ℕ) → i + 1 < length os → last_byte (arcs_at i os) ≡ get_or (newest_key os) i 0
  newest_byte [] i h = absurd (omega arith)
  newest_byte (o ∷ []) i h = absurd (omega arith)
  newest_byte (o ∷ n ∷ os) zero h = refl
  newest_byte (o ∷ n ∷ os) (suc i) h = newest_byte (n ∷ os) i (omega arith)

  pub above_none : (os : List (Open A)) (key : Key) → length os ≡ 0 → above os key ≡ true
  above_none [] key h = refl
  above_none (o ∷ os) key h = absurd (omega arith)

  pub above_newest : (os : List (Open A)) (key : Key) → 0 < length os → above os key ≡ lower (newest_key os) key
  above_newest [] key h = absurd (omega arith)
  above_newest (o ∷ os) key h = refl
