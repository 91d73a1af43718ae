-- What is saved of rows that stand for some pairs is the image of the pairs; and the rows of a builder that is sealed stand for its pairs, if its machine is theirs. Assumes nothing.
use Rattle.std.proofs.Common.{◌≡◌, ℕ, ◌-◌, List, length, Result, sym, ap, ◌∙◌, subst, ap₂}
use Rattle.outputs.specs.Kinds.{Kind}
use Rattle.machines.specs.Pairs.{Pairs}
use Rattle.machines.specs.Minimal.{minimal, key_counts}
use Rattle.images.specs.Images.{image, image_of}
use Rattle.construction.specs.Records.{Closed, Held}
use Rattle.construction.specs.Building.{sealed_states, sealed}
use Rattle.saving.specs.declared.refusal.SaveRefusal.{SaveRefusal}
use Rattle.saving.specs.declared.rows.Rows.{Rows}
use Rattle.saving.specs.declared.storing.Saved.{Saved}
use Rattle.saving.specs.Standing.{states_of, machine_of, counts_of}
use Rattle.saving.specs.Saves.{Saves, StandsFor}

module _ {X : Type 0} (bytes : X → List ℕ) (room : X → ℕ) (k : Kind) {O : Type 0} (mean : O → k.Ideal) (rows : Rows O) where
  pub saves_pairs : (store store' : X) (r : Result Saved SaveRefusal) →
      Saves bytes room (image_of k (machine_of k mean rows) (counts_of rows) rows.keys) rows.keys store store' r →
      (P : Pairs k.Ideal) → StandsFor k mean P rows → Saves bytes room (image k P) (length P) store store' r
  saves_pairs store store' r saves P stands =
      let same : image_of k (machine_of k mean rows) (counts_of rows) rows.keys ≡ image k P =
      ap₂ (λ m ns. image_of k m ns rows.keys) stands.machine stands.counts ∙ ap₂ (λ m n. image_of k m (key_counts k P) n) (λ i. minimal k P) stands.pairs in
      subst (λ n. Saves bytes room (image k P) n store store' r) stands.pairs
      (subst (λ bs. Saves bytes room bs rows.keys store store' r) same saves)

module _ (k : Kind) {O : Type 0} (mean : O → k.Ideal) (rows : Rows O) where
  pub sealed_stands : (held : Held k.Ideal) (P : Pairs k.Ideal) →
      sealed_states k held ≡ record { states = states_of k mean rows; counts = counts_of rows } → mean rows.start ≡ held.start → rows.keys ≡ length P →
      sealed k held ≡ minimal k P → (sealed_states k held).counts ≡ key_counts k P → StandsFor k mean P rows
  sealed_stands held P closed start pairs machine counts =
      let same : machine_of k mean rows ≡ sealed k held = λ i. record { start = length (sym closed i).states - 1; start_output = start i; states = (sym closed i).states } in
      record {
        machine = same ∙ machine;
        counts = sym (ap (λ (c : Closed k.Ideal). c.counts) closed) ∙ counts;
        pairs = pairs;
      }
