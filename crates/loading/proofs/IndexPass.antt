-- The loop over the index beside its definition. Assumes nothing.
use Rattle.std.proofs.Common.{◌≡◌, ℕ, suc, ◌+◌, ◌-◌, ◌<◌, Bool, List, Ok, Err, ap, ◌∙◌, arith}
use Rattle.outputs.specs.Kinds.{Kind}
use Rattle.images.specs.Steps.{reads, refuses, field}
use Rattle.images.specs.Loads.{entries}
use Rattle.images.proofs.Standing.{then_reads, then_none}
use Rattle.loading.specs.declared.refusal.LoadRefusal.{LoadRefusal}
use Rattle.loading.specs.Refusals.{reported}
use Rattle.loading.specs.Answers.{Answers}
use Rattle.loading.proofs.Walking.{has_read, has_refused}

module _ (k : Kind) (all : List Bool) (n index i p : ℕ) (ahead : entries k all n index ≡ entries k all (n - i) p) where
  -- the entry at p is read
  pub entries_more : (y : ℕ × ℕ) → i < n → Answers {X = ℕ} {Y = ℕ} (λ v x. v ≡ x) (field all 32 p) (Ok y) → entries k all n index ≡ entries k all (n - (i + 1)) y.1
  unfolding entries
  entries_more y l h =
      let e : n - i ≡ suc (n - (i + 1)) = omega arith in
      let f = has_read (λ (v x : ℕ). v ≡ x) (field all 32 p) y h in
      ahead ∙ ap (λ (m : ℕ). entries k all m p) e ∙ then_reads (field all 32) (λ x. entries k all (n - (i + 1))) p y.1 f.0 f.1.0

  -- the entry at p is refused
  pub entries_stop : (d : LoadRefusal) → i < n → Answers {X = ℕ} {Y = ℕ} (λ v x. v ≡ x) (field all 32 p) (Err d) → entries k all n index ≡ refuses (reported d)
  unfolding entries
  entries_stop d l h =
      let e : n - i ≡ suc (n - (i + 1)) = omega arith in
      ahead ∙ ap (λ (m : ℕ). entries k all m p) e ∙ then_none (field all 32) (λ x. entries k all (n - (i + 1))) p (reported d) (has_refused (λ (v x : ℕ). v ≡ x) (field all 32 p) d h)

  pub entries_end : i ≡ n → entries k all n index ≡ reads tt p
  unfolding entries
  entries_end h =
      let e : n - i ≡ 0 = omega arith in
      ahead ∙ ap (λ (m : ℕ). entries k all m p) e
