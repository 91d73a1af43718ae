-- What two steps in a row leave as it was. Assumes nothing.
use Rattle.std.proofs.Common.{refl, ◌∙◌}
use Rattle.records.specs.declared.memory.Core.{Core}
use Rattle.pushing.specs.Changes.{Keeps, SameShape}

module _ {O : Type 0} where
  pub keeps_none : (b : Core O) → Keeps b b
  keeps_none b = record { states = refl; arcs = refl; slots = refl; staterooms = refl; arcrooms = refl }

  pub keeps_both : (b m a : Core O) → Keeps b m → Keeps m a → Keeps b a
  keeps_both b m a p q = record { states = q.states ∙ p.states; arcs = q.arcs ∙ p.arcs; slots = q.slots ∙ p.slots; staterooms = q.staterooms ∙ p.staterooms; arcrooms = q.arcrooms ∙ p.arcrooms }

  pub shape_none : (b : Core O) → SameShape b b
  shape_none b = record { keeps = keeps_none b; pairs = refl; openings = refl; arcs = refl }

  pub shape_both : (b m a : Core O) → SameShape b m → SameShape m a → SameShape b a
  shape_both b m a p q = record { keeps = keeps_both b m a p.keeps q.keeps; pairs = q.pairs ∙ p.pairs; openings = q.openings ∙ p.openings; arcs = q.arcs ∙ p.arcs }
