-- Closing all but the record of the empty prefix, and then that one, is what the construction does to seal. Assumes nothing.
use Rattle.std.proofs.Common.{◌≡◌, ℕ, ◌<◌, List, [], ◌∷◌, reverse, length, sym, refl, ap, ◌∙◌, arith}
use Rattle.outputs.specs.Kinds.{Kind}
use Rattle.construction.specs.Records.{Open, Closed, Held}
use Rattle.closing.specs.Closing.{closed_beyond, all_closed, with_state}
use Rattle.closing.proofs.Ascending.{hold}

-- the first of some records
abbrev first_of : {A : Type 0} → A → List A → A
first_of x [] = x
first_of x (y ∷ ys) = y

module _ (k : Kind) (pairs : ℕ) (start : k.Ideal) (closed : Closed k.Ideal) where
  -- h is what is held with one record open, the last
  pub sealed_at_last : (os : List (Open k.Ideal)) (h : Held k.Ideal) (top : Open k.Ideal) → 0 < length os → h ≡ closed_beyond k 0 (hold k pairs start closed os) → h.open' ≡ top ∷ [] → record { closed = with_state h.pairs h.closed top; open' = []; start = h.start; pairs = h.pairs } ≡ all_closed k (hold k pairs start closed os)
  sealed_at_last [] h top l e o = absurd (omega arith)
  sealed_at_last (r ∷ more) h top l e o =
      let t = sym (ap (first_of top) o) ∙ ap (λ (x : Held k.Ideal). first_of top x.open') e in
      λ i. record { closed = with_state (e i).pairs (e i).closed (t i); open' = []; start = (e i).start; pairs = (e i).pairs }

  pub sealed_empty : (os : List (Open k.Ideal)) → length os ≡ 0 → hold k pairs start closed (reverse os) ≡ all_closed k (hold k pairs start closed (reverse os))
  sealed_empty [] l = refl
  sealed_empty (o ∷ os) l = absurd (omega arith)
