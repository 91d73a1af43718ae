-- The arcs of a state that a search has passed, and what is found there. Assumes the laws of a kind.
use Rattle.std.proofs.Common.{◌≡◌, ℕ, ◌+◌, Bool, List, [], ◌∷◌, ◌++◌, Some, None, sym, refl, ap, ◌∙◌, subst, append_assoc, append-nil}
use mathlib.Core.Option.{Option, none, some}
use Rattle.outputs.specs.Kinds.{Kind, Laws}
use Rattle.machines.specs.Lists.{at, Each}
use Rattle.machines.specs.Keys.{Key}
use Rattle.machines.specs.Machines.{Arc, State, arc_on, answer_from}
use Rattle.machines.specs.Numbering.{Rising}
use Rattle.machines.proofs.Lists.{each_more}
use Rattle.lookups.specs.declared.rows.Arc as Code
use Rattle.lookups.specs.declared.rows.Row.{Row}
use Rattle.lookups.specs.declared.states.Opened.{Opened}
use Rattle.lookups.specs.Lookups.{OpenedAs, Opens, SameArc, RowOf, Next}
use Rattle.searching.specs.Searches.{Left, Nowhere}
use Rattle.searching.proofs.Strings.{Fruitless, arc_on_rising, no_prefix_fruitless, left_fruitless, along}

-- a state that was opened is there, and one that was not is not
pub is_opened : (k : Kind) (all : List Bool) (o : Option (State k.Ideal)) (opened : Opened) → Opens k all o (Some opened) → (s : State k.Ideal) × (o ≡ some s) × OpenedAs k all opened s
is_opened k all none opened h = absurd h
is_opened k all (some s) opened h = (s, refl, h)

pub not_opened : (k : Kind) (all : List Bool) (o : Option (State k.Ideal)) → Opens k all o None → o ≡ none
not_opened k all none h = refl
not_opened k all (some s) h = absurd h

-- some arcs of a state are passed, and none of them leads to a string with the output x; the others stand in a row
pub record Passed (k : Kind) (all : List Bool) (states : List (State k.Ideal)) (arcs : List (Arc k.Ideal)) (x : k.Ideal) (d : ℕ) (row : Row) : Type 0 where
  pub done : List (Arc k.Ideal)
  pub more : List (Arc k.Ideal)
  pub split : arcs ≡ done ++ more
  pub fruitless : Each (Fruitless k states x d) done
  pub stands : RowOf k all row more

-- the next arc of a row that code has read
pub record First {O : Type 0} (k : Kind) (meaning : O → k.Ideal) (all : List Bool) (arcs : List (Arc k.Ideal)) (read : Code.Arc O × Row) : Type 0 where
  pub arc : Arc k.Ideal
  pub behind : List (Arc k.Ideal)
  pub split : arcs ≡ arc ∷ behind
  pub same : SameArc k meaning arc read.0
  pub stands : RowOf k all read.1 behind

module _ {O : Type 0} (k : Kind) (laws : Laws k) (meaning : O → k.Ideal) (all : List Bool) where
  first_of : (arcs : List (Arc k.Ideal)) (read : Code.Arc O × Row) → Next k meaning all arcs (Some read) → First k meaning all arcs read
  first_of [] read h = absurd h
  first_of (arc ∷ arcs) read h = record { arc = arc; behind = arcs; split = refl; same = h.0; stands = h.1 }

  module _ (states : List (State k.Ideal)) (arcs : List (Arc k.Ideal)) (x : k.Ideal) (d : ℕ) where
    pub passed_none : (row : Row) → RowOf k all row arcs → Passed k all states arcs x d row
    passed_none row h = record { done = []; more = arcs; split = refl; fruitless = tt; stands = h }

    module _ (row : Row) (p : Passed k all states arcs x d row) where
      -- no arc is left: all are passed
      pub passed_all : Next {O = O} k meaning all p.more None → Each (Fruitless k states x d) arcs
      passed_all = go p.more p.split
        where
          go : (more : List (Arc k.Ideal)) → arcs ≡ p.done ++ more → Next {O = O} k meaning all more None → Each (Fruitless k states x d) arcs
          go [] f h = subst (Each (Fruitless k states x d)) (sym (append-nil p.done) ∙ sym f) p.fruitless
          go (a ∷ more) f h = absurd h

      module _ (read : Code.Arc O × Row) (h : Next k meaning all p.more (Some read)) where
        first : First k meaning all p.more read
        first = first_of p.more read h

        passed_more : Fruitless k states x d first.arc → Passed k all states arcs x d read.1
        passed_more f =
            record {
              done = p.done ++ (first.arc ∷ []);
              more = first.behind;
              split = p.split ∙ ap (λ (z : List (Arc k.Ideal)). p.done ++ z) first.split ∙ sym (append_assoc p.done (first.arc ∷ []) first.behind);
              fruitless = each_more (Fruitless k states x d) p.done first.arc p.fruitless f;
              stands = first.stands;
            }

        -- its output is no prefix, or nothing is found behind it
        pub passed_other : Left k meaning (meaning read.0.output) x None → Passed k all states arcs x d read.1
        passed_other n = passed_more (no_prefix_fruitless k laws states x d first.arc (λ e. n (e.0, ap (λ (z : k.Ideal). k.join z e.0) first.same.output ∙ e.1)))

        pub passed_behind : (y : O) → Left k meaning (meaning read.0.output) x (Some y) → Nowhere k states read.0.target (meaning y) (d + 1) → Passed k all states arcs x d read.1
        passed_behind y e n =
            passed_more (left_fruitless k laws states x (meaning y) d first.arc (ap (λ (z : k.Ideal). k.join z (meaning y)) (sym first.same.output) ∙ e)
            (subst (λ (t : ℕ). Nowhere k states t (meaning y) (d + 1)) first.same.target n))

        -- a string is found behind it
        pub found_behind : (q : ℕ) (s : State k.Ideal) → at states q ≡ some s → s.arcs ≡ arcs → Rising s.arcs → (y : O) → Left k meaning (meaning read.0.output) x (Some y)
            → (w : Key) → answer_from k states read.0.target w ≡ some (meaning y) → answer_from k states q (read.0.byte ∷ w) ≡ some x
        found_behind q s here same rising y e w f =
            let whole : s.arcs ≡ p.done ++ (first.arc ∷ first.behind) = same ∙ p.split ∙ ap (λ (z : List (Arc k.Ideal)). p.done ++ z) first.split in
            let on = arc_on_rising p.done first.arc first.behind (subst Rising whole rising) in
            ap (λ (b : ℕ). answer_from k states q (b ∷ w)) first.same.byte
            ∙ along k laws states q s here x (meaning y) first.arc w (ap (arc_on first.arc.byte) whole ∙ on) (ap (λ (z : k.Ideal). k.join z (meaning y)) (sym first.same.output) ∙ e)
            (ap (λ (t : ℕ). answer_from k states t w) (sym first.same.target) ∙ f)
