-- A state that was opened, and the way along a string, beside what is told of a machine. Assumes nothing.
use Rattle.std.proofs.Common.{◌≡◌, ℕ, suc, ◌+◌, ◌<◌, Bool, true, List, [], ◌∷◌, length, get_or, drop, is_err, Some, None, Ok, Err, Option as Maybe, Result, sym, refl, ap, ◌∙◌, add-one, arith, drop-cons}
use mathlib.Core.Option.{Option, none, some}
use Rattle.outputs.specs.Kinds.{Kind}
use Rattle.machines.specs.Keys.{Key}
use Rattle.machines.specs.Lists.{at}
use Rattle.machines.specs.Machines.{Arc, State, arc_on, arc_at}
use Rattle.machines.specs.Numbering.{Rising}
use Rattle.machines.specs.Asked.{Told, gives, absent, unstorable, and_tell, joined, walk_from}
use Rattle.lookups.specs.declared.rows.Row.{Row}
use Rattle.lookups.specs.declared.states.Opened.{Opened}
use Rattle.lookups.specs.Standing.{ArcStands}
use Rattle.lookups.specs.Lookups.{OpenedAs, Opens, RowOf}
use Rattle.reading.specs.declared.refusal.ReadRefusal.{ReadRefusal}
use Rattle.reading.specs.declared.walking.Reached.{Reached}
use Rattle.reading.specs.Told.{Sought, told_walk, told_of}

-- what the exit of a `?` is told
pub err_walk : {O A : Type 0} (meaning : O → A) (r : Result (Maybe (Reached O)) ReadRefusal) → is_err r ≡ true → told_walk meaning r ≡ unstorable
err_walk meaning (Ok o) e = let z : ◌≡◌ {A = ℕ} 0 1 = cc in absurd (omega arith)
err_walk meaning (Err d) e = refl

pub err_of : {O A : Type 0} (meaning : O → A) (r : Result (Maybe O) ReadRefusal) → is_err r ≡ true → told_of meaning r ≡ unstorable
err_of meaning (Ok o) e = let z : ◌≡◌ {A = ℕ} 0 1 = cc in absurd (omega arith)
err_of meaning (Err d) e = refl

module _ (k : Kind) (all : List Bool) (a : ℕ) where
  pub place_some : (o : Option (State k.Ideal)) (opened : Opened) (row : Row) (r : Maybe ℕ) → Opens k all o (Some opened) → ((s : State k.Ideal) → OpenedAs k all opened s → RowOf k all row s.arcs)
      → ((arcs : List (Arc k.Ideal)) → Rising arcs → RowOf k all row arcs → Sought k all (arc_on a arcs) r) → ((s : State k.Ideal) → o ≡ some s → Rising s.arcs) → Sought k all (arc_at o a) r
  place_some none opened row r h f g rise = absurd h
  place_some (some s) opened row r h f g rise = g s.arcs (rise s refl) (f s h)

module _ (k : Kind) (all : List Bool) (x : k.Ideal) where
  -- one step, by the arc that was sought
  abbrev pub one_step : Option (Arc k.Ideal) → Told (ℕ × k.Ideal)
  one_step o = elim o [ none ↦ absent | some arc ↦ and_tell (joined k x arc.output) (λ y. gives (arc.target, y)) ]

  pub step_none : (o : Option (Arc k.Ideal)) → Sought k all o None → absent ≡ one_step o
  step_none none h = refl
  step_none (some arc) h = absurd h

  pub step_lacks : (o : Option (Arc k.Ideal)) (p : ℕ) → Sought k all o (Some p) → ((arc : Arc k.Ideal) → ArcStands k all p arc → ⊥) → absent ≡ one_step o
  step_lacks none p h f = absurd h
  step_lacks (some arc) p h f = absurd (f arc h)

  pub step_joins : (o : Option (Arc k.Ideal)) (p target : ℕ) (y : k.Ideal) (t : Told k.Ideal) → Sought k all o (Some p) → ((arc : Arc k.Ideal) → ArcStands k all p arc → y ≡ arc.output) → ((arc : Arc k.Ideal) → ArcStands k all p arc → target ≡ arc.target)
      → t ≡ joined k x y → and_tell t (λ z. gives (target, z)) ≡ one_step o
  step_joins none p target y t h f g e = absurd h
  step_joins (some arc) p target y t h f g e =
      ap {A = ℕ} {B = Told (ℕ × k.Ideal)} (λ n. and_tell t (λ z. gives (n, z))) (g arc h)
      ∙ ap {A = Told k.Ideal} {B = Told (ℕ × k.Ideal)} (λ u. and_tell u (λ z. gives (arc.target, z))) (e ∙ ap {A = k.Ideal} {B = Told k.Ideal} (λ z. joined k x z) (f arc h))

  pub step_refuses : (o : Option (Arc k.Ideal)) (p : ℕ) (y : k.Ideal) → Sought k all o (Some p) → ((arc : Arc k.Ideal) → ArcStands k all p arc → y ≡ arc.output) → unstorable ≡ joined k x y → unstorable ≡ one_step o
  step_refuses none p y h f e = absurd h
  step_refuses (some arc) p y h f e =
      ap {A = Told k.Ideal} {B = Told (ℕ × k.Ideal)} (λ u. and_tell u (λ z. gives (arc.target, z))) (e ∙ ap {A = k.Ideal} {B = Told k.Ideal} (λ z. joined k x z) (f arc h))

module _ (k : Kind) (states : List (State k.Ideal)) where
  -- a walk is one step and the rest of it
  walk_more : (q : ℕ) (x : k.Ideal) (a : ℕ) (w : Key) → walk_from k states q x (a ∷ w) ≡ and_tell (walk_from k states q x (a ∷ [])) (λ s. walk_from k states s.0 s.1 w)
  walk_more q x a w = go (arc_at (at states q) a)
    where
      on : (arc : Arc k.Ideal) (t : Told k.Ideal) → and_tell t (λ y. walk_from k states arc.target y w) ≡ and_tell (and_tell {B = ℕ × k.Ideal} t (λ y. gives (arc.target, y))) (λ s. walk_from k states s.0 s.1 w)
      on arc (gives y) = refl
      on arc absent = refl
      on arc unstorable = refl

      go : (o : Option (Arc k.Ideal)) → ◌≡◌ {A = Told (ℕ × k.Ideal)} (elim o [ none ↦ absent | some arc ↦ and_tell (joined k x arc.output) (λ y. walk_from k states arc.target y w) ]) (and_tell (one_step k [] x o) (λ s. walk_from k states s.0 s.1 w))
      go none = refl
      go (some arc) = on arc (joined k x arc.output)

  -- the walk along a string, i bytes of it gone, goes on with what a step was told
  pub walk_on : {O : Type 0} (meaning : O → k.Ideal) (whole : Told (ℕ × k.Ideal)) (w : List ℕ) (i q b : ℕ) (x : k.Ideal) (r : Result (Maybe (Reached O)) ReadRefusal) → i < length w → b ≡ get_or w i 0
      → whole ≡ walk_from k states q x (drop i w) → told_walk meaning r ≡ walk_from k states q x (b ∷ []) → whole ≡ and_tell (told_walk meaning r) (λ s. walk_from k states s.0 s.1 (drop (i + 1) w))
  walk_on meaning whole w i q b x r l e h t =
      let d : drop i w ≡ b ∷ drop (i + 1) w = drop-cons w i 0 l ∙ ap {A = ℕ} {B = List ℕ} (λ n. n ∷ drop (suc i) w) (sym e) ∙ ap {A = ℕ} {B = List ℕ} (λ n. b ∷ drop n w) (sym (add-one i)) in
      h ∙ ap (walk_from k states q x) d ∙ walk_more q x b (drop (i + 1) w) ∙ ap {A = Told (ℕ × k.Ideal)} {B = Told (ℕ × k.Ideal)} (λ u. and_tell u (λ s. walk_from k states s.0 s.1 (drop (i + 1) w))) (sym t)
