-- Which strings put out an output from a state on, by the state's end output and its arcs. Assumes the laws of a kind.
use Rattle.std.proofs.Common.{◌≡◌, ℕ, ◌+◌, ◌<◌, ◌≤◌, Bool, true, false, eqb, List, [], ◌∷◌, ◌++◌, length, sym, refl, ap, ◌∙◌, inl, inr, arith}
use mathlib.Core.Option.{Option, none, some}
use Rattle.std.proofs.lemmas.Bool.{eq-eqb, ne_eqb}
use Rattle.outputs.specs.Kinds.{Kind, Laws, PrefixOf}
use Rattle.machines.specs.Lists.{at, Each}
use Rattle.machines.specs.Keys.{Key}
use Rattle.machines.specs.Machines.{Arc, State, arc_on, arc_at, end_at, join_some, answer_from}
use Rattle.machines.specs.Numbering.{Rising}
use Rattle.machines.proofs.Lists.{In, each_in}
use Rattle.machines.proofs.Under.{prefix_some}
use Rattle.searching.specs.Searches.{Nowhere}

-- the arc on a byte is one of the arcs
pub arc_on_in : {A : Type 0} (a : ℕ) (arcs : List (Arc A)) (arc : Arc A) → arc_on a arcs ≡ some arc → In arc arcs
arc_on_in a [] arc e = let o : ◌≡◌ {A = ℕ} 0 1 = cc in absurd (omega arith)
arc_on_in {A} a (x ∷ arcs) arc e = go (eqb x.byte a) (λ f. arc_on_in a arcs arc f) e
  where
    go : (b : Bool) → (arc_on a arcs ≡ some arc → In arc arcs) → ◌≡◌ {A = Option (Arc A)} (elim b [ true ↦ some x | false ↦ arc_on a arcs ]) (some arc) → In arc (x ∷ arcs)
    go true more f = let o : x ≡ arc = cc in inl (sym o)
    go false more f = inr (more f)

-- each of some rising arcs is the one on its byte
pub arc_on_rising : {A : Type 0} (done : List (Arc A)) (arc : Arc A) (more : List (Arc A)) → Rising (done ++ (arc ∷ more)) → arc_on arc.byte (done ++ (arc ∷ more)) ≡ some arc
arc_on_rising {A} [] arc more r = ap {A = Bool} {B = Option (Arc A)} (λ b. elim b [ true ↦ some arc | false ↦ arc_on arc.byte more ]) (eq-eqb arc.byte arc.byte refl)
arc_on_rising {A} (x ∷ done) arc more r =
    let l : x.byte < arc.byte = each_in (λ later. x.byte < later.byte) (done ++ (arc ∷ more)) arc r.0 (behind done) in
    ap {A = Bool} {B = Option (Arc A)} (λ b. elim b [ true ↦ some x | false ↦ arc_on arc.byte (done ++ (arc ∷ more)) ]) (ne_eqb x.byte arc.byte (λ e. omega (arith, e)))
    ∙ arc_on_rising done arc more r.1
  where
    behind : (xs : List (Arc A)) → In arc (xs ++ (arc ∷ more))
    behind [] = inl refl
    behind (y ∷ xs) = inr (behind xs)

module _ (k : Kind) (states : List (State k.Ideal)) where
  -- no string of at most 64 - d bytes puts out x by way of an arc at its first byte
  abbrev pub Fruitless : k.Ideal → ℕ → Arc k.Ideal → Type 0
  Fruitless x d arc = (w : Key) → length w + (d + 1) ≤ 64 → join_some k arc.output (answer_from k states arc.target w) ≡ some x → ⊥

module _ (k : Kind) (laws : Laws k) where
  -- what was joined behind x, if the join is known
  pub joined_behind : (x y z : k.Ideal) (o : Option k.Ideal) → k.join x y ≡ z → join_some k x o ≡ some z → o ≡ some y
  joined_behind x y z none e f = let o : ◌≡◌ {A = ℕ} 0 1 = cc in absurd (omega arith)
  joined_behind x y z (some t) e f =
      let g : k.join x t ≡ z = cc in
      ap {A = k.Ideal} {B = Option k.Ideal} (λ v. some v) (laws.left_cancel x t y (g ∙ sym e))

  module _ (states : List (State k.Ideal)) where
    -- an arc whose output is no prefix, and one behind which nothing is found
    pub no_prefix_fruitless : (x : k.Ideal) (d : ℕ) (arc : Arc k.Ideal) → (PrefixOf k arc.output x → ⊥) → Fruitless k states x d arc
    no_prefix_fruitless x d arc n w l e = n (prefix_some k laws arc.output x (answer_from k states arc.target w) e)

    pub left_fruitless : (x y : k.Ideal) (d : ℕ) (arc : Arc k.Ideal) → k.join arc.output y ≡ x → Nowhere k states arc.target y (d + 1) → Fruitless k states x d arc
    left_fruitless x y d arc e n w l f = n w l (joined_behind arc.output y x (answer_from k states arc.target w) e f)

    -- from a state that is not there
    pub nowhere_missing : (q : ℕ) (x : k.Ideal) (d : ℕ) → at states q ≡ none → Nowhere k states q x d
    nowhere_missing q x d e [] l f =
        let g : ◌≡◌ {A = Option k.Ideal} none (some x) = ap end_at (sym e) ∙ f in
        let o : ◌≡◌ {A = ℕ} 0 1 = cc in omega arith
    nowhere_missing q x d e (a ∷ w) l f =
        let g : ◌≡◌ {A = Option k.Ideal} none (some x) =
        ap {A = Option (State k.Ideal)} {B = Option k.Ideal} (λ t. elim (arc_at t a) [ none ↦ none | some arc ↦ join_some k arc.output (answer_from k states arc.target w) ]) (sym e) ∙ f in
        let o : ◌≡◌ {A = ℕ} 0 1 = cc in omega arith

    module _ (q : ℕ) (s : State k.Ideal) (here : at states q ≡ some s) where
      abbrev on_arc : Key → Option (Arc k.Ideal) → Option k.Ideal
      on_arc w o = elim o [ none ↦ none | some arc ↦ join_some k arc.output (answer_from k states arc.target w) ]

      pub ends_here : answer_from k states q [] ≡ s.end
      ends_here = ap end_at here

      goes_on : (a : ℕ) (w : Key) → answer_from k states q (a ∷ w) ≡ on_arc w (arc_on a s.arcs)
      goes_on a w = ap {A = Option (State k.Ideal)} {B = Option k.Ideal} (λ t. on_arc w (arc_at t a)) here

      -- a string that goes on along an arc
      pub along : (x y : k.Ideal) (arc : Arc k.Ideal) (w : Key) → arc_on arc.byte s.arcs ≡ some arc → k.join arc.output y ≡ x → answer_from k states arc.target w ≡ some y
          → answer_from k states q (arc.byte ∷ w) ≡ some x
      along x y arc w on e f =
          goes_on arc.byte w ∙ ap (on_arc w) on ∙ ap (join_some k arc.output) f ∙ ap {A = k.Ideal} {B = Option k.Ideal} (λ v. some v) e

      -- from a state whose end output is another, and whose arcs lead to nothing or too deep
      pub nowhere_deep : (x : k.Ideal) (d : ℕ) → (s.end ≡ some x → ⊥) → 64 ≤ d → Nowhere k states q x d
      nowhere_deep x d n h [] l f = n (sym ends_here ∙ f)
      nowhere_deep x d n h (a ∷ w) l f = omega arith

      pub nowhere_here : (x : k.Ideal) (d : ℕ) → (s.end ≡ some x → ⊥) → Each (Fruitless k states x d) s.arcs → Nowhere k states q x d
      nowhere_here x d n each [] l f = n (sym ends_here ∙ f)
      nowhere_here x d n each (a ∷ w) l f = go (arc_on a s.arcs) refl
        where
          go : (o : Option (Arc k.Ideal)) → arc_on a s.arcs ≡ o → ⊥
          go none e =
              let g : ◌≡◌ {A = Option k.Ideal} none (some x) = ap (on_arc w) (sym e) ∙ sym (goes_on a w) ∙ f in
              let o : ◌≡◌ {A = ℕ} 0 1 = cc in omega arith
          go (some arc) e =
              each_in (Fruitless k states x d) s.arcs arc each (arc_on_in a s.arcs arc e) w (omega arith)
              (ap (on_arc w) (sym e) ∙ sym (goes_on a w) ∙ f)
