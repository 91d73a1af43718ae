-- The pairs under a prefix: what is found there, and their order. Assumes nothing.
use Rattle.std.proofs.Common.{◌≡◌, ℕ, Bool, true, false, eqb, List, [], ◌∷◌, ◌++◌, sym, refl, ap, ◌∙◌, subst, ap₂, inl, inr, arith, le-ltb, eq-eqb, eqb-true}
use mathlib.Core.Option.{Option, none, some}
use Rattle.std.proofs.lemmas.Bool.{cases_Bool}
use Rattle.outputs.specs.Kinds.{Kind, Laws, PrefixOf}
use Rattle.machines.specs.Lists.{at}
use Rattle.machines.specs.Keys.{Key, lower, same_key, past}
use Rattle.machines.specs.Machines.{Arc, State, arc_at, join_some, answer_from, reach_from}
use Rattle.machines.specs.Pairs.{Pairs, output_of, under, Above, Ascending}
use Rattle.machines.specs.Residuals.{rests}
use Rattle.machines.specs.Minimal.{rest_some}
use Rattle.machines.proofs.Order.{same_key_true, above_none, head_found, tail_found}
use Rattle.machines.proofs.PrefixLaws.{AllPrefixed}

pub past_append : (u w : Key) → past u (u ++ w) ≡ some w
past_append [] w = refl
past_append (a ∷ u) w = rw (eq-eqb a a refl, past) (past_append u w)

pub past_some : (u v w : Key) → past u v ≡ some w → v ≡ u ++ w
past_some [] v w e = cc
past_some (a ∷ u) [] w e = let z : ◌≡◌ {A = ℕ} 0 1 = cc in absurd (omega arith)
past_some (a ∷ u) (b ∷ v) w e = go (eqb a b) refl e (past_some u v w)
  where
    go : (t : Bool) → eqb a b ≡ t → ◌≡◌ {A = Option Key} (elim t [ true ↦ past u v | false ↦ none ]) (some w) → (past u v ≡ some w → v ≡ u ++ w) → b ∷ v ≡ a ∷ (u ++ w)
    go true s f deep = ap₂ {C = Key} (λ c l. c ∷ l) (sym (eqb-true a b s)) (deep f)
    go false s f deep = let z : ◌≡◌ {A = ℕ} 0 1 = cc in absurd (omega arith)

pub same_key_append : (u v w : Key) → same_key (u ++ v) (u ++ w) ≡ same_key v w
same_key_append [] v w = refl
same_key_append (a ∷ u) v w = rw (eq-eqb a a refl) (same_key_append u v w)

pub lower_append : (u v w : Key) → lower (u ++ v) (u ++ w) ≡ lower v w
lower_append [] v w = refl
lower_append (a ∷ u) v w = rw (le-ltb a a (omega arith), eq-eqb a a refl) (lower_append u v w)

module _ {A : Type 0} where
  pub under_found : (P : Pairs A) (u w : Key) → output_of (under P u) w ≡ output_of P (u ++ w)
  under_found [] u w = refl
  under_found (p ∷ P) u w = go (past u p.0) refl (under_found P u w)
    where
      go : (o : Option Key) → past u p.0 ≡ o → output_of (under P u) w ≡ output_of P (u ++ w)
          → output_of (elim o [ none ↦ under P u | some v ↦ (v, p.1) ∷ under P u ]) w ≡ output_of (p ∷ P) (u ++ w)
      go none e deep = deep ∙ sym (elim (cases_Bool (same_key p.0 (u ++ w))) [
        | inl s ↦ let f : past u p.0 ≡ some w = ap (past u) (same_key_true p.0 (u ++ w) s) ∙ past_append u w in
            let z : ◌≡◌ {A = ℕ} 0 1 = cc in absurd (omega arith)
        | inr s ↦ tail_found p P (u ++ w) s
      ])
      go (some v) e deep =
          let s : same_key p.0 (u ++ w) ≡ same_key v w = ap (λ z. same_key z (u ++ w)) (past_some u p.0 v e) ∙ same_key_append u v w in
          ap₂ {C = Option A} (λ t o. elim t [ true ↦ some p.1 | false ↦ o ]) (sym s) deep

  pub above_under : (P : Pairs A) (u v : Key) → Above (u ++ v) P → Above v (under P u)
  above_under [] u v h = tt
  above_under (p ∷ P) u v h = go (past u p.0) refl (above_under P u v h.1)
    where
      go : (o : Option Key) → past u p.0 ≡ o → Above v (under P u) → Above v (elim o [ none ↦ under P u | some w ↦ (w, p.1) ∷ under P u ])
      go none e deep = deep
      go (some w) e deep = (sym (lower_append u v w) ∙ subst (λ z. lower (u ++ v) z ≡ true) (past_some u p.0 w e) h.0, deep)

  pub ascending_under : (P : Pairs A) (u : Key) → Ascending P → Ascending (under P u)
  ascending_under [] u h = tt
  ascending_under (p ∷ P) u h = go (past u p.0) refl (ascending_under P u h.1)
    where
      go : (o : Option Key) → past u p.0 ≡ o → Ascending (under P u) → Ascending (elim o [ none ↦ under P u | some w ↦ (w, p.1) ∷ under P u ])
      go none e deep = deep
      go (some w) e deep = (above_under P u w (subst (λ z. Above z P) (past_some u p.0 w e) h.0), deep)

module _ (k : Kind) (laws : Laws k) where
  pub above_rests : (x : k.Ideal) (u : Key) (Q : Pairs k.Ideal) → Above u Q → Above u (rests k x Q)
  above_rests x u [] h = tt
  above_rests x u (q ∷ Q) h = (h.0, above_rests x u Q h.1)

  pub ascending_rests : (x : k.Ideal) (Q : Pairs k.Ideal) → Ascending Q → Ascending (rests k x Q)
  ascending_rests x [] h = tt
  ascending_rests x (q ∷ Q) h = (above_rests x q.0 Q h.0, ascending_rests x Q h.1)

  pub rests_found : (x : k.Ideal) (Q : Pairs k.Ideal) (w : Key) → output_of (rests k x Q) w ≡ rest_some k x (output_of Q w)
  rests_found x [] w = refl
  rests_found x (q ∷ Q) w = go (same_key q.0 w) (rests_found x Q w)
    where
      go : (t : Bool) → output_of (rests k x Q) w ≡ rest_some k x (output_of Q w)
          → ◌≡◌ {A = Option k.Ideal} (elim t [ true ↦ some (k.rest x q.1) | false ↦ output_of (rests k x Q) w ]) (rest_some k x (elim t [ true ↦ some q.1 | false ↦ output_of Q w ]))
      go true deep = refl
      go false deep = deep

  pub rest_join_some : (x : k.Ideal) (o : Option k.Ideal) → rest_some k x (join_some k x o) ≡ o
  rest_join_some x none = refl
  rest_join_some x (some y) = ap {B = Option k.Ideal} some (laws.rest_of_join x y)

  pub join_join_some : (x y : k.Ideal) (o : Option k.Ideal) → join_some k x (join_some k y o) ≡ join_some k (k.join x y) o
  join_join_some x y none = refl
  join_join_some x y (some z) = ap {B = Option k.Ideal} some (sym (laws.associative x y z))

  -- the answer goes on from the state that was reached
  pub answer_on : (states : List (State k.Ideal)) (u : Key) (q r : ℕ) (x y : k.Ideal) (w : Key)
      → reach_from k states q x u ≡ some (r, y) → join_some k x (answer_from k states q (u ++ w)) ≡ join_some k y (answer_from k states r w)
  answer_on states [] q r x y w e =
      let p : ◌≡◌ {A = ℕ × k.Ideal} (q, x) (r, y) = cc in
      λ i. join_some k (p i).1 (answer_from k states (p i).0 w)
  answer_on states (a ∷ u) q r x y w e = go (arc_at (at states q) a) e (λ t z. answer_on states u t r z y w)
    where
      go : (o : Option (Arc k.Ideal)) → ◌≡◌ {A = Option (ℕ × k.Ideal)} (elim o [ none ↦ none | some arc ↦ reach_from k states arc.target (k.join x arc.output) u ]) (some (r, y))
          → ((t : ℕ) (z : k.Ideal) → reach_from k states t z u ≡ some (r, y) → join_some k z (answer_from k states t (u ++ w)) ≡ join_some k y (answer_from k states r w))
          → join_some k x (elim o [ none ↦ none | some arc ↦ join_some k arc.output (answer_from k states arc.target (u ++ w)) ]) ≡ join_some k y (answer_from k states r w)
      go none f deep = let z : ◌≡◌ {A = ℕ} 0 1 = cc in absurd (omega arith)
      go (some arc) f deep = join_join_some x arc.output _ ∙ deep arc.target (k.join x arc.output) f

  -- x is a prefix of every output if it is one of every answer
  pub all_from : (x : k.Ideal) (Q : Pairs k.Ideal) → Ascending Q → ((w : Key) (z : k.Ideal) → output_of Q w ≡ some z → PrefixOf k x z) → AllPrefixed k x Q
  all_from x [] h f = tt
  all_from x (q ∷ Q) h f = (f q.0 q.1 (head_found q Q), all_from x Q h.1 (λ w z e. tail w z e (same_key q.0 w) refl))
    where
      tail : (w : Key) (z : k.Ideal) → output_of Q w ≡ some z → (t : Bool) → same_key q.0 w ≡ t → PrefixOf k x z
      tail w z e true s =
          let n : output_of Q w ≡ none = above_none w Q (subst (λ v. Above v Q) (same_key_true q.0 w s) h.0) in
          let o : ◌≡◌ {A = ℕ} 0 1 = cc in absurd (omega arith)
      tail w z e false s = f w z (tail_found q Q w s ∙ e)

  pub prefix_some : (x z : k.Ideal) (o : Option k.Ideal) → join_some k x o ≡ some z → PrefixOf k x z
  prefix_some x z none e = let o : ◌≡◌ {A = ℕ} 0 1 = cc in absurd (omega arith)
  prefix_some x z (some y) e = (y, cc)
