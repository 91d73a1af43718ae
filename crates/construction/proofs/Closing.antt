-- Closing records keeps the closed states different and storable. Assumes the laws of a kind.
use Rattle.std.proofs.Common.{◌≡◌, ℕ, zero, suc, ◌+◌, ◌-◌, Bool, true, false, List, [], ◌∷◌, ◌++◌, length, sym, refl, ap, ◌∙◌, subst, inl, inr, arith, length-append}
use mathlib.Core.Option.{Option, none, some}
use borrow.Author.Tests.{both_ways}
use Rattle.std.proofs.lemmas.Bool.{cases_Bool}
use Rattle.outputs.specs.Kinds.{Kind, Laws}
use Rattle.machines.specs.Lists.{Each}
use Rattle.machines.specs.Machines.{Arc, State}
use Rattle.machines.proofs.Lists.{each_map}
use Rattle.construction.specs.Records.{Open, Closed, state_of, same_state, number_from, number_of}
use Rattle.construction.specs.Steps.{aim_last, aim, enter, settle}
use Rattle.construction.specs.Building.{close_beyond}
use Rattle.machines.specs.Storing.{StateStorable}
use Rattle.construction.specs.Theorems.{Different, ClosedSound}
use Rattle.construction.proofs.Lists.{each_append, each_both}
use Rattle.construction.proofs.Comparing.{same_state_self, same_state_equal}

module _ (k : Kind) where
  -- where no number is found, no state is equal
  pub none_equal : (q : ℕ) (s : State k.Ideal) (ts : List (State k.Ideal)) → number_from k q s ts ≡ none → Each (λ t. same_state k s t ≡ false) ts
  none_equal q s [] e = tt
  none_equal q s (t ∷ ts) e = go (same_state k s t) refl e (none_equal (suc q) s ts)
    where
      go : (b : Bool) → same_state k s t ≡ b → ◌≡◌ {A = Option ℕ} (elim b [ true ↦ some q | false ↦ number_from k (suc q) s ts ]) none → (number_from k (suc q) s ts ≡ none → Each (λ r. same_state k s r ≡ false) ts)
          → (same_state k s t ≡ false) × Each (λ r. same_state k s r ≡ false) ts
      go true f g deep = let o : ◌≡◌ {A = ℕ} 0 1 = cc in absurd (omega arith)
      go false f g deep = (f, deep g)

  different_append : (ss : List (State k.Ideal)) (t : State k.Ideal) → Different k ss → Each (λ s. same_state k s t ≡ false) ss → Different k (ss ++ (t ∷ []))
  different_append [] t d h = (tt, tt)
  different_append (s ∷ ss) t d h = (each_append _ ss (t ∷ []) d.0 (h.0, tt), different_append ss t d.1 h.1)

  aim_last_storable : (q : ℕ) (arcs : List (Arc k.Ideal)) → Each (λ arc. k.storable arc.output ≡ true) arcs → Each (λ arc. k.storable arc.output ≡ true) (aim_last q arcs)
  aim_last_storable q [] h = tt
  aim_last_storable q (arc ∷ []) h = h
  aim_last_storable q (arc ∷ next ∷ arcs) h = (h.0, aim_last_storable q (next ∷ arcs) h.1)

  -- another target keeps the outputs
  pub aim_storable : (q : ℕ) (o : Open k.Ideal) → StateStorable k (state_of o) → StateStorable k (state_of (aim q o))
  aim_storable q o h = (h.0, aim_last_storable q o.arcs h.1)

module _ (k : Kind) (laws : Laws k) where
  -- a comparison that fails fails both ways
  pub same_state_turn : (s t : State k.Ideal) → StateStorable k s → StateStorable k t → same_state k s t ≡ false → same_state k t s ≡ false
  same_state_turn s t hs ht e = elim (cases_Bool (same_state k t s)) [
    | inl f ↦ absurd (both_ways (same_state k s t) e (subst (λ r. same_state k s r ≡ true) (sym (same_state_equal k laws t s ht hs f)) (same_state_self k s)))
    | inr f ↦ f
  ]

  pub enter_sound : (pairs : ℕ) (closed : Closed k.Ideal) (o : Open k.Ideal) → ClosedSound k closed → StateStorable k (state_of o) → ClosedSound k (enter k pairs closed o).1
  enter_sound pairs closed o h s = go (number_of k (state_of o) closed.states) refl
    where
      more : Closed k.Ideal
      more = record { states = closed.states ++ (state_of o ∷ []); counts = closed.counts ++ ((pairs - o.since) ∷ []) }

      go : (n : Option ℕ) → number_of k (state_of o) closed.states ≡ n
          → ClosedSound k (elim n as (λ m. ℕ × Closed k.Ideal) [ some q ↦ (q, closed) | none ↦ (length closed.states, more) ]).1
      go (some q) e = h
      go none e = record {
        different = different_append k closed.states (state_of o) h.different
            (each_map _ _ closed.states (λ t f. same_state_turn (state_of o) t s f.0 f.1)
            (each_both _ _ closed.states h.storable (none_equal k 0 (state_of o) closed.states e)));
        storable = each_append _ closed.states (state_of o ∷ []) h.storable (s, tt);
        counted = length-append closed.counts ((pairs - o.since) ∷ []) ∙ ap (λ n. n + 1) h.counted ∙ sym (length-append closed.states (state_of o ∷ []));
      }

  pub settle_sound : (pairs : ℕ) (closed : Closed k.Ideal) (o : Open k.Ideal) (more : List (Open k.Ideal)) → ClosedSound k closed → StateStorable k (state_of o) → Each (λ r. StateStorable k (state_of r)) more
      → ClosedSound k (settle k pairs closed o more).0 × StateStorable k (state_of (settle k pairs closed o more).1)
  settle_sound pairs closed o [] h s t = (h, s)
  settle_sound pairs closed o (next ∷ more) h s t =
      let deeper = settle_sound pairs closed next more h t.0 t.1 in
      let below : Closed k.Ideal × Open k.Ideal = settle k pairs closed next more in
      (enter_sound pairs below.0 below.1 deeper.0 deeper.1, aim_storable k (enter k pairs below.0 below.1).0 o s)

  pub close_beyond_sound : (pairs : ℕ) (closed : Closed k.Ideal) (depth : ℕ) (o : Open k.Ideal) (more : List (Open k.Ideal)) → ClosedSound k closed → StateStorable k (state_of o) → Each (λ r. StateStorable k (state_of r)) more
      → ClosedSound k (close_beyond k pairs closed depth o more).0 × Each (λ r. StateStorable k (state_of r)) (close_beyond k pairs closed depth o more).1
  close_beyond_sound pairs closed zero o more h s t = let d = settle_sound pairs closed o more h s t in (d.0, (d.1, tt))
  close_beyond_sound pairs closed (suc depth) o [] h s t = (h, (s, tt))
  close_beyond_sound pairs closed (suc depth) o (next ∷ more) h s t = let d = close_beyond_sound pairs closed depth next more h t.0 t.1 in (d.0, (s, d.1))
