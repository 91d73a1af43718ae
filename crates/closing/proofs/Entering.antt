-- A new state is entered in the register. Assumes that no state there is equal to it.
use Rattle.std.proofs.Common.{◌≡◌, ℕ, ◌<◌, ◌≤◌, List, [], ◌∷◌, ◌++◌, length, sym, ap, ◌∙◌, subst, ⊎_elim, arith}
use mathlib.Core.Option.{Option, none, some}
use Rattle.std.proofs.lemmas.List.{length_push, get_or_push, get_or_append_left}
use Rattle.std.proofs.lemmas.Bool.{cases_lt}
use Rattle.machines.specs.Machines.{State as Node}
use Rattle.register.specs.Slots.{Entered, Hole}
use Rattle.register.specs.Answers.{Missing}
use Rattle.outputs.specs.Kinds.{Kind}
use Rattle.construction.specs.Records.{Open, Closed, state_of, number_of}
use Rattle.construction.specs.Steps.{enter}
use Rattle.records.specs.Registering.{Register, home, state_at}
use Rattle.closing.specs.Closing.{with_state}

module _ {I : Type 0} (ts : List (Node I)) (s : Node I) where
  abbrev more : List (Node I)
  more = ts ++ (s ∷ [])

  old_at : (q : ℕ) → q < length ts → state_at more q ≡ state_at ts q
  old_at q h = get_or_append_left ts (s ∷ []) _ q h

  new_at : (q : ℕ) → q < length more → length ts ≤ q → state_at more q ≡ s
  new_at q h l = get_or_push ts s _ q (omega (arith, length_push ts s))

  module _ (digested : I → ℕ) (slots slots' : List ℕ) (slot n : ℕ) (all : n ≡ length ts) (wide : length slots' ≡ length slots) (register : Register digested slots ts) (missing : Missing n (λ q. s ≡ state_at ts q) slots (home digested (length slots) s) slot) (new : (h : ℕ) → Hole slots h slot → Entered h slots' n) (kept : (h p : ℕ) → Entered h slots p → Entered h slots' p) where
    at_home : (q : ℕ) (t : Node I) → state_at more q ≡ t → Entered (home digested (length slots) t) slots' q → Entered (home digested (length slots') (state_at more q)) slots' q
    at_home q t e p = subst (λ (w : ℕ). Entered (home digested w (state_at more q)) slots' q) (sym wide) (subst (λ (x : Node I). Entered (home digested (length slots) x) slots' q) (sym e) p)

    pub other : (q : ℕ) → q < length ts → state_at ts q ≡ s → ⊥
    other q h e = missing.none_equal q (omega arith) (subst (λ (x : Node I). Entered (home digested (length slots) x) slots q) e (register.entered q h)) (sym e)

    pub register_more : Register digested slots' more
    register_more = record {
      entered = λ q h. ⊎_elim
          (λ (l : q < length ts). at_home q (state_at ts q) (old_at q l) (kept _ q (register.entered q l)))
          (λ (l : length ts ≤ q). at_home q s (new_at q h l) (subst (Entered (home digested (length slots) s) slots') (let w = length_push ts s in let e : n ≡ q = omega arith in e) (new _ missing.hole)))
          (cases_lt q (length ts));
      distinct = λ p q l h e. ⊎_elim
          (λ (m : q < length ts). register.distinct p q l m (sym (old_at p (omega arith)) ∙ e ∙ old_at q m))
          (λ (m : length ts ≤ q). let w = length_push ts s in let p_old : p < length ts = omega arith in other p p_old (sym (old_at p p_old) ∙ e ∙ new_at q h m))
          (cases_lt q (length ts));
    }

-- what the construction does, by what it finds
module _ (k : Kind) (pairs : ℕ) (c : Closed k.Ideal) (o : Open k.Ideal) where
  abbrev answer : Option ℕ → ℕ × Closed k.Ideal
  answer r = elim r [ some q ↦ (q, c) | none ↦ (length c.states, with_state pairs c o) ]

  pub enter_found : (q : ℕ) → number_of k (state_of o) c.states ≡ some q → enter k pairs c o ≡ (q, c)
  enter_found q e = ap answer e

  pub enter_new : number_of k (state_of o) c.states ≡ none → enter k pairs c o ≡ (length c.states, with_state pairs c o)
  enter_new e = ap answer e
