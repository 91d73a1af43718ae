-- What an add is told is the first refusal that applies after some pairs. Assumes that what is held counts as those pairs say.
use Rattle.std.proofs.Common.{◌≡◌, ℕ, ◌+◌, ◌-◌, ◌<◌, Bool, true, false, not, ltb, leb, List, [], ◌∷◌, length, Ok, Err, Result, sym, refl, ap, ◌∙◌, arith, le-ltb, lt-ltb, le-leb}
use mathlib.Core.Option.{Option, none, some}
use borrow.Author.Tests.{lt-leb}
use Rattle.outputs.specs.Kinds.{Kind}
use Rattle.machines.specs.Keys.{Key, lower, common_length}
use Rattle.machines.specs.Pairs.{Pairs}
use Rattle.machines.specs.Memory.{newest, growth, not_above, held_states, held_arcs, refusal}
use Rattle.construction.specs.Records.{Open, Held, newest_key}
use Rattle.adding.specs.declared.refusal.AddRefusal.{AddRefusal}
use Rattle.adding.specs.declared.refusal.AddRefusal.TheVariants.{LongKey, OutOfOrder, TooManyPairs, NoStateRoom, NoArcRoom}
use Rattle.adding.specs.Refusals.{told}
use Rattle.adding.specs.Admission.{above, states_held, arcs_held, added, Admits}
use Rattle.adding.proofs.Parting.{common_none}

-- the five tests in their order
abbrev first_failed : Bool → Bool → Bool → Bool → Bool → Option ℕ
first_failed t u v w x =
    elim t [ true ↦ some 5 | false ↦ elim u [ true ↦ some 6 | false ↦ elim v [ true ↦ some 7 | false ↦ elim w [ true ↦ some 8 | false ↦ elim x [ true ↦ some 9 | false ↦ none ] ] ] ] ]

-- what is held after some pairs, as far as a key is admitted by it
pub record HeldAs (k : Kind) (P : Pairs k.Ideal) (h : Held k.Ideal) : Type 0 where
  pub pairs : h.pairs ≡ length P
  pub none_open : length h.open' ≡ 0 → newest P ≡ none
  pub some_open : 0 < length h.open' → newest P ≡ some (newest_key h.open')
  pub states : states_held h ≡ held_states k P
  pub arcs : arcs_held h ≡ held_arcs k P

module _ (k : Kind) (P : Pairs k.Ideal) (key : Key) where
  growth_by : (os : List (Open k.Ideal)) → (length os ≡ 0 → newest P ≡ none) → (0 < length os → newest P ≡ some (newest_key os)) → growth P key ≡ length key - common_length key (newest_key os)
  growth_by [] n s = ap (λ (o : Option Key). length key - elim o [ none ↦ 0 | some last ↦ common_length key last ]) (n refl) ∙ ap (λ (m : ℕ). length key - m) (sym (common_none key))
  growth_by (o ∷ os) n s = ap (λ (q : Option Key). length key - elim q [ none ↦ 0 | some last ↦ common_length key last ]) (s (omega arith))

  above_by : (os : List (Open k.Ideal)) → (length os ≡ 0 → newest P ≡ none) → (0 < length os → newest P ≡ some (newest_key os)) → not_above P key ≡ not (above os key)
  above_by [] n s = ap {B = Bool} (λ (o : Option Key). elim o [ none ↦ false | some last ↦ not (lower last key) ]) (n refl)
  above_by (o ∷ os) n s = ap {B = Bool} (λ (q : Option Key). elim q [ none ↦ false | some last ↦ not (lower last key) ]) (s (omega arith))

  module _ (states arcs : ℕ) where
    by_tests : refusal k states arcs P key ≡ first_failed (ltb 64 (length key)) (not_above P key) (leb 1048575 (length P)) (ltb states (held_states k P + growth P key)) (ltb arcs (held_arcs k P + growth P key))
    unfolding refusal
    by_tests = refl

    module _ (h : Held k.Ideal) (e : HeldAs k P h) where
      grown : growth P key ≡ added h key
      grown = growth_by h.open' e.none_open e.some_open

      -- a key is above the newest by the pairs if it is by what is held
      pub rising : not_above P key ≡ not (above h.open' key)
      rising = above_by h.open' e.none_open e.some_open

      pub admits_told : (r : Result ℕ AddRefusal) → Admits states arcs h key r → refusal k states arcs P key ≡ told r
      admits_told (Err LongKey) a =
          let t = lt-ltb 64 (length key) a in
          by_tests ∙ (λ i. first_failed (t i) (not_above P key) (leb 1048575 (length P)) (ltb states (held_states k P + growth P key)) (ltb arcs (held_arcs k P + growth P key)))
      admits_told (Err OutOfOrder) a =
          let t = le-ltb 64 (length key) a.0 in
          let u = rising ∙ ap not a.1 in
          by_tests ∙ (λ i. first_failed (t i) (u i) (leb 1048575 (length P)) (ltb states (held_states k P + growth P key)) (ltb arcs (held_arcs k P + growth P key)))
      admits_told (Err TooManyPairs) a =
          let t = le-ltb 64 (length key) a.0 in
          let u = rising ∙ ap not a.1 in
          let v = le-leb 1048575 (length P) (omega (arith, a.2, e.pairs)) in
          by_tests ∙ (λ i. first_failed (t i) (u i) (v i) (ltb states (held_states k P + growth P key)) (ltb arcs (held_arcs k P + growth P key)))
      admits_told (Err NoStateRoom) a =
          let t = le-ltb 64 (length key) a.0 in
          let u = rising ∙ ap not a.1 in
          let v = lt-leb 1048575 (length P) (omega (arith, a.2, e.pairs)) in
          let w = lt-ltb states (held_states k P + growth P key) (omega (arith, a.3, e.states, grown)) in
          by_tests ∙ (λ i. first_failed (t i) (u i) (v i) (w i) (ltb arcs (held_arcs k P + growth P key)))
      admits_told (Err NoArcRoom) a =
          let t = le-ltb 64 (length key) a.0 in
          let u = rising ∙ ap not a.1 in
          let v = lt-leb 1048575 (length P) (omega (arith, a.2, e.pairs)) in
          let w = le-ltb states (held_states k P + growth P key) (omega (arith, a.3, e.states, grown)) in
          let x = lt-ltb arcs (held_arcs k P + growth P key) (omega (arith, a.4, e.arcs, grown)) in
          by_tests ∙ (λ i. first_failed (t i) (u i) (v i) (w i) (x i))
      admits_told (Ok depth) a =
          let t = le-ltb 64 (length key) a.short in
          let u = rising ∙ ap not a.above in
          let v = lt-leb 1048575 (length P) (omega (arith, a.few, e.pairs)) in
          let w = le-ltb states (held_states k P + growth P key) (omega (arith, a.stateroom, e.states, grown)) in
          let x = le-ltb arcs (held_arcs k P + growth P key) (omega (arith, a.arcroom, e.arcs, grown)) in
          by_tests ∙ (λ i. first_failed (t i) (u i) (v i) (w i) (x i))
