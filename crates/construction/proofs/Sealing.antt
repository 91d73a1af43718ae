-- The machine that is sealed is the minimal one. Assumes ascending keys and storable outputs.
use Rattle.std.proofs.Common.{◌≡◌, ℕ, ◌-◌, ◌<◌, true, false, List, [], ◌∷◌, ◌++◌, length, sym, refl, ap, ◌∙◌, subst, inl, inr, arith}
use mathlib.Core.Option.{none, some}
use Rattle.std.proofs.lemmas.Bool.{cases_Bool, or_from}
use Rattle.outputs.specs.Kinds.{Kind, Laws}
use Rattle.machines.specs.Lists.{Each}
use Rattle.machines.specs.Keys.{Key, past}
use Rattle.machines.specs.Pairs.{Pairs, under, key_prefixes, Ascending, AllStorable}
use Rattle.machines.specs.Memory.{newest, closed_prefixes, held_classes}
use Rattle.machines.specs.Residuals.{greatest_common, rests, residual, alike, any_alike, first_prefixes}
use Rattle.machines.specs.Minimal.{minimal, key_counts}
use Rattle.machines.proofs.Lists.{each_map}
use Rattle.machines.proofs.StartLast.{longest, longest_under, longest_rests, longest_all, start_last}
use Rattle.machines.proofs.Stored.{under_within}
use Rattle.machines.proofs.OneMore.{newest_some}
use Rattle.construction.specs.Records.{Open, Closed, state_of}
use Rattle.construction.specs.Building.{held_after, sealed_states, sealed}
use Rattle.construction.specs.Theorems.{SealedMinimal}
use Rattle.construction.proofs.SortedPrefixes.{beyond, each_beyond}
use Rattle.construction.proofs.ClosedPrefixes.{all_prefixes}
use Rattle.construction.proofs.ClassLists.{enter_all, enter_append, firsts_are, held_are, each_enter}
use Rattle.construction.proofs.AlikeStates.{alike_residual}
use Rattle.construction.proofs.Expected.{closed_of}
use Rattle.construction.proofs.Entering.{closed_push}
use Rattle.construction.proofs.Settling.{settle_is}
use Rattle.construction.proofs.ClosedStates.{each_held, holds_closed, all_complete}
use Rattle.construction.proofs.Adding.{held_of}
use Rattle.construction.proofs.Holding.{held_is}

module _ (k : Kind) (laws : Laws k) where
  -- no other prefix is alike to the empty one: its longest string is longer
  empty_unlike : (P : Pairs k.Ideal) → Ascending P → AllStorable k P → 0 < length P → (a : ℕ) (v : Key) → alike k P [] (a ∷ v) ≡ false
  empty_unlike [] h s n a v = absurd (omega arith)
  empty_unlike (p ∷ P) h s n a v = elim (cases_Bool (alike k (p ∷ P) [] (a ∷ v))) [
    | inl e ↦
        let r = alike_residual k laws (p ∷ P) h s [] (a ∷ v) e in
        absurd (elim (longest_under (p ∷ P) (a ∷ v)) [
          | inl m ↦ let q : residual k (p ∷ P) [] ≡ [] = r ∙ ap (λ Q. rests k (greatest_common k (p ∷ P) (a ∷ v)) Q) m in let o : ◌≡◌ {A = ℕ} 0 1 = cc in omega arith
          | inr m ↦ omega (arith, ap longest r, longest_rests k (greatest_common k (p ∷ P) []) (under (p ∷ P) []), longest_rests k (greatest_common k (p ∷ P) (a ∷ v)) (under (p ∷ P) (a ∷ v)), longest_all k p P (p ∷ P))
        ])
    | inr e ↦ e
  ]

  none_empty : (P : Pairs k.Ideal) → Ascending P → AllStorable k P → 0 < length P → (vs : List Key) → Each (λ v. v ≡ [] → ⊥) vs → any_alike k P [] vs ≡ false
  none_empty P h s n [] g = refl
  none_empty P h s n (v ∷ vs) g = or_from (alike k P [] v) (any_alike k P [] vs) (one v g.0) (none_empty P h s n vs g.1)
    where
      one : (v : Key) → (v ≡ [] → ⊥) → alike k P [] v ≡ false
      one [] f = absurd (f refl)
      one (a ∷ v) f = empty_unlike P h s n a v

  module _ (P : Pairs k.Ideal) (ascending : Ascending P) (storable : AllStorable k P) (w : Key) (newest_is : newest P ≡ some w) (nonempty : 0 < length P) where
    -- the classes once all but the empty prefix are closed
    abbrev all_but : List Key
    all_but = enter_all k P (held_classes k P) (beyond [] w)

    all_but_nonempty : Each (λ v. v ≡ [] → ⊥) all_but
    all_but_nonempty =
        each_enter k P (λ v. v ≡ [] → ⊥) (held_classes k P) (beyond [] w)
        (each_map _ _ (held_classes k P) (λ v p e. let q : past [] w ≡ none = subst (λ u. past u w ≡ none) e p.1 in let o : ◌≡◌ {A = ℕ} 0 1 = cc in omega arith) (each_held k laws P ascending storable w newest_is))
        (each_map _ _ (beyond [] w) (λ v d e. let q = sym d.is ∙ e in let o : ◌≡◌ {A = ℕ} 0 1 = cc in omega arith) (each_beyond [] w))

    pub classes_end : all_but ++ ([] ∷ []) ≡ first_prefixes k P
    classes_end =
        ap {B = List Key} (λ t. elim t [ true ↦ all_but | false ↦ all_but ++ ([] ∷ []) ]) (sym (none_empty P ascending storable nonempty all_but all_but_nonempty))
        ∙ sym (enter_append k P (held_classes k P) (beyond [] w) ([] ∷ []))
        ∙ ap (λ cs. enter_all k P cs (beyond [] w ++ ([] ∷ []))) (held_are k P)
        ∙ sym (enter_append k P [] (closed_prefixes P) (beyond [] w ++ ([] ∷ [])))
        ∙ ap (enter_all k P []) (sym (all_prefixes P ascending w newest_is))
        ∙ firsts_are k P [] [] (key_prefixes P) (λ u. refl)

    states_of_held : sealed_states k (held_of k P w) ≡ closed_of k P (first_prefixes k P)
    states_of_held =
        let d = settle_is k laws P ascending storable w newest_is (held_classes k P) [] w refl (all_complete k laws P ascending storable w newest_is) (holds_closed k laws P ascending storable w newest_is) in
        ap finish d.is
        ∙ closed_push k laws P ascending storable all_but [] (length P - (length P - length (under P []))) (omega (arith, under_within P [])) d.all d.here
        ∙ ap (closed_of k P) classes_end
      where
        finish : Closed k.Ideal × Open k.Ideal → Closed k.Ideal
        finish r = record { states = r.0.states ++ (state_of r.1 ∷ []); counts = r.0.counts ++ ((length P - r.1.since) ∷ []) }

    pub sealed_is : sealed k (held_after k P) ≡ minimal k P
    sealed_is =
        let held = held_is k laws P w ascending storable newest_is in
        let states = ap (λ c. c.states) (ap (sealed_states k) held ∙ states_of_held) in
        let start : length (sealed_states k (held_after k P)).states - 1 ≡ (minimal k P).start
        = omega (arith, ap length states, start_last k P nonempty) in
        let put_out : (held_after k P).start ≡ greatest_common k P [] = ap (λ h. h.start) held in
        λ i. record { start = start i; start_output = put_out i; states = states i }

    pub counts_are : (sealed_states k (held_after k P)).counts ≡ key_counts k P
    counts_are = ap (λ c. c.counts) (ap (sealed_states k) (held_is k laws P w ascending storable newest_is) ∙ states_of_held)

  pub sealed_minimal : (P : Pairs k.Ideal) → Ascending P → AllStorable k P → 0 < length P → SealedMinimal k P
  sealed_minimal [] h s n = absurd (omega arith)
  sealed_minimal (p ∷ P) h s n =
      let w = newest_some p P in
      record { machine = sealed_is (p ∷ P) h s w.0 w.1 n; counts = counts_are (p ∷ P) h s w.0 w.1 n }
