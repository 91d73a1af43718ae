-- The key counts of the minimal machine are those that its states alone give. Assumes ascending keys and storable outputs.
use Rattle.std.proofs.Common.{◌≡◌, ℕ, zero, suc, ◌+◌, ◌<◌, List, [], ◌∷◌, ◌++◌, length, get_or, sym, refl, ap, ◌∙◌, subst, ap₂, append_assoc, append-nil, arith, length-append}
use mathlib.Core.Option.{some}
use lib.ListN.{length-map}
use Rattle.std.proofs.lemmas.List.{nil_from_length}
use Rattle.outputs.specs.Kinds.{Kind, Laws}
use Rattle.machines.specs.Lists.{at, Each}
use Rattle.machines.specs.Machines.{Arc, State, end_flag, sum_at}
use Rattle.machines.specs.Counts.{count_each, counts_of}
use Rattle.machines.specs.Pairs.{Pairs, under, Ascending, AllStorable}
use Rattle.machines.specs.Residuals.{first_prefixes}
use Rattle.machines.specs.Minimal.{state_of, minimal, key_counts}
use Rattle.machines.proofs.Targets.{targets_below}
use Rattle.machines.proofs.AcceptedKeys.{state_counted}

-- what stands in front is not changed by what follows
get_or_front : (D E : List ℕ) (i : ℕ) → i < length D → get_or (D ++ E) i 0 ≡ get_or D i 0
get_or_front [] E i h = absurd (omega arith)
get_or_front (d ∷ D) E zero h = refl
get_or_front (d ∷ D) E (suc i) h = get_or_front D E i (omega arith)

at_behind : (D : List ℕ) (e : ℕ) (E : List ℕ) → at (D ++ (e ∷ E)) (length D) ≡ some e
at_behind [] e E = refl
at_behind (d ∷ D) e E = at_behind D e E

module _ {A : Type 0} where
  sum_front : (D E : List ℕ) (arcs : List (Arc A)) → Each (λ arc. arc.target < length D) arcs → sum_at (D ++ E) arcs ≡ sum_at D arcs
  sum_front D E [] h = refl
  sum_front D E (arc ∷ arcs) h = ap₂ ◌+◌ (get_or_front D E arc.target h.0) (sum_front D E arcs h.1)

  -- states whose counts stand in a list behind those that are done
  recounted : (ss : List (State A)) (D E : List ℕ) → length E ≡ length ss
      → ((n : ℕ) (s : State A) → at ss n ≡ some s → Each (λ arc. arc.target < length D + n) s.arcs)
      → ((n : ℕ) (s : State A) → at ss n ≡ some s → at (D ++ E) (length D + n) ≡ some (end_flag s.end + sum_at (D ++ E) s.arcs))
      → count_each D ss ≡ D ++ E
  recounted [] D E l below counted = sym (append-nil D) ∙ ap (λ F. D ++ F) (sym (nil_from_length E l))
  recounted (s ∷ ss) D [] l below counted = absurd (omega arith)
  recounted (s ∷ ss) D (e ∷ E) l below counted =
      ap (λ c. count_each (D ++ (c ∷ [])) ss) (sym first)
      ∙ recounted ss (D ++ (e ∷ [])) E (omega (arith, l))
      (λ n t f. subst (λ m. Each (λ arc. arc.target < m) t.arcs) (place n) (below (suc n) t f))
      (λ n t f. subst (λ L. at L (length (D ++ (e ∷ [])) + n) ≡ some (end_flag t.end + sum_at L t.arcs)) (sym (append_assoc D (e ∷ []) E))
      (subst (λ m. at (D ++ (e ∷ E)) m ≡ some (end_flag t.end + sum_at (D ++ (e ∷ E)) t.arcs)) (place n) (counted (suc n) t f)))
      ∙ append_assoc D (e ∷ []) E
    where
      place : (n : ℕ) → length D + suc n ≡ length (D ++ (e ∷ [])) + n
      place n = omega (arith, length-append D (e ∷ []))

      here : Each (λ arc. arc.target < length D) s.arcs
      here = subst (λ m. Each (λ arc. arc.target < m) s.arcs) (omega arith) (below 0 s refl)

      first : e ≡ end_flag s.end + sum_at D s.arcs
      first =
          let f : at (D ++ (e ∷ E)) (length D) ≡ some (end_flag s.end + sum_at (D ++ (e ∷ E)) s.arcs)
          = subst (λ m. at (D ++ (e ∷ E)) m ≡ some (end_flag s.end + sum_at (D ++ (e ∷ E)) s.arcs)) (omega arith) (counted 0 s refl) in
          let g = at_behind D e E in
          let same : e ≡ end_flag s.end + sum_at (D ++ (e ∷ E)) s.arcs = cc in
          same ∙ ap (λ n. end_flag s.end + n) (sum_front D (e ∷ E) s.arcs here)

module _ (k : Kind) (laws : Laws k) (P : Pairs k.Ideal) (ascending : Ascending P) (storable : AllStorable k P) where
  pub counts_computed : counts_of (minimal k P).states ≡ key_counts k P
  counts_computed =
      recounted (minimal k P).states [] (key_counts k P)
      (length-map (first_prefixes k P) (λ u. length (under P u)) ∙ sym (length-map (first_prefixes k P) (state_of k P (first_prefixes k P))))
      (λ n s e. subst (λ m. Each (λ arc. arc.target < m) s.arcs) (omega arith) (targets_below k laws P n s e))
      (λ n s e. subst (λ m. at (key_counts k P) m ≡ some (end_flag s.end + sum_at (key_counts k P) s.arcs)) (omega arith) (state_counted k laws P ascending storable n s e))
