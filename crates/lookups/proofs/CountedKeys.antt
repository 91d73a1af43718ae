-- Numbers that each state has from its targets are the counts of the states. Assumes targets with lower numbers.
use Rattle.std.proofs.Common.{◌≡◌, ℕ, suc, ◌+◌, ◌<◌, List, [], ◌∷◌, ◌++◌, length, get_or, sym, refl, ap, ◌∙◌, subst, inl, inr, arith, length-append}
use mathlib.Core.Option.{some}
use Rattle.std.proofs.lemmas.List.{get_or_append_left, get_or-append-add}
use Rattle.std.proofs.lemmas.Bool.{cases_lt}
use Rattle.machines.specs.Lists.{at, Each}
use Rattle.machines.specs.Machines.{State, end_flag, sum_at}
use Rattle.machines.specs.Counts.{count_each, counts_of}
use Rattle.images.specs.Loads.{sum_over}
use Rattle.images.proofs.RecordReads.{sum_is}

module _ {A : Type 0} (f : ℕ → ℕ) where
  -- a state's number is that of its end and its targets, which are lower
  pub record Counted (q : ℕ) (s : State A) : Type 0 where
    pub keys : f q ≡ end_flag s.end + sum_over f s.arcs
    pub below : Each (λ arc. arc.target < q) s.arcs

  counts_on : (done : List ℕ) (ss : List (State A)) → ((i : ℕ) → i < length done → f i ≡ get_or done i 0) → ((i : ℕ) (s : State A) → at ss i ≡ some s → Counted (length done + i) s)
      → (i : ℕ) → i < length done + length ss → f i ≡ get_or (count_each done ss) i 0
  counts_on done [] same each i l = same i (omega arith)
  counts_on done (s ∷ ss) same each i l = counts_on more ss same' each' i (omega (arith, long))
    where
      own : ℕ
      own = end_flag s.end + sum_at done s.arcs

      more : List ℕ
      more = done ++ (own ∷ [])

      long : length more ≡ length done + 1
      long = length-append done (own ∷ [])

      first : f (length done) ≡ own
      first =
          let z : length done + 0 ≡ length done = omega arith in
          let c : Counted (length done) s = subst (λ (n : ℕ). Counted n s) z (each 0 s refl) in
          c.keys ∙ ap (λ (n : ℕ). end_flag s.end + n) (sum_is f done (length done) s.arcs c.below same)

      same' : (j : ℕ) → j < length more → f j ≡ get_or more j 0
      same' j m = elim (cases_lt j (length done)) [
        | inl b ↦ same j b ∙ sym (get_or_append_left done (own ∷ []) 0 j b)
        | inr b ↦
            let e : j ≡ length done = omega (arith, long) in
            let z : length done ≡ length done + 0 = omega arith in
            ap f e ∙ first ∙ sym (ap (λ (n : ℕ). get_or more n 0) (e ∙ z) ∙ get_or-append-add done (own ∷ []) 0 0)
      ]

      each' : (j : ℕ) (t : State A) → at ss j ≡ some t → Counted (length more + j) t
      each' j t h = let z : length done + suc j ≡ length more + j = omega (arith, long) in subst (λ (n : ℕ). Counted n t) z (each (suc j) t h)

  pub counts_are : (ss : List (State A)) → ((i : ℕ) (s : State A) → at ss i ≡ some s → Counted i s) → (i : ℕ) → i < length ss → f i ≡ get_or (counts_of ss) i 0
  counts_are ss each i l =
      counts_on [] ss (λ j m. absurd (omega arith)) (λ j s h. let z : j ≡ 0 + j = omega arith in subst (λ (n : ℕ). Counted n s) z (each j s h)) i (omega arith)
