-- No string along the arcs of the minimal machine is longer than the keys. Assumes ascending keys and storable outputs.
use Rattle.std.proofs.Common.{◌≡◌, ℕ, zero, suc, ◌+◌, ◌≤◌, max, ◌⊎◌, List, [], ◌∷◌, ◌++◌, map, length, get_or, sym, refl, ap, ◌∙◌, subst, inl, inr, arith, length-append}
use mathlib.Core.Option.{none, some}
use Rattle.outputs.specs.Kinds.{Kind, Laws}
use Rattle.machines.specs.Lists.{at}
use Rattle.machines.specs.Keys.{Key}
use Rattle.machines.specs.Machines.{answer_from}
use Rattle.machines.specs.Lengths.{longest_on, longest_each, longest_from}
use Rattle.machines.specs.Pairs.{Pairs, output_of, under, KeyPrefix, first_bytes, Ascending, AllStorable, ShortKeys}
use Rattle.machines.specs.Residuals.{greatest_common, first_prefixes, class_number}
use Rattle.machines.specs.Minimal.{arcs_of, state_of, minimal}
use Rattle.machines.proofs.Lists.{In}
use Rattle.machines.proofs.Under.{under_found, rests_found}
use Rattle.machines.proofs.KeyCounts.{under_under}
use Rattle.machines.proofs.StartLast.{longest, longest_under, longest_rests}
use Rattle.machines.proofs.RightAnswers.{class_first, answers}
use Rattle.machines.proofs.Targets.{next_prefix}
use Rattle.machines.proofs.ByteStrings.{found_each}
use Rattle.machines.proofs.Walks.{rest_found}

-- one more at the end
get_or_end : (D : List ℕ) (x j : ℕ) → ((j ≡ length D) × (get_or (D ++ (x ∷ [])) j 0 ≡ x)) ⊎ (get_or (D ++ (x ∷ [])) j 0 ≡ get_or D j 0)
get_or_end [] x zero = inl (refl, refl)
get_or_end [] x (suc j) = inr refl
get_or_end (d ∷ D) x zero = inr refl
get_or_end (d ∷ D) x (suc j) = elim (get_or_end D x j) [ inl e ↦ inl (ap suc e.0, e.1) | inr e ↦ inr e ]

longest_short : {A : Type 0} (P : Pairs A) → ShortKeys P → longest P ≤ 64
longest_short [] h = omega arith
longest_short (p ∷ P) h = omega (arith, h.0, longest_short P h.1)

longest_whole : {A : Type 0} (P : Pairs A) → longest (under P []) ≡ longest P
longest_whole [] = refl
longest_whole (p ∷ P) = ap (max (length p.0)) (longest_whole P)

module _ (k : Kind) (laws : Laws k) (P : Pairs k.Ideal) (ascending : Ascending P) (storable : AllStorable k P) where
  -- so far no state has more than the longest key behind its first prefix
  Bounded : List ℕ → Type 0
  Bounded D = (j : ℕ) (v : Key) → at (first_prefixes k P) j ≡ some v → get_or D j 0 ≤ longest (under P v)

  class_bounded : (D : List ℕ) → Bounded D → (u : Key) → KeyPrefix P u → get_or D (class_number k P u) 0 ≤ longest (under P u)
  unfolding Bounded
  class_bounded D h u s =
      let c = class_first k laws P ascending storable u s in
      omega (arith, h (class_number k P u) c.0 c.1, longest_rests k (greatest_common k P c.0) (under P c.0), longest_rests k (greatest_common k P u) (under P u), ap longest c.2)

  longer_less : (u : Key) (a : ℕ) → KeyPrefix P (u ++ (a ∷ [])) → suc (longest (under P (u ++ (a ∷ [])))) ≤ longest (under P u)
  longer_less u a s = go (longest_under (under P u) (a ∷ []))
    where
      go : (under (under P u) (a ∷ []) ≡ []) ⊎ (longest (under (under P u) (a ∷ [])) + 1 ≤ longest (under P u)) → suc (longest (under P (u ++ (a ∷ [])))) ≤ longest (under P u)
      go (inl e) =
          let n : output_of (under P (u ++ (a ∷ []))) s.0 ≡ none = ap (λ Q. output_of Q s.0) (sym (under_under P u a ascending) ∙ e) in
          let y = under_found P (u ++ (a ∷ [])) s.0 ∙ s.2 in
          let o : ◌≡◌ {A = ℕ} 0 1 = cc in absurd (omega arith)
      go (inr h) = omega (arith, ap longest (under_under P u a ascending))

  arcs_bounded : (D : List ℕ) → Bounded D → (u : Key) (bs : List ℕ) → ((a : ℕ) → In a bs → In a (first_bytes (under P u)))
      → longest_on D (arcs_of k P (first_prefixes k P) u bs) ≤ longest (under P u)
  arcs_bounded D h u [] f = omega arith
  arcs_bounded D h u (b ∷ bs) f =
      let s = next_prefix k laws P u b (f b (inl refl)) in
      omega (arith, class_bounded D h (u ++ (b ∷ [])) s, longer_less u b s, arcs_bounded D h u bs (λ a i. f a (inr i)))

  each_bounded : (us : List Key) (D : List ℕ) → Bounded D → ((n : ℕ) (v : Key) → at us n ≡ some v → at (first_prefixes k P) (length D + n) ≡ some v)
      → Bounded (longest_each D (map (state_of k P (first_prefixes k P)) us))
  unfolding Bounded
  each_bounded [] D h place = h
  each_bounded (u ∷ us) D h place =
      each_bounded us (D ++ (x ∷ [])) next
      (λ n v e. subst (λ i. at (first_prefixes k P) i ≡ some v) (omega (arith, length-append D (x ∷ []))) (place (suc n) v e))
    where
      x : ℕ
      x = longest_on D (arcs_of k P (first_prefixes k P) u (first_bytes (under P u)))

      next : Bounded (D ++ (x ∷ []))
      next j v e = go (get_or_end D x j)
        where
          go : ((j ≡ length D) × (get_or (D ++ (x ∷ [])) j 0 ≡ x)) ⊎ (get_or (D ++ (x ∷ [])) j 0 ≡ get_or D j 0) → get_or (D ++ (x ∷ [])) j 0 ≤ longest (under P v)
          go (inl p) =
              let here : at (first_prefixes k P) j ≡ some u = subst (λ i. at (first_prefixes k P) i ≡ some u) (omega (arith, p.0)) (place 0 u refl) in
              let vu : v ≡ u = cc in
              omega (arith, p.1, ap (λ y. longest (under P y)) vu, arcs_bounded D h u (first_bytes (under P u)) (λ a i. i))
          go (inr p) = omega (arith, p, h j v e)

  pub start_shallow : KeyPrefix P [] → ShortKeys P → longest_from (minimal k P).states (minimal k P).start ≤ 64
  unfolding Bounded
  start_shallow nonempty short =
      omega (
        arith,
        class_bounded _ (each_bounded (first_prefixes k P) [] (λ j v e. omega arith) (λ n v e. subst (λ i. at (first_prefixes k P) i ≡ some v) (omega arith) e)) [] nonempty,
        longest_whole P,
        longest_short P short,
      )

  -- what the start accepts is a key
  pub start_short : KeyPrefix P [] → ShortKeys P → (w : Key) (z : k.Ideal) → answer_from k (minimal k P).states (minimal k P).start w ≡ some z → length w ≤ 64
  start_short nonempty short w z e =
      let f = rest_found k laws _ (output_of (under P []) w) z (sym (rests_found k laws _ (under P []) w) ∙ sym (answers k laws P ascending storable w [] nonempty) ∙ e) in
      found_each (λ v. length v ≤ 64) P w f.0 short (sym (under_found P [] w) ∙ f.1)
