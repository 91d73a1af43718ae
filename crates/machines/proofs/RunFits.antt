-- The minimal machine of what a run takes has room in the memory of the run. Assumes the laws of a kind, and storable outputs.
use Rattle.std.proofs.Common.{◌≡◌, ℕ, ◌+◌, ◌≤◌, Bool, true, false, not, ltb, leb, ◌⊎◌, [], ◌∷◌, ◌++◌, length, sym, refl, ap, ◌∙◌, inl, inr, arith, ltb-false}
use mathlib.Core.Option.{Option, none, some}
use Rattle.outputs.specs.Kinds.{Kind, Laws}
use Rattle.machines.specs.Keys.{Key, lower}
use Rattle.machines.specs.Machines.{count_arcs}
use Rattle.machines.specs.Pairs.{Pairs, Ascending, AllStorable}
use Rattle.machines.specs.Minimal.{minimal}
use Rattle.machines.specs.Memory.{not_above, held_states, held_arcs, growth, refusal}
use Rattle.machines.specs.Runs.{put_unless, taken}
use Rattle.machines.proofs.OneMore.{newest_some}
use Rattle.machines.proofs.RunFacts.{is_true, ascending_put, storable_put}
use Rattle.machines.proofs.HeldMemory.{held_enough, held_grows, held_first}

module _ (k : Kind) (laws : Laws k) (S A : ℕ) where
  -- a key that is taken is above the newest, and has room
  roomy : (P : Pairs k.Ideal) (key : Key) → refusal k S A P key ≡ none → (not_above P key ≡ false) × (ltb S (held_states k P + growth P key) ≡ false) × (ltb A (held_arcs k P + growth P key) ≡ false)
  unfolding refusal
  roomy P key e = go (ltb 64 (length key)) (not_above P key) (leb 1048575 (length P)) (ltb S (held_states k P + growth P key)) (ltb A (held_arcs k P + growth P key)) e
    where
      go : (s t v x y : Bool)
          → ◌≡◌ {A = Option ℕ} (elim s [ true ↦ some 5 | false ↦ elim t [ true ↦ some 6 | false ↦ elim v [ true ↦ some 7 | false ↦ elim x [ true ↦ some 8 | false ↦ elim y [ true ↦ some 9 | false ↦ none ] ] ] ] ]) none
          → (t ≡ false) × (x ≡ false) × (y ≡ false)
      go true t v x y f = let o : ◌≡◌ {A = ℕ} 0 1 = cc in absurd (omega arith)
      go false true v x y f = let o : ◌≡◌ {A = ℕ} 0 1 = cc in absurd (omega arith)
      go false false true x y f = let o : ◌≡◌ {A = ℕ} 0 1 = cc in absurd (omega arith)
      go false false false true y f = let o : ◌≡◌ {A = ℕ} 0 1 = cc in absurd (omega arith)
      go false false false false true f = let o : ◌≡◌ {A = ℕ} 0 1 = cc in absurd (omega arith)
      go false false false false false f = (refl, refl, refl)

  -- nothing is taken yet, or what is held has room
  Room : Pairs k.Ideal → Type 0
  Room P = (P ≡ []) ⊎ ((held_states k P ≤ S) × (held_arcs k P ≤ A))

  room_end : (P : Pairs k.Ideal) (e : Key × k.Ideal) → refusal k S A P e.0 ≡ none → Ascending P → AllStorable k P → Room P → Room (P ++ (e ∷ []))
  unfolding Room
  room_end [] e f a s h =
      let r = roomy [] e.0 f in
      let g = held_first k laws e in
      inr (omega (arith, g.0, ltb-false S _ r.1), omega (arith, g.1, ltb-false A _ r.2))
  room_end (p ∷ P) e f a s h =
      let r = roomy (p ∷ P) e.0 f in
      let n = newest_some p P in
      let above : lower n.0 e.0 ≡ true
      = is_true (lower n.0 e.0) (sym (ap (λ (o : Option Key). elim o as (λ x. Bool) [ none ↦ false | some last ↦ not (lower last e.0) ]) n.1) ∙ r.0) in
      let g = held_grows k laws (p ∷ P) e n.0 n.1 a above s in
      inr (omega (arith, g.0, ltb-false S _ r.1), omega (arith, g.1, ltb-false A _ r.2))

  room_put : (P : Pairs k.Ideal) (e : Key × k.Ideal) (o : Option ℕ) → refusal k S A P e.0 ≡ o → Ascending P → AllStorable k P → Room P → Room (put_unless o P e)
  room_put P e none f a s h = room_end P e f a s h
  room_put P e (some n) f a s h = h

  room_taken : (P es : Pairs k.Ideal) → Ascending P → AllStorable k P → AllStorable k es → Room P → Room (taken k S A P es) × AllStorable k (taken k S A P es)
  room_taken P [] a s t h = (h, s)
  room_taken P (e ∷ es) a s t h =
      room_taken (put_unless (refusal k S A P e.0) P e) es
      (ascending_put k S A P e (refusal k S A P e.0) refl a) (storable_put k S A P e (refusal k S A P e.0) s t.0) t.1
      (room_put P e (refusal k S A P e.0) refl a s h)

  enough : (P : Pairs k.Ideal) → AllStorable k P → Room P → (length (minimal k P).states ≤ S) × (count_arcs (minimal k P).states ≤ A)
  unfolding Room
  enough [] s h = (omega arith, omega arith)
  enough (p ∷ P) s (inl e) = let z : ◌≡◌ {A = ℕ} 0 1 = cc in absurd (omega arith)
  enough (p ∷ P) s (inr h) =
      let n = newest_some p P in
      let g = held_enough k laws (p ∷ P) n.0 n.1 s in
      (omega (arith, g.0, h.0), omega (arith, g.1, h.1))

  pub run_fits : (es : Pairs k.Ideal) → AllStorable k es → (length (minimal k (taken k S A [] es)).states ≤ S) × (count_arcs (minimal k (taken k S A [] es)).states ≤ A)
  unfolding Room
  run_fits es t = let r = room_taken [] es tt tt t (inl refl) in enough (taken k S A [] es) r.1 r.0
