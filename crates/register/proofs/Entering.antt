-- What is entered stays entered when a free slot is taken. Assumes that the slot is there.
use Rattle.std.proofs.Common.{◌≡◌, ℕ, zero, suc, ◌+◌, ◌<◌, ◌≤◌, List, [], ◌∷◌, length, get_or, set, sym, refl, ap, ◌∙◌, subst, ⊎_elim, add-one, arith}
use Rattle.std.proofs.lemmas.List.{length-set, get_or-set_same, get_or-set_other}
use Rattle.std.proofs.lemmas.Bool.{cases_eq}
use Rattle.register.specs.Slots.{EachBefore, Taken, used, Entered, Hole}

used_suc : (ts : List ℕ) (i v : ℕ) → i < length ts → get_or ts i 0 ≡ 0 → used (set ts i (suc v)) ≡ suc (used ts)
used_suc [] i v h f = absurd (omega arith)
used_suc (zero ∷ ts) zero v h f = refl
used_suc (suc t ∷ ts) zero v h f = absurd (omega arith)
used_suc (zero ∷ ts) (suc i) v h f = used_suc ts i v (omega arith) f
used_suc (suc t ∷ ts) (suc i) v h f = ap suc (used_suc ts i v (omega arith) f)

pub used_set : (ts : List ℕ) (i v : ℕ) → i < length ts → get_or ts i 0 ≡ 0 → used (set ts i (v + 1)) ≡ used ts + 1
used_set ts i v h f = let e : suc (used ts) ≡ used ts + 1 = omega arith in rw add-one (used_suc ts i v h f ∙ e)

pub used_none : (ts : List ℕ) → ((i : ℕ) → get_or ts i 0 ≡ 0) → used ts ≡ 0
used_none [] k = refl
used_none (zero ∷ ts) k = used_none ts (λ i. k (suc i))
used_none (suc t ∷ ts) k = absurd (omega (arith, k 0))

-- no slot holds more than n, and the new entry is at most n + 1
pub known_set : (ts : List ℕ) (i v n : ℕ) → ((j : ℕ) → get_or ts j 0 ≤ n) → i < length ts → v ≤ n + 1 → (j : ℕ) → get_or (set ts i v) j 0 ≤ n + 1
known_set ts i v n k w h j =
    ⊎_elim (λ (e : j ≡ i). let a = get_or-set_same ts i v 0 w in let u : get_or (set ts i v) j 0 ≡ get_or (set ts i v) i 0 = ap (λ (m : ℕ). get_or (set ts i v) m 0) e in omega arith)
    (λ (e : j ≡ i → ⊥). omega (arith, get_or-set_other ts i j v 0 e, k j)) (cases_eq j i)

module _ (ts : List ℕ) (i v : ℕ) (within : i < length ts) where
  still_taken : (j : ℕ) → Taken ts j → Taken (set ts i (v + 1)) j
  still_taken j u =
      ⊎_elim
      (λ (e : j ≡ i). λ z. let w : get_or (set ts i (v + 1)) i 0 ≡ v + 1 = get_or-set_same ts i (v + 1) 0 within in let z' : get_or (set ts i (v + 1)) i 0 ≡ 0 = subst (λ (k : ℕ). get_or (set ts i (v + 1)) k 0 ≡ 0) e z in omega arith)
      (λ (e : j ≡ i → ⊥). λ z. u (sym (get_or-set_other ts i j (v + 1) 0 e) ∙ z))
      (cases_eq j i)

  still_before : (h a : ℕ) → EachBefore h (length ts) a (Taken ts) → EachBefore h (length (set ts i (v + 1))) a (Taken (set ts i (v + 1)))
  still_before h a c = record {
    up = λ j p q r. still_taken j (c.up j p q r);
    to_end = λ j p q r. still_taken j (c.to_end j p q (rw length-set at r));
    from_start = λ j p q. still_taken j (c.from_start j p q);
  }

  pub entered_new : (h : ℕ) → Hole ts h i → Entered h (set ts i (v + 1)) v
  entered_new h o = record { slot = i; within = simp length-set within; holds = get_or-set_same ts i (v + 1) 0 within; way = still_before h i o.way }

  pub entered_still : get_or ts i 0 ≡ 0 → (h q : ℕ) → Entered h ts q → Entered h (set ts i (v + 1)) q
  entered_still free h q p =
      let other : p.slot ≡ i → ⊥ = λ e. (let w : get_or ts p.slot 0 ≡ 0 = subst (λ (k : ℕ). get_or ts k 0 ≡ 0) (sym e) free in omega (arith, p.holds)) in
      record { slot = p.slot; within = simp length-set p.within; holds = get_or-set_other ts i p.slot (v + 1) 0 other ∙ p.holds; way = still_before h p.slot p.way }
