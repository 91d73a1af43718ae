-- A state that is entered is met before a free slot, so an equal one is found. Assumes nothing.
use Rattle.std.proofs.Common.{◌≡◌, ℕ, zero, suc, ◌-◌, ◌<◌, ◌≤◌, List, [], ◌∷◌, length, get_or, sym, refl, ap, subst, ⊎_elim, arith}
use Rattle.std.proofs.lemmas.Bool.{cases_lt, cases_order}
use Rattle.register.specs.Slots.{EachBefore, Taken, used, Entered}
use Rattle.register.specs.Answers.{Among, Other, FirstFree, Missing}

-- of two slots, one is probed first
module _ (h l a i : ℕ) (P Q : ℕ → Type 0) (X : Type 0) (aw : a < l) (iw : i < l) (ca : EachBefore h l a P) (ci : EachBefore h l i Q) (same : a ≡ i → X) (first : Q a → X) (later : P i → X) where
  either_first : X
  either_first =
      ⊎_elim same
      (⊎_elim
      (λ (lt : a < i). ⊎_elim (λ (ih : i < h). first (ci.from_start a ih lt)) (λ (hi : h ≤ i). ⊎_elim (λ (ah : a < h). later (ca.to_end i ah hi iw)) (λ (ha : h ≤ a). first (ci.up a hi ha lt)) (cases_lt a h)) (cases_lt i h))
      (λ (lt : i < a). ⊎_elim (λ (ah : a < h). later (ca.from_start i ah lt)) (λ (ha : h ≤ a). ⊎_elim (λ (ih : i < h). first (ci.to_end a ih ha aw)) (λ (hi : h ≤ i). later (ca.up i ha hi lt)) (cases_lt i h)) (cases_lt a h)))
      (cases_order a i)

module _ (n : ℕ) (E : ℕ → Type 0) (ts : List ℕ) (h i : ℕ) (within : i < length ts) (free : get_or ts i 0 ≡ 0) (passed : EachBefore h (length ts) i (Other (Among n E) ts)) where
  absent : (q : ℕ) → q < n → Entered h ts q → E q → ⊥
  absent q lt p e =
      either_first h (length ts) p.slot i (Taken ts) (Other (Among n E) ts) ⊥ p.within within p.way passed
      (λ (ai : p.slot ≡ i). let w : get_or ts p.slot 0 ≡ 0 = subst (λ (k : ℕ). get_or ts k 0 ≡ 0) (sym ai) free in omega (arith, p.holds))
      (λ (x : Other (Among n E) ts p.slot). let w : get_or ts p.slot 0 - 1 ≡ q = omega (arith, p.holds) in x.other (subst (Among n E) (sym w) (lt, e)))
      (λ (u : Taken ts i). u free)

  missing : Missing n E ts h i
  missing = record {
    hole = record { within = within; free = free; way = record { up = λ j a b c. (passed.up j a b c).taken; to_end = λ j a b c. (passed.to_end j a b c).taken; from_start = λ j a b. (passed.from_start j a b).taken } };
    none_equal = absent;
  }

-- the free slot lies behind home
pub missing_behind : (n : ℕ) (E : ℕ → Type 0) (ts : List ℕ) (h i : ℕ) → FirstFree (Among n E) ts h (length ts) i → Missing n E ts h i
missing_behind n E ts h i f = missing n E ts h i f.high f.free (record { up = λ j a b c. f.passed j b c; to_end = λ j a b c. absurd (omega (arith, f.low)); from_start = λ j a b. absurd (omega (arith, f.low)) })

-- the free slot lies before home
pub missing_before : (n : ℕ) (E : ℕ → Type 0) (ts : List ℕ) (h i : ℕ) → h < length ts → ((j : ℕ) → h ≤ j → j < length ts → Other (Among n E) ts j) → FirstFree (Among n E) ts 0 h i → Missing n E ts h i
missing_before n E ts h i hw all f = missing n E ts h i (omega (arith, f.high)) f.free (record { up = λ j a b c. absurd (omega (arith, f.high)); to_end = λ j a b c. all j b c; from_start = λ j a b. f.passed j (omega arith) b })

-- where no slot is free, all are used
pub used_all : (ts : List ℕ) → ((j : ℕ) → j < length ts → Taken ts j) → used ts ≡ length ts
used_all [] all = refl
used_all (zero ∷ ts) all = absurd (all 0 (omega arith) refl)
used_all (suc t ∷ ts) all = ap suc (used_all ts (λ j h. all (suc j) (omega arith)))
