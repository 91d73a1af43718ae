-- What code answered, as an equation of the step, and back. Assumes nothing.
use Rattle.std.proofs.Common.{◌≡◌, ℕ, IsErrAnd, IfOk, Ok, Err, Result, sym, refl, ap, subst}
use Rattle.images.specs.Steps.{Step, reads, refuses, Refusal}
use Rattle.loading.specs.declared.refusal.LoadRefusal.{LoadRefusal}
use Rattle.loading.specs.Refusals.{reported}
use Rattle.loading.specs.Answers.{Answers, Passes}

module _ {X Y : Type 0} (R : Y → X → Type 0) where
  -- what a step reads that code answered
  pub has_read : (s : Step X) (y : Y × ℕ) → Answers R s (Ok y) → (x : X) × ((s ≡ reads x y.1) × R y.0 x)
  has_read (reads x p) y h = (x, (ap {A = ℕ} {B = Step X} (λ q. reads x q) (sym h.1), h.0))
  has_read (refuses d) y h = absurd h

  -- the refusal of a step that code refused
  pub has_refused : (s : Step X) (e : LoadRefusal) → Answers R s (Err e) → s ≡ refuses (reported e)
  has_refused (reads x p) e h = absurd h
  has_refused (refuses d) e h = ap {A = Refusal} {B = Step X} (λ z. refuses z) (sym h)

  pub is_read : (s : Step X) (x : X) (y : Y) (p : ℕ) → s ≡ reads x p → R y x → Answers R s (Ok (y, p))
  is_read s x y p e h = subst (λ (z : Step X). Answers R z (Ok (y, p))) (sym e) (h, refl)

  -- the exit of a `?` after a call that was refused
  pub is_refused : (s : Step X) (e : LoadRefusal) (r : Result (Y × ℕ) LoadRefusal) (P : Y × ℕ → Type 0) → s ≡ refuses (reported e) → IsErrAnd r (λ y. y ≡ e) → Answers R s r × IfOk r P
  is_refused s e (Ok y) P h k = absurd k
  is_refused s e (Err y) P h k = (subst (λ (z : Step X). Answers R z (Err y)) (sym h) (ap {A = LoadRefusal} {B = Refusal} reported k), tt)

module _ {X : Type 0} where
  pub is_passed : (s : Step X) (x : X) (p : ℕ) → s ≡ reads x p → Passes s (Ok p)
  is_passed s x p e = subst (λ (z : Step X). Passes z (Ok p)) (sym e) refl

  pub is_failed : (s : Step X) (e : LoadRefusal) → s ≡ refuses (reported e) → Passes s (Err e)
  is_failed s e h = subst (λ (z : Step X). Passes z (Err e)) (sym h) refl

  pub has_passed : (s : Step X) (p : ℕ) → Passes s (Ok p) → (x : X) × (s ≡ reads x p)
  has_passed (reads x q) p h = (x, ap {A = ℕ} {B = Step X} (λ z. reads x z) (sym h))
  has_passed (refuses d) p h = absurd h

  pub has_stopped : (s : Step X) (e : LoadRefusal) → Passes s (Err e) → s ≡ refuses (reported e)
  has_stopped (reads x p) e h = absurd h
  has_stopped (refuses d) e h = ap {A = Refusal} {B = Step X} (λ z. refuses z) (sym h)

  pub is_stopped : (s : Step X) (e : LoadRefusal) (r : Result ℕ LoadRefusal) (P : ℕ → Type 0) → s ≡ refuses (reported e) → IsErrAnd r (λ y. y ≡ e) → Passes s r × IfOk r P
  is_stopped s e (Ok y) P h k = absurd k
  is_stopped s e (Err y) P h k = (subst (λ (z : Step X). Passes z (Err y)) (sym h) (ap {A = LoadRefusal} {B = Refusal} reported k), tt)
