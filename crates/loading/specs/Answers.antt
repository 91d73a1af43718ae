-- When code answers as a step of load does. Assumes nothing.
use Rattle.std.specs.Prelude.{◌≡◌, ℕ, Ok, Err, Result}
use Rattle.images.specs.Steps.{Step, reads, refuses}
use Rattle.loading.specs.declared.refusal.LoadRefusal.{LoadRefusal}
use Rattle.loading.specs.Refusals.{reported}

-- what the step reads, by a relation between the code's value and it, with the place behind; or the refusal that the step has
abbrev pub Answers : {X Y : Type 0} → (Y → X → Type 0) → Step X → Result (Y × ℕ) LoadRefusal → Type 0
Answers R (reads x p) (Ok r) = R r.0 x × (r.1 ≡ p)
Answers R (reads x p) (Err e) = ⊥
Answers R (refuses d) (Ok r) = ⊥
Answers R (refuses d) (Err e) = reported e ≡ d

-- the place behind what the step reads, or the refusal that the step has
abbrev pub Passes : {X : Type 0} → Step X → Result ℕ LoadRefusal → Type 0
Passes (reads x p) (Ok p') = p' ≡ p
Passes (reads x p) (Err e) = ⊥
Passes (refuses d) (Ok p') = ⊥
Passes (refuses d) (Err e) = reported e ≡ d
