-- The last arc of a part of a list of arcs: what it is, and what another output on it changes. Assumes nothing.
use Rattle.std.proofs.Common.{◌≡◌, ℕ, zero, suc, ◌+◌, ◌<◌, ◌≤◌, List, [], ◌∷◌, length, get_or, take, drop, set, refl, ap, subst, arith}
use Rattle.outputs.specs.Kinds.{Kind}
use Rattle.machines.specs.Machines.{Arc as Edge}
use Rattle.construction.specs.Records.{last_byte}
use Rattle.construction.specs.Steps.{last_output, with_last_output}

-- what lies before a place that is written
pub set_before : {X : Type 0} (l s c : ℕ) (es : List X) (e : X) → s + c ≤ l → take c (drop s (set es l e)) ≡ take c (drop s es)
set_before l s c [] e h = refl
set_before zero zero zero (x ∷ es) e h = refl
set_before zero zero (suc c) (x ∷ es) e h = absurd (omega arith)
set_before zero (suc s) c (x ∷ es) e h = absurd (omega arith)
set_before (suc l) zero zero (x ∷ es) e h = refl
set_before {X} (suc l) zero (suc c) (x ∷ es) e h = ap (λ (r : List X). x ∷ r) (set_before l zero c es e (omega arith))
set_before (suc l) (suc s) c (x ∷ es) e h = set_before l s c es e (omega arith)

module _ (k : Kind) where
  abbrev pub EndsIn : Edge k.Ideal → List (Edge k.Ideal) → Type 0
  EndsIn e es = (e.byte ≡ last_byte es) × (e.output ≡ last_output k es)

  last_front : (l : ℕ) (es : List (Edge k.Ideal)) (e : Edge k.Ideal) → l < length es → e ≡ get_or es l e → EndsIn e (take (suc l) es)
  last_front l [] e h q = absurd (omega arith)
  last_front zero (x ∷ es) e h q = (ap (λ (y : Edge k.Ideal). y.byte) q, ap (λ (y : Edge k.Ideal). y.output) q)
  last_front (suc l) (x ∷ []) e h q = absurd (omega arith)
  last_front (suc l) (x ∷ y ∷ es) e h q = last_front l (y ∷ es) e (omega arith) q

  -- the arc at place l is the last of those from p on, c of them
  pub last_part : (p c l : ℕ) (es : List (Edge k.Ideal)) (e : Edge k.Ideal) → l + 1 ≡ p + c → 0 < c → l < length es → e ≡ get_or es l e → EndsIn e (take c (drop p es))
  last_part zero c l es e s o h q = let n : suc l ≡ c = omega arith in subst (λ (m : ℕ). EndsIn e (take m es)) n (last_front l es e h q)
  last_part (suc p) c l [] e s o h q = absurd (omega arith)
  last_part (suc p) c zero (x ∷ es) e s o h q = absurd (omega arith)
  last_part (suc p) c (suc l) (x ∷ es) e s o h q = last_part p c l es e (omega arith) o (omega arith) q

  module _ (x : k.Ideal) where
    abbrev pub with_output : Edge k.Ideal → Edge k.Ideal
    with_output e = record { byte = e.byte; target = e.target; output = x }

    lead_front : (l : ℕ) (es : List (Edge k.Ideal)) (e : Edge k.Ideal) → l < length es → e ≡ get_or es l e → take (suc l) (set es l (with_output e)) ≡ with_last_output k x (take (suc l) es)
    lead_front l [] e h q = absurd (omega arith)
    lead_front zero (y ∷ es) e h q = ap (λ (z : Edge k.Ideal). with_output z ∷ []) q
    lead_front (suc l) (y ∷ []) e h q = absurd (omega arith)
    lead_front (suc l) (y ∷ z ∷ es) e h q = ap (λ (r : List (Edge k.Ideal)). y ∷ r) (lead_front l (z ∷ es) e (omega arith) q)

    -- the same part, once the arc at place l has another output
    pub lead_part : (p c l : ℕ) (es : List (Edge k.Ideal)) (e : Edge k.Ideal) → l + 1 ≡ p + c → 0 < c → l < length es → e ≡ get_or es l e → take c (drop p (set es l (with_output e))) ≡ with_last_output k x (take c (drop p es))
    lead_part zero c l es e s o h q = let n : suc l ≡ c = omega arith in subst (λ (m : ℕ). take m (set es l (with_output e)) ≡ with_last_output k x (take m es)) n (lead_front l es e h q)
    lead_part (suc p) c l [] e s o h q = absurd (omega arith)
    lead_part (suc p) c zero (y ∷ es) e s o h q = absurd (omega arith)
    lead_part (suc p) c (suc l) (y ∷ es) e s o h q = lead_part p c l es e (omega arith) o (omega arith) q
