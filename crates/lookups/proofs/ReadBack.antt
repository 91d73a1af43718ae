-- What a step of load that reads says of its parts. Assumes nothing.
use Rattle.std.proofs.Common.{◌≡◌, ℕ, ◌+◌, ◌≤◌, Bool, true, false, leb, List, length, take, drop, sym, refl, ap, ◌∙◌, arith, leb-true}
use Rattle.outputs.specs.Bits.{value}
use Rattle.outputs.specs.Kinds.{Kind, Reading, got, begun, no_code}
use Rattle.images.specs.Steps.{Step, reads, refuses, Reader, ◌>>=◌, ◌>>◌, refuse, field, field_if, output, output_if}
use Rattle.lookups.specs.Standing.{OutputStands}

-- steps that read the same have read the same value, and stop at the same place
pub one_value : {A : Type 0} {x y : A} {p q : ℕ} → reads x p ≡ reads y q → x ≡ y
one_value h = cc

pub one_place : {A : Type 0} {x y : A} {p q : ℕ} → reads x p ≡ reads y q → p ≡ q
one_place h = cc

-- both of two steps in turn read
pub record BothRead {A B : Type 0} (r : Reader A) (f : A → Reader B) (p : ℕ) (y : B) (e : ℕ) : Type 0 where
  pub first : A
  pub behind : ℕ
  pub read : r p ≡ reads first behind
  pub after : f first behind ≡ reads y e

pub both_read : {A B : Type 0} (r : Reader A) (f : A → Reader B) (p : ℕ) (y : B) (e : ℕ) → ◌>>=◌ r f p ≡ reads y e → BothRead r f p y e
both_read {A} {B} r f p y e = go (r p) refl
  where
    go : (s : Step A) → r p ≡ s → ◌≡◌ {A = Step B} (elim s [ reads x q ↦ f x q | refuses d ↦ refuses d ]) (reads y e) → BothRead r f p y e
    go (reads x q) h t = record { first = x; behind = q; read = h; after = t }
    go (refuses d) h t = let z : ◌≡◌ {A = ℕ} 0 1 = cc in absurd (omega arith)

-- the same where nothing depends on what was read first
pub both_passed : {A B : Type 0} (r : Reader A) (s : Reader B) (p : ℕ) (y : B) (e : ℕ) → ◌>>◌ r s p ≡ reads y e → BothRead r (λ x. s) p y e
both_passed {A} {B} r s p y e = go (r p) refl
  where
    go : (t : Step A) → r p ≡ t → ◌≡◌ {A = Step B} (elim t [ reads x q ↦ s q | refuses d ↦ refuses d ]) (reads y e) → BothRead r (λ x. s) p y e
    go (reads x q) h t = record { first = x; behind = q; read = h; after = t }
    go (refuses d) h t = let z : ◌≡◌ {A = ℕ} 0 1 = cc in absurd (omega arith)

-- a test that was passed found no fault
pub tested : {B : Type 0} (n at : ℕ) (t : Bool) (s : Reader B) (p : ℕ) (y : B) (e : ℕ) → ◌>>◌ (refuse n at t) s p ≡ reads y e → (t ≡ false) × (s p ≡ reads y e)
tested n at true s p y e h = let z : ◌≡◌ {A = ℕ} 0 1 = cc in absurd (omega arith)
tested n at false s p y e h = (refl, h)

-- a field that was read
pub record FieldThere (all : List Bool) (w p v q : ℕ) : Type 0 where
  pub within : p + w ≤ length all
  pub is : value (take w (drop p all)) ≡ v
  pub next : q ≡ p + w

pub field_there : (all : List Bool) (w p v q : ℕ) → field all w p ≡ reads v q → FieldThere all w p v q
unfolding field
field_there all w p v q = go (leb (p + w) (length all)) refl
  where
    go : (t : Bool) → leb (p + w) (length all) ≡ t → field_if all w p t ≡ reads v q → FieldThere all w p v q
    go true h e =
        let a : value (take w (drop p all)) ≡ v = cc in
        let b : p + w ≡ q = cc in
        record { within = leb-true (p + w) (length all) h; is = a; next = sym b }
    go false h e = let z : ◌≡◌ {A = ℕ} 0 1 = cc in absurd (omega arith)

-- an output that was read
pub output_there : (k : Kind) (all : List Bool) (p : ℕ) (x : k.Ideal) (q : ℕ) → output all k p ≡ reads x q → OutputStands k all p x × (q ≡ p + length (k.code x))
unfolding output
output_there k all p x q = go (k.read (drop p all)) refl
  where
    go : (r : Reading k.Ideal) → k.read (drop p all) ≡ r → output_if all k p r ≡ reads x q → OutputStands k all p x × (q ≡ p + length (k.code x))
    go (got y more) h e =
        let a : y ≡ x = cc in
        let b : p + length (k.code y) ≡ q = cc in
        ((more, h ∙ ap {A = k.Ideal} {B = Reading k.Ideal} (λ z. got z more) a), sym b ∙ ap {A = k.Ideal} {B = ℕ} (λ z. p + length (k.code z)) a)
    go begun h e = let z : ◌≡◌ {A = ℕ} 0 1 = cc in absurd (omega arith)
    go no_code h e = let z : ◌≡◌ {A = ℕ} 0 1 = cc in absurd (omega arith)
