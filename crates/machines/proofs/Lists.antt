-- Membership, places and what holds of each element of a list. Assumes nothing.
use Rattle.std.proofs.Common.{◌≡◌, ℕ, zero, suc, ◌<◌, ◌⊎◌, List, [], ◌∷◌, ◌++◌, map, length, get_or, sym, refl, ap, subst, inl, inr, arith}
use mathlib.Core.Option.{Option, some}
use Rattle.machines.specs.Lists.{at, Each}

-- x is an element
abbrev pub In : {A : Type 0} → A → List A → Type 0
In x [] = ⊥
In x (y ∷ ys) = (x ≡ y) ⊎ In x ys

pub each_map : {A : Type 0} (Q S : A → Type 0) (xs : List A) → ((x : A) → Q x → S x) → Each Q xs → Each S xs
each_map Q S [] f h = tt
each_map Q S (x ∷ xs) f h = (f x h.0, each_map Q S xs f h.1)

pub each_more : {A : Type 0} (Q : A → Type 0) (xs : List A) (x : A) → Each Q xs → Q x → Each Q (xs ++ (x ∷ []))
each_more Q [] x h q = (q, tt)
each_more Q (y ∷ xs) x h q = (h.0, each_more Q xs x h.1 q)

pub each_in : {A : Type 0} (Q : A → Type 0) (xs : List A) (x : A) → Each Q xs → In x xs → Q x
each_in Q [] x h i = absurd i
each_in Q (y ∷ ys) x h (inl e) = subst Q (sym e) h.0
each_in Q (y ∷ ys) x h (inr i) = each_in Q ys x h.1 i

pub at_map : {A B : Type 0} (f : A → B) (xs : List A) (i : ℕ) (x : A) → at xs i ≡ some x → at (map f xs) i ≡ some (f x)
at_map f [] i x e = let o : ◌≡◌ {A = ℕ} 0 1 = cc in absurd (omega arith)
at_map {A} {B} f (y ∷ ys) zero x e = let o : y ≡ x = cc in ap {B = Option B} (λ v. some (f v)) o
at_map f (y ∷ ys) (suc i) x e = at_map f ys i x e

-- what stands at a place of mapped elements is the image of what stands there
pub at_unmap : {A B : Type 0} (f : A → B) (xs : List A) (i : ℕ) (y : B) → at (map f xs) i ≡ some y → (x : A) × (at xs i ≡ some x) × (f x ≡ y)
at_unmap f [] i y e = let o : ◌≡◌ {A = ℕ} 0 1 = cc in absurd (omega arith)
at_unmap f (x ∷ xs) zero y e = let o : f x ≡ y = cc in (x, refl, o)
at_unmap f (x ∷ xs) (suc i) y e = at_unmap f xs i y e

-- what stands at a place is an element
pub at_in : {A : Type 0} (xs : List A) (i : ℕ) (x : A) → at xs i ≡ some x → In x xs
at_in [] i x e = let o : ◌≡◌ {A = ℕ} 0 1 = cc in absurd (omega arith)
at_in (y ∷ ys) zero x e = let o : y ≡ x = cc in inl (sym o)
at_in (y ∷ ys) (suc i) x e = inr (at_in ys i x e)

pub get_or_at : {A : Type 0} (xs : List A) (i : ℕ) (x d : A) → at xs i ≡ some x → get_or xs i d ≡ x
get_or_at [] i x d e = let o : ◌≡◌ {A = ℕ} 0 1 = cc in absurd (omega arith)
get_or_at (y ∷ ys) zero x d e = cc
get_or_at (y ∷ ys) (suc i) x d e = get_or_at ys i x d e

pub at_below : {A : Type 0} (xs : List A) (i : ℕ) → i < length xs → (x : A) × (at xs i ≡ some x)
at_below [] i h = absurd (omega arith)
at_below (x ∷ xs) zero h = (x, refl)
at_below (x ∷ xs) (suc i) h = at_below xs i (omega arith)

pub below_at : {A : Type 0} (xs : List A) (i : ℕ) (x : A) → at xs i ≡ some x → i < length xs
below_at [] i x e = let o : ◌≡◌ {A = ℕ} 0 1 = cc in absurd (omega arith)
below_at (y ∷ ys) zero x e = omega arith
below_at (y ∷ ys) (suc i) x e = omega (arith, below_at ys i x e)

-- what stands at one place is one
pub at_one : {A : Type 0} (xs : List A) (i : ℕ) (x y : A) → at xs i ≡ some x → at xs i ≡ some y → x ≡ y
at_one xs i x y e f = cc

pub each_of : {A : Type 0} (Q : A → Type 0) (xs : List A) → ((x : A) → In x xs → Q x) → Each Q xs
each_of Q [] f = tt
each_of Q (x ∷ xs) f = (f x (inl refl), each_of Q xs (λ y i. f y (inr i)))
