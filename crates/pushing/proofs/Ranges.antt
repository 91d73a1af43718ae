-- Ranges of a list under a function: where a part of a list was changed, and what lies before, in and behind one. Assumes nothing.
use Rattle.std.proofs.Common.{◌≡◌, ℕ, zero, suc, ◌+◌, ◌≤◌, List, [], ◌∷◌, map, take, drop, sym, refl, ap, ◌∙◌, subst, arith}
use Rattle.stacks.specs.Stacks.{Changed}
use Rattle.pushing.specs.Altering.{alter_range}

module _ {X : Type 0} (f : X → X) where
  -- an empty range
  range_none : (i : ℕ) (es : List X) → alter_range f i 0 es ≡ es
  range_none i [] = refl
  range_none zero (x ∷ es) = refl
  range_none (suc i) (x ∷ es) = refl

  in_front : (c : ℕ) (es : List X) → take c (alter_range f zero c es) ≡ map f (take c es)
  in_front zero [] = refl
  in_front (suc c) [] = refl
  in_front zero (e ∷ es) = refl
  in_front (suc c) (e ∷ es) = ap (λ (r : List X). f e ∷ r) (in_front c es)

  -- the range itself
  pub range_in : (p q c : ℕ) (es : List X) → q ≡ p + c → take c (drop p (alter_range f p q es)) ≡ map f (take c (drop p es))
  range_in zero q c es h = let e : q ≡ c = omega arith in subst (λ (m : ℕ). take c (alter_range f zero m es) ≡ map f (take c es)) (sym e) (in_front c es)
  range_in (suc p) q zero [] h = refl
  range_in (suc p) q (suc c) [] h = refl
  range_in (suc p) zero c (e ∷ es) h = absurd (omega arith)
  range_in (suc p) (suc q) c (e ∷ es) h = range_in p q c es (omega arith)

  -- what lies behind it
  pub range_after : (p q s : ℕ) (es : List X) → p ≤ q → q ≤ s → drop s (alter_range f p q es) ≡ drop s es
  range_after p q s [] o h = refl
  range_after p zero s (e ∷ es) o h = refl
  range_after p (suc q) zero (e ∷ es) o h = absurd (omega arith)
  range_after zero (suc q) (suc s) (e ∷ es) o h = range_after zero q s es (omega arith) (omega arith)
  range_after (suc p) (suc q) (suc s) (e ∷ es) o h = range_after p q s es (omega arith) (omega arith)

  early : (p q c : ℕ) (es : List X) → c ≤ p → take c (alter_range f p q es) ≡ take c es
  early p q c [] h = refl
  early p zero c (e ∷ es) h = refl
  early zero (suc q) zero (e ∷ es) h = refl
  early zero (suc q) (suc c) (e ∷ es) h = absurd (omega arith)
  early (suc p) (suc q) zero (e ∷ es) h = refl
  early (suc p) (suc q) (suc c) (e ∷ es) h = ap (λ (r : List X). e ∷ r) (early p q c es (omega arith))

  -- what lies before it
  pub range_before : (p q s c : ℕ) (es : List X) → s + c ≤ p → take c (drop s (alter_range f p q es)) ≡ take c (drop s es)
  range_before p q zero c es h = early p q c es (omega arith)
  range_before p q (suc s) c [] h = refl
  range_before p zero (suc s) c (e ∷ es) h = refl
  range_before zero (suc q) (suc s) c (e ∷ es) h = absurd (omega arith)
  range_before (suc p) (suc q) (suc s) c (e ∷ es) h = range_before p q s c es (omega arith)

-- a part of a list is changed, and seen by `see` each element of it is under f
pub range_changed : {X Y : Type 0} (see : X → Y) (f : Y → Y) (R : X → X → Type 0) → ((x y : X) → R x y → see y ≡ f (see x)) → (from to : ℕ) (xs ys : List X) → Changed R from to xs ys → map see ys ≡ alter_range f from to (map see xs)
range_changed see f R e from to [] [] c = refl
range_changed see f R e from to [] (y ∷ ys) c = absurd c
range_changed see f R e from to (x ∷ xs) [] c = absurd c
range_changed see f R e zero zero (x ∷ xs) (y ∷ ys) c = let r = range_changed see f R e zero zero xs ys c.1 in λ i. see (sym c.0 i) ∷ (r ∙ range_none f zero (map see xs)) i
range_changed see f R e zero (suc to) (x ∷ xs) (y ∷ ys) c = let h = e x y c.0 in let r = range_changed see f R e zero to xs ys c.1 in λ i. h i ∷ r i
range_changed see f R e (suc from) zero (x ∷ xs) (y ∷ ys) c = let r = range_changed see f R e from zero xs ys c.1 in λ i. see (sym c.0 i) ∷ (r ∙ range_none f from (map see xs)) i
range_changed see f R e (suc from) (suc to) (x ∷ xs) (y ∷ ys) c = let r = range_changed see f R e from to xs ys c.1 in λ i. see (sym c.0 i) ∷ r i
