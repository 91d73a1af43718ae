-- Elements of a list changed in order, and a part of a list changed. Assumes nothing.
use Rattle.std.proofs.Common.{◌≡◌, ℕ, zero, suc, ◌+◌, ◌<◌, ◌≤◌, List, [], ◌∷◌, ◌++◌, length, get_or, take, drop, set, sym, refl, ap, subst, add-one, arith}
use Rattle.stacks.specs.Stacks.{Changed}

module _ {X : Type 0} (R : X → X → Type 0) where
  -- none is changed yet
  pub changed_none : (xs : List X) → Changed R 0 0 xs xs
  changed_none [] = tt
  changed_none (x ∷ xs) = (refl, changed_none xs)

  changed_step : (i : ℕ) (xs ys : List X) (d z : X) → i < length ys → Changed R 0 i xs ys → R (get_or ys i d) z → Changed R 0 (suc i) xs (set ys i z)
  changed_step i [] [] d z h c r = absurd (omega arith)
  changed_step i [] (y ∷ ys) d z h c r = absurd c
  changed_step i (x ∷ xs) [] d z h c r = absurd (omega arith)
  changed_step zero (x ∷ xs) (y ∷ ys) d z h c r = (subst (λ (w : X). R w z) (sym c.0) r, c.1)
  changed_step (suc i) (x ∷ xs) (y ∷ ys) d z h c r = (c.0, changed_step i xs ys d z (omega arith) c.1 r)

  -- one more is
  pub changed_more : (i : ℕ) (xs ys : List X) (d z : X) → i < length ys → Changed R 0 i xs ys → R (get_or ys i d) z → Changed R 0 (i + 1) xs (set ys i z)
  changed_more i xs ys d z h c r = rw add-one (changed_step i xs ys d z h c r)

  front : (k low : ℕ) (xs zs : List X) → k ≤ low → low ≤ length xs → Changed R 0 k (take k xs) zs → Changed R 0 k (take low xs) (take low (zs ++ drop k xs))
  front zero low xs [] h l c = changed_none (take low xs)
  front zero low xs (z ∷ zs) h l c = absurd c
  front (suc k) zero xs zs h l c = absurd (omega arith)
  front (suc k) (suc low) [] zs h l c = absurd (omega arith)
  front (suc k) (suc low) (x ∷ xs) [] h l c = absurd c
  front (suc k) (suc low) (x ∷ xs) (z ∷ zs) h l c = (c.0, front k low xs zs (omega arith) (omega arith) c.1)

  -- a part of a list is changed
  pub changed_part : (from k to low : ℕ) (xs zs : List X) → from + k ≡ to → to ≤ low → low ≤ length xs → Changed R 0 k (take k (drop from xs)) zs → Changed R from to (take low xs) (take low (take from xs ++ (zs ++ drop k (drop from xs))))
  changed_part zero k to low xs zs e h l c = let n : k ≡ to = omega arith in subst (λ (m : ℕ). Changed R 0 m (take low xs) (take low (zs ++ drop k xs))) n (front k low xs zs (omega arith) l c)
  changed_part (suc from) k zero low xs zs e h l c = absurd (omega arith)
  changed_part (suc from) k (suc to) zero xs zs e h l c = absurd (omega arith)
  changed_part (suc from) k (suc to) (suc low) [] zs e h l c = absurd (omega arith)
  changed_part (suc from) k (suc to) (suc low) (x ∷ xs) zs e h l c = (refl, changed_part from k to low xs zs (omega arith) (omega arith) (omega arith) c)

  -- the list keeps its length
  pub changed_length : (from to : ℕ) (xs ys : List X) → Changed R from to xs ys → length ys ≡ length xs
  changed_length from to [] [] c = refl
  changed_length from to [] (y ∷ ys) c = absurd c
  changed_length from to (x ∷ xs) [] c = absurd c
  changed_length zero zero (x ∷ xs) (y ∷ ys) c = ap (λ (n : ℕ). suc n) (changed_length zero zero xs ys c.1)
  changed_length zero (suc to) (x ∷ xs) (y ∷ ys) c = ap (λ (n : ℕ). suc n) (changed_length zero to xs ys c.1)
  changed_length (suc from) zero (x ∷ xs) (y ∷ ys) c = ap (λ (n : ℕ). suc n) (changed_length from zero xs ys c.1)
  changed_length (suc from) (suc to) (x ∷ xs) (y ∷ ys) c = ap (λ (n : ℕ). suc n) (changed_length from to xs ys c.1)
