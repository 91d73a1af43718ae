-- Lists of which one element, or those in a range, are altered. Assumes nothing.
use Rattle.std.specs.Prelude.{ℕ, zero, suc, List, [], ◌∷◌}

-- the element at a place under f
abbrev pub alter : {X : Type 0} → ℕ → (X → X) → List X → List X
alter i f [] = []
alter zero f (x ∷ xs) = f x ∷ xs
alter (suc i) f (x ∷ xs) = x ∷ alter i f xs

-- the elements from one place up to another, each under f
abbrev pub alter_range : {X : Type 0} → (X → X) → ℕ → ℕ → List X → List X
alter_range f from to [] = []
alter_range f from zero (x ∷ xs) = x ∷ xs
alter_range f zero (suc to) (x ∷ xs) = f x ∷ alter_range f zero to xs
alter_range f (suc from) (suc to) (x ∷ xs) = x ∷ alter_range f from to xs

-- P holds of the element at a place, if there is one
abbrev pub At : {X : Type 0} → ℕ → (X → Type 0) → List X → Type 0
At i P [] = Unit {0}
At zero P (x ∷ xs) = P x
At (suc i) P (x ∷ xs) = At i P xs
