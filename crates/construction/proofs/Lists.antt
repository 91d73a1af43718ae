-- What holds of each element, and membership, of lists that are put together or mapped. Assumes nothing.
use Rattle.std.proofs.Common.{◌⊎◌, List, [], ◌∷◌, ◌++◌, map, inl, inr}
use Rattle.machines.specs.Lists.{Each}
use Rattle.machines.proofs.Lists.{In}

module _ {A : Type 0} where
  pub each_append : (Q : A → Type 0) (xs ys : List A) → Each Q xs → Each Q ys → Each Q (xs ++ ys)
  each_append Q [] ys h g = g
  each_append Q (x ∷ xs) ys h g = (h.0, each_append Q xs ys h.1 g)

  pub each_left : (Q : A → Type 0) (xs ys : List A) → Each Q (xs ++ ys) → Each Q xs
  each_left Q [] ys h = tt
  each_left Q (x ∷ xs) ys h = (h.0, each_left Q xs ys h.1)

  pub each_both : (Q S : A → Type 0) (xs : List A) → Each Q xs → Each S xs → Each (λ x. Q x × S x) xs
  each_both Q S [] h g = tt
  each_both Q S (x ∷ xs) h g = ((h.0, g.0), each_both Q S xs h.1 g.1)

  pub in_left : (x : A) (xs ys : List A) → In x xs → In x (xs ++ ys)
  in_left x [] ys h = absurd h
  in_left x (y ∷ xs) ys (inl e) = inl e
  in_left x (y ∷ xs) ys (inr i) = inr (in_left x xs ys i)

  pub in_right : (x : A) (xs ys : List A) → In x ys → In x (xs ++ ys)
  in_right x [] ys h = h
  in_right x (y ∷ xs) ys h = inr (in_right x xs ys h)

  pub in_either : (x : A) (xs ys : List A) → In x (xs ++ ys) → In x xs ⊎ In x ys
  in_either x [] ys h = inr h
  in_either x (y ∷ xs) ys (inl e) = inl (inl e)
  in_either x (y ∷ xs) ys (inr i) = elim (in_either x xs ys i) [ inl j ↦ inl (inr j) | inr j ↦ inr j ]

pub each_image : {A B : Type 0} (Q : B → Type 0) (f : A → B) (xs : List A) → ((x : A) → Q (f x)) → Each Q (map f xs)
each_image Q f [] h = tt
each_image Q f (x ∷ xs) h = (h x, each_image Q f xs h)
