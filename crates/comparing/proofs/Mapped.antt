-- Whether lists are equal under a function, from their elements two by two. Assumes nothing.
use Rattle.std.proofs.Common.{◌≡◌, ℕ, zero, suc, ◌<◌, Bool, true, false, List, [], ◌∷◌, map, length, sym, refl, ap, ◌∙◌, arith}
use Rattle.std.proofs.lemmas.List.{length-map}
use Rattle.std.specs.Bool.{MatchBool}
use Rattle.std.specs.List.{zip, AllWithin, HoldsAt}
use Rattle.outputs.specs.Joins.{Tells}

module _ {X Y : Type 0} (h : X → Y) where
  pub map_length : (a b : List X) → map h a ≡ map h b → length a ≡ length b
  map_length a b q = sym (length-map a h) ∙ ap length q ∙ length-map b h

  each_same : (a b : List X) → length a ≡ length b → AllWithin (λ p. h p.0 ≡ h p.1) (zip a b) 0 (length (zip a b)) → map h a ≡ map h b
  each_same [] [] e f = refl
  each_same [] (y ∷ b) e f = absurd (omega arith)
  each_same (x ∷ a) [] e f = absurd (omega arith)
  each_same (x ∷ a) (y ∷ b) e f =
      let here = f 0 (x, y) (omega arith) (omega arith) in
      let rest = each_same a b (omega arith) (λ k d low high. f (suc k) d (omega arith) (omega arith)) in
      λ i. here i ∷ rest i

  none_differ : (a b : List X) (k : ℕ) → k < length (zip a b) → HoldsAt (λ p. h p.0 ≡ h p.1 → ⊥) (zip a b) k → map h a ≡ map h b → ⊥
  none_differ [] b k l unlike q = absurd (omega arith)
  none_differ (x ∷ a) [] k l unlike q = absurd (omega arith)
  none_differ (x ∷ a) (y ∷ b) zero l unlike q = let e : h x ≡ h y = cc in unlike (x, y) e
  none_differ (x ∷ a) (y ∷ b) (suc k) l unlike q = let e : map h a ≡ map h b = cc in none_differ a b k (omega arith) unlike e

  pub told_by_pairs : (a b : List X) (r : Bool) → length a ≡ length b → MatchBool r (AllWithin (λ p. h p.0 ≡ h p.1) (zip a b) 0 (length (zip a b))) ((k : ℕ) × (k < length (zip a b)) × HoldsAt (λ p. h p.0 ≡ h p.1 → ⊥) (zip a b) k) → Tells (map h a) (map h b) r
  told_by_pairs a b true e m = record { equal = λ t. each_same a b e m; different = λ t q. let z : ◌≡◌ {A = ℕ} 0 1 = cc in absurd (omega arith) }
  told_by_pairs a b false e m = record { equal = λ t. let z : ◌≡◌ {A = ℕ} 0 1 = cc in absurd (omega arith); different = λ t q. none_differ a b m.0 m.1 m.2 q }
