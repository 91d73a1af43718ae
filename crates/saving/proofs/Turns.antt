-- One more arc, place or record behind those before. Assumes nothing.
use Rattle.std.proofs.Common.{◌≡◌, ℕ, zero, suc, ◌+◌, ◌<◌, ◌≤◌, Bool, List, [], ◌∷◌, ◌++◌, map, length, get_or, take, sym, ap, ◌∙◌, append_assoc, append-nil, arith, length-append}
use Rattle.std.proofs.lemmas.List.{map_more}
use Rattle.outputs.specs.Bits.{bits}
use Rattle.outputs.specs.Kinds.{Kind}
use Rattle.machines.specs.Machines.{Arc as Edge}
use Rattle.images.specs.Images.{arc_bits, arcs_bits, places, index_bits, in_turn}
use Rattle.records.specs.declared.record.Arc.{Arc}
use Rattle.records.specs.Holding.{arc_of, arcs_of}

module _ (k : Kind) where
  arcs_push : (as' : List (Edge k.Ideal)) (a : Edge k.Ideal) → arcs_bits k (as' ++ a ∷ []) ≡ arcs_bits k as' ++ arc_bits k a
  arcs_push [] a = append-nil (arc_bits k a)
  arcs_push (b ∷ as') a = ap (λ (r : List Bool). arc_bits k b ++ r) (arcs_push as' a) ∙ sym (append_assoc (arc_bits k b) (arcs_bits k as') (arc_bits k a))

  -- the arc at a place behind those in front of it
  pub arcs_more : {O : Type 0} (mean : O → k.Ideal) (as' : List (Arc O)) (i : ℕ) (a : Arc O) → i < length as' → a ≡ get_or as' i a →
      arcs_bits k (arcs_of mean (take i as')) ++ arc_bits k (arc_of mean a) ≡ arcs_bits k (arcs_of mean (take (i + 1) as'))
  arcs_more mean as' i a h e =
      ap (λ x. arcs_bits k (arcs_of mean (take i as')) ++ arc_bits k (arc_of mean x)) e
      ∙ sym (arcs_push (arcs_of mean (take i as')) (arc_of mean (get_or as' i a)))
      ∙ sym (ap (arcs_bits k) (map_more (arc_of mean) as' i a h))

in_turn_push : (rs : List (List Bool)) (r : List Bool) → in_turn (rs ++ r ∷ []) ≡ in_turn rs ++ r
in_turn_push [] r = append-nil r
in_turn_push (s ∷ rs) r = ap (λ (t : List Bool). s ++ t) (in_turn_push rs r) ∙ sym (append_assoc s (in_turn rs) r)

places_push : (p : ℕ) (rs : List (List Bool)) (r : List Bool) → places p (rs ++ r ∷ []) ≡ places p rs ++ (p + length (in_turn rs)) ∷ []
places_push p [] r = let e : p ≡ p + 0 = omega arith in ap (λ (n : ℕ). n ∷ []) e
places_push p (s ∷ rs) r =
    let e : p + length s + length (in_turn rs) ≡ p + length (s ++ in_turn rs) = omega (arith, length-append s (in_turn rs)) in
    ap (λ (t : List ℕ). p ∷ t) (places_push (p + length s) rs r ∙ ap (λ (n : ℕ). places (p + length s) rs ++ n ∷ []) e)

index_push : (ps : List ℕ) (p : ℕ) → index_bits (ps ++ p ∷ []) ≡ index_bits ps ++ bits 32 p
index_push [] p = append-nil (bits 32 p)
index_push (q ∷ ps) p = ap (λ (t : List Bool). bits 32 q ++ t) (index_push ps p) ∙ sym (append_assoc (bits 32 q) (index_bits ps) (bits 32 p))

module _ {X : Type 0} (f : X → List Bool) where
  -- the record at a place behind those in front of it
  pub records_more : (xs : List X) (i : ℕ) (x : X) → i < length xs → x ≡ get_or xs i x → in_turn (map f (take i xs)) ++ f x ≡ in_turn (map f (take (i + 1) xs))
  records_more xs i x h e =
      ap (λ y. in_turn (map f (take i xs)) ++ f y) e
      ∙ sym (in_turn_push (map f (take i xs)) (f (get_or xs i x)))
      ∙ sym (ap in_turn (map_more f xs i x h))

  -- its place behind theirs
  pub index_more : (p : ℕ) (xs : List X) (i : ℕ) (x : X) → i < length xs →
      index_bits (places p (map f (take i xs))) ++ bits 32 (p + length (in_turn (map f (take i xs)))) ≡ index_bits (places p (map f (take (i + 1) xs)))
  index_more p xs i x h =
      sym (index_push (places p (map f (take i xs))) (p + length (in_turn (map f (take i xs)))))
      ∙ sym (ap index_bits (places_push p (map f (take i xs)) (f (get_or xs i x))))
      ∙ sym (ap (λ (rs : List (List Bool)). index_bits (places p rs)) (map_more f xs i x h))

  -- some records are no longer than all
  pub records_within : (xs : List X) (i : ℕ) → length (in_turn (map f (take i xs))) ≤ length (in_turn (map f xs))
  records_within [] zero = omega arith
  records_within [] (suc i) = omega arith
  records_within (x ∷ xs) zero = omega arith
  records_within (x ∷ xs) (suc i) = omega (arith, records_within xs i, length-append (f x) (in_turn (map f (take i xs))), length-append (f x) (in_turn (map f xs)))

  -- nor with the record behind them
  pub record_within : (xs : List X) (i : ℕ) (x : X) → i < length xs → x ≡ get_or xs i x → length (in_turn (map f (take i xs))) + length (f x) ≤ length (in_turn (map f xs))
  record_within xs i x h e = omega (arith, length-append (in_turn (map f (take i xs))) (f x), ap length (records_more xs i x h e), records_within xs (i + 1))
