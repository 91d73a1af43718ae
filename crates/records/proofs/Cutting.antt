-- Parts of lists of arcs, and what they stand for. Assumes nothing.
use Rattle.std.proofs.Common.{◌≡◌, ℕ, zero, suc, ◌+◌, ◌-◌, ◌≤◌, List, [], ◌∷◌, ◌++◌, length, take, drop, sym, refl, ap, ◌∙◌, arith}
use Rattle.std.proofs.lemmas.List.{length-map, length-append, take-map, drop-map, drop-drop, drop_at}
use Rattle.records.specs.declared.record.Arc.{Arc}
use Rattle.records.specs.Holding.{arc_of, arcs_of}

module _ {O I : Type 0} (mean : O → I) where
  -- some arcs from a place on
  pub arcs_part : (k n : ℕ) (as' : List (Arc O)) → arcs_of mean (take k (drop n as')) ≡ take k (drop n (arcs_of mean as'))
  arcs_part k n as' = sym (take-map (arc_of mean) k (drop n as')) ∙ ap (take k) (sym (drop-map (arc_of mean) n as'))

  -- the same with the place counted from the end
  pub arcs_part_last : (k f : ℕ) (as' : List (Arc O)) → arcs_of mean (take k (drop (length as' - f) as')) ≡ take k (drop (length (arcs_of mean as') - f) (arcs_of mean as'))
  arcs_part_last k f as' = arcs_part k (length as' - f) as' ∙ ap (λ (n : ℕ). take k (drop (n - f) (arcs_of mean as'))) (sym (length-map as' (arc_of mean)))

module _ {X : Type 0} where
  drop_past : (B H : List X) (n : ℕ) → drop (length B + n) (B ++ H) ≡ drop n H
  drop_past B H n = sym (drop-drop n (length B) (B ++ H)) ∙ ap (drop n) (drop_at B H (length B) refl)

  -- the last f of a list do not see what is put in front
  pub last_kept : (B H : List X) (f : ℕ) → f ≤ length H → drop (length (B ++ H) - f) (B ++ H) ≡ drop (length H - f) H
  last_kept B H f h =
      let e : length (B ++ H) - f ≡ length B + (length H - f) = simp length-append (omega arith) in
      ap (λ (n : ℕ). drop n (B ++ H)) e ∙ drop_past B H (length H - f)

  early : (n c : ℕ) (es : List X) → c ≤ n → take c (take n es) ≡ take c es
  early n zero es h = refl
  early zero (suc c) es h = absurd (omega arith)
  early (suc n) (suc c) [] h = refl
  early (suc n) (suc c) (e ∷ es) h = ap (λ (r : List X). e ∷ r) (early n c es (omega arith))

  -- a part that ends before place n does not see what is cut off there
  pub cut_before : (n s c : ℕ) (es : List X) → s + c ≤ n → take c (drop s (take n es)) ≡ take c (drop s es)
  cut_before n zero c es h = early n c es (omega arith)
  cut_before zero (suc s) c es h = absurd (omega arith)
  cut_before (suc n) (suc s) c [] h = refl
  cut_before (suc n) (suc s) c (e ∷ es) h = cut_before n s c es (omega arith)
