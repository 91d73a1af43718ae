-- Two stacks in one list: the first `low` and the last `high` elements. Assumes that they do not overlap.
use Rattle.std.proofs.Common.{◌≡◌, ℕ, ◌+◌, ◌-◌, ◌<◌, ◌≤◌, List, [], ◌∷◌, ◌++◌, length, get_or, take, drop, set, sym, refl, ap, ◌∙◌, arith}
use Rattle.std.proofs.lemmas.List.{length-take-le, length-drop, length-set, take_more_set, drop-set-lt, drop-set, drop-set-add, get_or-take, get_or-drop, get_or_default, take_more, take-set-le, drop_more, take-append-le, take_at, drop_at, drop-append-le}
use lib.Seq.{take-set-lt}

module _ {X : Type 0} (xs : List X) (low high : ℕ) (room : low + high ≤ length xs) where
  pub length_low : length (take low xs) ≡ low
  length_low = length-take-le low xs (omega arith)

  pub length_high : length (drop (length xs - high) xs) ≡ high
  length_high = simp length-drop (omega arith)

  pub low_at : (i : ℕ) (d e : X) → i < low → get_or xs i d ≡ get_or (take low xs) i e
  low_at i d e h = get_or_default xs i d e (omega arith) ∙ sym (get_or-take low xs i e h)

  pub high_at : (i : ℕ) (d e : X) → i < high → get_or xs (length xs - high + i) d ≡ get_or (drop (length xs - high) xs) i e
  high_at i d e h = get_or_default xs (length xs - high + i) d e (omega arith) ∙ sym (get_or-drop (length xs - high) xs i e)

  pub low_push : (x : X) → low + high < length xs → take (low + 1) (set xs low x) ≡ take low xs ++ (x ∷ [])
  low_push x h = take_more_set xs low x (omega arith)

  pub high_kept : (i : ℕ) (x : X) → i < length xs - high → drop (length (set xs i x) - high) (set xs i x) ≡ drop (length xs - high) xs
  high_kept i x h = rw length-set (drop-set-lt (length xs - high) xs i x h)

  pub high_push : (x : X) → low + high < length xs → drop (length (set xs (length xs - high - 1) x) - (high + 1)) (set xs (length xs - high - 1) x) ≡ x ∷ drop (length xs - high) xs
  high_push x h =
      let e : length (set xs (length xs - high - 1) x) - (high + 1) ≡ length xs - high - 1 = simp length-set (omega arith) in
      let f : length xs - high - 1 + 1 ≡ length xs - high = omega arith in
      rw e (drop-set xs (length xs - high - 1) x (omega arith) ∙ rw f refl)

  pub low_kept : (x : X) → low + high < length xs → take low (set xs (length xs - high - 1) x) ≡ take low xs
  low_kept x h = take-set-le low xs (length xs - high - 1) x (omega arith)

  pub low_pop : (d : X) → 0 < low → take low xs ≡ take (low - 1) xs ++ (get_or xs (low - 1) d ∷ [])
  low_pop d h =
      let e : low - 1 + 1 ≡ low = omega arith in
      let m = take_more xs (low - 1) d (omega arith) in
      ap (λ (n : ℕ). take n xs) (sym e) ∙ m

  pub low_set : (i : ℕ) (x : X) → i < low → take low (set xs i x) ≡ set (take low xs) i x
  low_set i x h = take-set-lt low xs i x h

  pub total : length (take low xs) + length (drop (length xs - high) xs) ≤ length xs
  total = omega (arith, length_low, length_high)

  pub high_pop : (d : X) → 0 < high → drop (length xs - high) xs ≡ get_or xs (length xs - high) d ∷ drop (length xs - (high - 1)) xs
  high_pop d h =
      let e : length xs - high + 1 ≡ length xs - (high - 1) = omega arith in
      drop_more xs (length xs - high) d (omega arith) ∙ ap (λ (n : ℕ). get_or xs (length xs - high) d ∷ drop n xs) e

  pub high_set : (i : ℕ) (x : X) → i < high → drop (length (set xs (length xs - high + i) x) - high) (set xs (length xs - high + i) x) ≡ set (drop (length xs - high) xs) i x
  high_set i x h = rw length-set (drop-set-add (length xs - high) xs i x)

  pub low_kept_at : (i : ℕ) (x : X) → i < high → take low (set xs (length xs - high + i) x) ≡ take low xs
  low_kept_at i x h = take-set-le low xs (length xs - high + i) x (omega arith)

-- the same whole, cut elsewhere
module _ {X : Type 0} (vs bs cs ds : List X) (n : ℕ) (whole : vs ++ bs ≡ cs ++ ds) (here : length vs ≡ n) (within : n ≤ length cs) where
  pub cut_low : vs ≡ take n cs
  cut_low = sym (take_at vs bs n here) ∙ ap (take n) whole ∙ take-append-le n cs ds within

  pub cut_high : bs ≡ drop n cs ++ ds
  cut_high = sym (drop_at vs bs n here) ∙ ap (drop n) whole ∙ drop-append-le n cs ds within
