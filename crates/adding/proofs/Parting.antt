-- Where two keys part, and which of them is lower. Assumes nothing.
use Rattle.std.proofs.Common.{◌≡◌, ℕ, zero, suc, ◌+◌, ◌<◌, ◌≤◌, min, Option, None, Some, Bool, true, false, ◌&&◌, ◌||◌, eqb, ltb, [], ◌∷◌, length, get_or, drop, sym, refl, ◌∙◌, arith, le-ltb, eq-eqb, ne_eqb, eqb-true}
use Rattle.std.specs.Option.{unwrap_or, MatchOption}
use borrow.Author.Tests.{eqb_apart}
use Rattle.std.proofs.lemmas.List.{drop_more}
use Rattle.machines.specs.Keys.{Key, lower, common_length}
use Rattle.machines.proofs.OneMore.{common_same, common_other}

-- the empty key shares nothing
pub common_none : (u : Key) → common_length u [] ≡ 0
common_none [] = refl
common_none (a ∷ u) = refl

-- bytes that are alike up to a place are shared
common_upto : (i : ℕ) (u v : Key) → i ≤ length u → i ≤ length v → ((k : ℕ) → k < i → get_or u k 0 ≡ get_or v k 0) → common_length u v ≡ i + common_length (drop i u) (drop i v)
common_upto zero u v hu hv e = omega arith
common_upto (suc i) [] v hu hv e = absurd (omega arith)
common_upto (suc i) (a ∷ u) [] hu hv e = absurd (omega arith)
common_upto (suc i) (a ∷ u) (b ∷ v) hu hv e =
    let s = common_same a b u v (e 0 (omega arith)) in
    let r = common_upto i u v (omega arith) (omega arith) (λ k h. e (suc k) (omega arith)) in
    omega arith

-- the next bytes differ
pub common_stop : (i : ℕ) (u v : Key) → i < length u → i < length v → (get_or u i 0 ≡ get_or v i 0 → ⊥) → common_length (drop i u) (drop i v) ≡ 0
common_stop i u v hu hv n = (λ j. common_length (drop_more u i 0 hu j) (drop_more v i 0 hv j)) ∙ common_other (get_or u i 0) (get_or v i 0) (drop (i + 1) u) (drop (i + 1) v) n

-- one key ends
pub common_past : (i : ℕ) (u v : Key) → min (length u) (length v) ≤ i → common_length (drop i u) (drop i v) ≡ 0
common_past zero [] v h = refl
common_past zero (a ∷ u) [] h = refl
common_past zero (a ∷ u) (b ∷ v) h = absurd (omega arith)
common_past (suc i) [] v h = refl
common_past (suc i) (a ∷ u) [] h = common_none (drop i u)
common_past (suc i) (a ∷ u) (b ∷ v) h = common_past i u v (omega arith)

-- the first place at which two keys differ, or the end of the shorter, is what they share
pub common_first : (n : ℕ) (u v : Key) (r : Option ℕ) → n ≡ min (length u) (length v) → MatchOption r ((k : ℕ) → 0 ≤ k → k < n → get_or u k 0 ≡ get_or v k 0) (λ i. (0 ≤ i) × (i < n) × (get_or u i 0 ≡ get_or v i 0 → ⊥) × ((k : ℕ) → 0 ≤ k → k < i → get_or u k 0 ≡ get_or v k 0)) → unwrap_or r n ≡ common_length u v
common_first n u v None e same =
    let past = common_past n u v (omega arith) in
    omega (arith, common_upto n u v (omega arith) (omega arith) (λ k h. same k (omega arith) h))
common_first n u v (Some i) e first =
    let within : i < n = first.1 in
    let stop = common_stop i u v (omega arith) (omega arith) first.2 in
    omega (arith, common_upto i u v (omega arith) (omega arith) (λ k h. first.3 k (omega arith) h))

within_by : (n lu lv : ℕ) → (n ≤ lu) × (n ≤ lv) → (t : Bool) → (elim t [ true ↦ suc n | false ↦ 0 ] ≤ suc lu) × (elim t [ true ↦ suc n | false ↦ 0 ] ≤ suc lv)
within_by n lu lv r true = (omega (arith, r.0), omega (arith, r.1))
within_by n lu lv r false = (omega arith, omega arith)

-- no more is shared than either key has
pub common_within : (u v : Key) → (common_length u v ≤ length u) × (common_length u v ≤ length v)
common_within [] v = (omega arith, omega arith)
common_within (a ∷ u) [] = (omega arith, omega arith)
common_within (a ∷ u) (b ∷ v) = within_by (common_length u v) (length u) (length v) (common_within u v) (eqb a b)

-- the order is told by the rests behind an equal byte
lower_same : (a b : ℕ) (u v : Key) → a ≡ b → lower (b ∷ v) (a ∷ u) ≡ lower v u
lower_same a b u v e = λ i. le-ltb b a (omega arith) i || (eq-eqb b a (sym e) i && lower v u)

or_none : (t : Bool) → t || false ≡ t
or_none true = refl
or_none false = refl

-- and by different bytes
lower_apart : (a b : ℕ) (u v : Key) → (a ≡ b → ⊥) → lower (b ∷ v) (a ∷ u) ≡ ltb b a
lower_apart a b u v n = (λ i. ltb b a || (ne_eqb b a (λ e. n (sym e)) i && lower v u)) ∙ or_none (ltb b a)

-- P holds whether two bytes are equal or not
by_bytes : (a b : ℕ) (P : Type 0) → (a ≡ b → P) → ((a ≡ b → ⊥) → P) → P
by_bytes a b P same apart = by_test (eqb a b) refl
  where
    by_test : (t : Bool) → eqb a b ≡ t → P
    by_test true q = same (eqb-true a b q)
    by_test false q = apart (eqb_apart a b q)

-- a key that is a prefix of the other is not above it
pub lower_prefix : (u v : Key) → common_length u v ≡ length u → lower v u ≡ false
lower_prefix [] v e = refl
lower_prefix (a ∷ u) [] e = absurd (omega arith)
lower_prefix (a ∷ u) (b ∷ v) e =
    by_bytes a b (lower (b ∷ v) (a ∷ u) ≡ false)
    (λ s. lower_same a b u v s ∙ lower_prefix u v (omega (arith, common_same a b u v s, e)))
    (λ n. absurd (omega (arith, common_other a b u v n, e)))

-- a key that goes on where the other ends is above it
pub lower_longer : (u v : Key) → common_length u v ≡ length v → length v < length u → lower v u ≡ true
lower_longer [] v e h = absurd (omega arith)
lower_longer (a ∷ u) [] e h = refl
lower_longer (a ∷ u) (b ∷ v) e h =
    by_bytes a b (lower (b ∷ v) (a ∷ u) ≡ true)
    (λ s. lower_same a b u v s ∙ lower_longer u v (omega (arith, common_same a b u v s, e)) (omega arith))
    (λ n. absurd (omega (arith, common_other a b u v n, e)))

-- else the bytes where they part tell
pub lower_parting : (d : ℕ) (u v : Key) → d ≡ common_length u v → d < length u → d < length v → lower v u ≡ ltb (get_or v d 0) (get_or u d 0)
lower_parting d [] v e hu hv = absurd (omega arith)
lower_parting d (a ∷ u) [] e hu hv = absurd (omega arith)
lower_parting zero (a ∷ u) (b ∷ v) e hu hv = lower_apart a b u v (λ q. absurd (omega (arith, common_same a b u v q, e)))
lower_parting (suc d) (a ∷ u) (b ∷ v) e hu hv =
    by_bytes a b (lower (b ∷ v) (a ∷ u) ≡ ltb (get_or v d 0) (get_or u d 0))
    (λ s. lower_same a b u v s ∙ lower_parting d u v (omega (arith, common_same a b u v s, e)) (omega arith) (omega arith))
    (λ n. absurd (omega (arith, common_other a b u v n, e)))
