-- The order of keys, and lists of pairs in that order. Assumes nothing.
use Rattle.std.proofs.Common.{◌≡◌, ℕ, ◌<◌, Bool, true, false, ◌&&◌, eqb, ltb, ◌⊎◌, [], ◌∷◌, sym, refl, ap, ◌∙◌, subst, ap₂, inl, inr, arith, ltb-true, lt-ltb, eq-eqb, eqb-true}
use mathlib.Core.Option.{Option, none, some}
use borrow.Author.Tests.{both_ways}
use Rattle.std.proofs.lemmas.Bool.{and_parts, and_from, or_cases, or_left, or_right, cases_order}
use Rattle.machines.specs.Keys.{Key, lower, same_key}
use Rattle.machines.specs.Pairs.{Pairs, output_of, Above, Ascending}

pub same_key_refl : (u : Key) → same_key u u ≡ true
same_key_refl [] = refl
same_key_refl (a ∷ u) = and_from (eqb a a) (same_key u u) (eq-eqb a a refl) (same_key_refl u)

pub same_key_true : (u v : Key) → same_key u v ≡ true → u ≡ v
same_key_true [] [] e = refl
same_key_true [] (b ∷ v) e = absurd (both_ways false refl e)
same_key_true (a ∷ u) [] e = absurd (both_ways false refl e)
same_key_true (a ∷ u) (b ∷ v) e =
    let p = and_parts (eqb a b) (same_key u v) e in
    ap₂ {C = Key} (λ c w. c ∷ w) (eqb-true a b p.0) (same_key_true u v p.1)

-- a ∷ u is below b ∷ v in one of two ways
pub lower_ways : (a b : ℕ) (u v : Key) → lower (a ∷ u) (b ∷ v) ≡ true → (a < b) ⊎ ((a ≡ b) × (lower u v ≡ true))
lower_ways a b u v e =
    elim (or_cases (ltb a b) (eqb a b && lower u v) e) [
      | inl l ↦ inl (ltb-true a b l)
      | inr r ↦ let p = and_parts (eqb a b) (lower u v) r in inr (eqb-true a b p.0, p.1)
    ]

pub lower_less : (a b : ℕ) (u v : Key) → a < b → lower (a ∷ u) (b ∷ v) ≡ true
lower_less a b u v h = or_left (ltb a b) (eqb a b && lower u v) (lt-ltb a b h)

lower_same : (a b : ℕ) (u v : Key) → a ≡ b → lower u v ≡ true → lower (a ∷ u) (b ∷ v) ≡ true
lower_same a b u v e l = or_right (ltb a b) (eqb a b && lower u v) (and_from (eqb a b) (lower u v) (eq-eqb a b e) l)

pub lower_irrefl : (u : Key) → lower u u ≡ true → ⊥
lower_irrefl [] e = both_ways false refl e
lower_irrefl (a ∷ u) e = elim (lower_ways a a u u e) [ inl h ↦ omega arith | inr p ↦ lower_irrefl u p.1 ]

pub lower_trans : (u v w : Key) → lower u v ≡ true → lower v w ≡ true → lower u w ≡ true
lower_trans u [] w e f = absurd (both_ways false refl e)
lower_trans u (b ∷ v) [] e f = absurd (both_ways false refl f)
lower_trans [] (b ∷ v) (c ∷ w) e f = refl
lower_trans (a ∷ u) (b ∷ v) (c ∷ w) e f = go (lower_ways a b u v e) (lower_ways b c v w f) (lower_trans u v w)
  where
    go : (a < b) ⊎ ((a ≡ b) × (lower u v ≡ true)) → (b < c) ⊎ ((b ≡ c) × (lower v w ≡ true)) → (lower u v ≡ true → lower v w ≡ true → lower u w ≡ true) → lower (a ∷ u) (c ∷ w) ≡ true
    go (inl h) (inl i) deep = lower_less a c u w (omega arith)
    go (inl h) (inr q) deep = lower_less a c u w (omega (arith, q.0))
    go (inr p) (inl i) deep = lower_less a c u w (omega (arith, p.0))
    go (inr p) (inr q) deep = lower_same a c u w (p.0 ∙ q.0) (deep p.1 q.1)

pub lower_any : (u v : Key) → (u ≡ v) ⊎ ((lower u v ≡ true) ⊎ (lower v u ≡ true))
lower_any [] [] = inl refl
lower_any [] (b ∷ v) = inr (inl refl)
lower_any (a ∷ u) [] = inr (inr refl)
lower_any (a ∷ u) (b ∷ v) = go (cases_order a b) (lower_any u v)
  where
    go : (a ≡ b) ⊎ ((a < b) ⊎ (b < a)) → (u ≡ v) ⊎ ((lower u v ≡ true) ⊎ (lower v u ≡ true)) → (a ∷ u ≡ b ∷ v) ⊎ ((lower (a ∷ u) (b ∷ v) ≡ true) ⊎ (lower (b ∷ v) (a ∷ u) ≡ true))
    go (inl e) (inl f) = inl (ap₂ {C = Key} (λ c w. c ∷ w) e f)
    go (inl e) (inr (inl l)) = inr (inl (lower_same a b u v e l))
    go (inl e) (inr (inr l)) = inr (inr (lower_same b a v u (sym e) l))
    go (inr (inl h)) d = inr (inl (lower_less a b u v h))
    go (inr (inr h)) d = inr (inr (lower_less b a v u h))

module _ {A : Type 0} where
  pub above_trans : (u v : Key) (Q : Pairs A) → lower u v ≡ true → Above v Q → Above u Q
  above_trans u v [] l h = tt
  above_trans u v (q ∷ Q) l h = (lower_trans u v q.0 l h.0, above_trans u v Q l h.1)

  -- a key that all are above is not among them
  pub above_none : (u : Key) (Q : Pairs A) → Above u Q → output_of Q u ≡ none
  above_none u [] h = refl
  above_none u (q ∷ Q) h = go (same_key q.0 u) refl (above_none u Q h.1)
    where
      go : (t : Bool) → same_key q.0 u ≡ t → output_of Q u ≡ none → ◌≡◌ {A = Option A} (elim t [ true ↦ some q.1 | false ↦ output_of Q u ]) none
      go true e deep = absurd (lower_irrefl u (subst (λ v. lower u v ≡ true) (same_key_true q.0 u e) h.0))
      go false e deep = deep

  pub head_found : (p : Key × A) (Q : Pairs A) → output_of (p ∷ Q) p.0 ≡ some p.1
  head_found p Q = rw (same_key_refl p.0, output_of)

  -- away from the head, the tail answers
  pub tail_found : (p : Key × A) (Q : Pairs A) (w : Key) → same_key p.0 w ≡ false → output_of (p ∷ Q) w ≡ output_of Q w
  tail_found p Q w e = rw (e, output_of)

  none_some : (x : A) → ◌≡◌ {A = Option A} none (some x) → ⊥
  none_some x e = let z : ◌≡◌ {A = ℕ} 0 1 = cc in omega arith

  -- two ascending lists with the same answers are equal
  pub ascending_eq : (F G : Pairs A) → Ascending F → Ascending G → ((w : Key) → output_of F w ≡ output_of G w) → F ≡ G
  ascending_eq [] [] hf hg same = refl
  ascending_eq [] (q ∷ G) hf hg same = absurd (none_some q.1 (same q.0 ∙ head_found q G))
  ascending_eq (p ∷ F) [] hf hg same = absurd (none_some p.1 (sym (same p.0) ∙ head_found p F))
  ascending_eq (p ∷ F) (q ∷ G) hf hg same = go (lower_any p.0 q.0) (ascending_eq F G hf.1 hg.1)
    where
      below : lower p.0 q.0 ≡ true → ⊥
      below l = none_some p.1 (sym (above_none p.0 (q ∷ G) (l, above_trans p.0 q.0 G l hg.0)) ∙ sym (same p.0) ∙ head_found p F)

      above : lower q.0 p.0 ≡ true → ⊥
      above l = none_some q.1 (sym (above_none q.0 (p ∷ F) (l, above_trans q.0 p.0 F l hf.0)) ∙ same q.0 ∙ head_found q G)

      tails : p.0 ≡ q.0 → (w : Key) → output_of F w ≡ output_of G w
      tails e w = at (same_key p.0 w) refl
        where
          at : (t : Bool) → same_key p.0 w ≡ t → output_of F w ≡ output_of G w
          at true s =
              let pw = same_key_true p.0 w s in
              above_none w F (subst (λ v. Above v F) pw hf.0) ∙ sym (above_none w G (subst (λ v. Above v G) (sym e ∙ pw) hg.0))
          at false s = sym (tail_found p F w s) ∙ same w ∙ tail_found q G w (subst (λ v. same_key v w ≡ false) e s)

      go : (p.0 ≡ q.0) ⊎ ((lower p.0 q.0 ≡ true) ⊎ (lower q.0 p.0 ≡ true)) → (((w : Key) → output_of F w ≡ output_of G w) → F ≡ G) → p ∷ F ≡ q ∷ G
      go (inl e) deep =
          let o : some p.1 ≡ some q.1 = sym (head_found p F) ∙ same p.0 ∙ ap (output_of (q ∷ G)) e ∙ head_found q G in
          let x : p.1 ≡ q.1 = cc in
          ap₂ {C = Pairs A} (λ r l. r ∷ l) (λ i. (e i, x i)) (deep (tails e))
      go (inr (inl l)) deep = absurd (below l)
      go (inr (inr l)) deep = absurd (above l)
