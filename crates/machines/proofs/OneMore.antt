-- One pair more with a higher key: what stands under each prefix, and how many next bytes the prefixes of the newest key have. Assumes nothing.
use Rattle.std.proofs.Common.{◌≡◌, ℕ, suc, ◌+◌, ◌<◌, Bool, true, false, ◌⊎◌, List, [], ◌∷◌, ◌++◌, map, length, sym, refl, ap, ◌∙◌, subst, inl, inr, arith, eq-eqb, ne_eqb}
use mathlib.Core.Option.{Option, none, some}
use lib.ListN.{length-map}
use borrow.Author.Tests.{both_ways}
use Rattle.machines.specs.Keys.{Key, lower, same_key, past, is_some, is_prefix, common_length, prefixes}
use Rattle.machines.specs.Pairs.{Pairs, output_of, under, Above, Ascending}
use Rattle.machines.specs.Memory.{newest, no_prefixes_of}
use Rattle.machines.proofs.Order.{same_key_true, lower_ways}

-- a string between two that begin with v begins with v
pub between : (v w last y : Key) → lower (v ++ w) last ≡ true → lower last (v ++ y) ≡ true → is_prefix v last ≡ true
between [] w last y f g = refl
between (a ∷ v) w [] y f g = absurd (both_ways false refl f)
between (a ∷ v) w (b ∷ last) y f g = go (lower_ways a b (v ++ w) last f) (lower_ways b a last (v ++ y) g) (between v w last y)
  where
    go : (a < b) ⊎ ((a ≡ b) × (lower (v ++ w) last ≡ true)) → (b < a) ⊎ ((b ≡ a) × (lower last (v ++ y) ≡ true))
        → (lower (v ++ w) last ≡ true → lower last (v ++ y) ≡ true → is_prefix v last ≡ true) → is_prefix (a ∷ v) (b ∷ last) ≡ true
    go (inl h) (inl i) deep = absurd (omega arith)
    go (inl h) (inr q) deep = absurd (omega (arith, q.0))
    go (inr p) (inl i) deep = absurd (omega (arith, p.0))
    go (inr p) (inr q) deep =
        ap (λ t. is_some (elim t as (λ x. Option Key) [ true ↦ past v last | false ↦ none ])) (eq-eqb a b p.0) ∙ deep p.1 q.1

module _ {A : Type 0} where
  -- some pairs have a newest key
  pub newest_some : (p : Key × A) (P : Pairs A) → (w : Key) × (newest (p ∷ P) ≡ some w)
  newest_some p [] = (p.0, refl)
  newest_some p (q ∷ P) = newest_some q P

  pub newest_end : (P : Pairs A) (e : Key × A) → newest (P ++ (e ∷ [])) ≡ some e.0
  newest_end [] e = refl
  newest_end (p ∷ []) e = refl
  newest_end (p ∷ q ∷ P) e = newest_end (q ∷ P) e

  pub under_end_none : (P : Pairs A) (e : Key × A) (u : Key) → past u e.0 ≡ none → under (P ++ (e ∷ [])) u ≡ under P u
  under_end_none [] e u f = ap (λ (o : Option Key). elim o as (λ x. Pairs A) [ none ↦ [] | some w ↦ (w, e.1) ∷ [] ]) f
  under_end_none (p ∷ P) e u f =
      ap (λ (Q : Pairs A). elim (past u p.0) as (λ x. Pairs A) [ none ↦ Q | some w ↦ (w, p.1) ∷ Q ]) (under_end_none P e u f)

  pub under_end_some : (P : Pairs A) (e : Key × A) (u w : Key) → past u e.0 ≡ some w → under (P ++ (e ∷ [])) u ≡ under P u ++ ((w, e.1) ∷ [])
  under_end_some [] e u w f = ap (λ (o : Option Key). elim o as (λ x. Pairs A) [ none ↦ [] | some v ↦ (v, e.1) ∷ [] ]) f
  under_end_some (p ∷ P) e u w f =
      ap (λ (Q : Pairs A). elim (past u p.0) as (λ x. Pairs A) [ none ↦ Q | some v ↦ (v, p.1) ∷ Q ]) (under_end_some P e u w f) ∙ out (past u p.0)
    where
      out : (o : Option Key) → ◌≡◌ {A = Pairs A} (elim o [ none ↦ under P u ++ ((w, e.1) ∷ []) | some v ↦ (v, p.1) ∷ (under P u ++ ((w, e.1) ∷ [])) ])
          ((elim o as (λ x. Pairs A) [ none ↦ under P u | some v ↦ (v, p.1) ∷ under P u ]) ++ ((w, e.1) ∷ []))
      out none = refl
      out (some v) = refl

  pub above_newest : (u : Key) (Q : Pairs A) (last : Key) → Above u Q → newest Q ≡ some last → lower u last ≡ true
  above_newest u [] last h f = let o : ◌≡◌ {A = ℕ} 0 1 = cc in absurd (omega arith)
  above_newest u (q ∷ []) last h f = let o : q.0 ≡ last = cc in subst (λ v. lower u v ≡ true) o h.0
  above_newest u (q ∷ r ∷ Q) last h f = above_newest u (r ∷ Q) last h.1 f

  -- no key is above the newest
  pub below_newest : (P : Pairs A) (last w : Key) (z : A) → Ascending P → newest P ≡ some last → output_of P w ≡ some z → (w ≡ last) ⊎ (lower w last ≡ true)
  below_newest [] last w z a f g = let o : ◌≡◌ {A = ℕ} 0 1 = cc in absurd (omega arith)
  below_newest (p ∷ []) last w z a f g = go (same_key p.0 w) refl g
    where
      go : (t : Bool) → same_key p.0 w ≡ t → ◌≡◌ {A = Option A} (elim t [ true ↦ some p.1 | false ↦ none ]) (some z) → (w ≡ last) ⊎ (lower w last ≡ true)
      go true s h = let o : p.0 ≡ last = cc in inl (sym (same_key_true p.0 w s) ∙ o)
      go false s h = let o : ◌≡◌ {A = ℕ} 0 1 = cc in absurd (omega arith)
  below_newest (p ∷ q ∷ P) last w z a f g = go (same_key p.0 w) refl g (below_newest (q ∷ P) last w z a.1 f)
    where
      go : (t : Bool) → same_key p.0 w ≡ t → ◌≡◌ {A = Option A} (elim t [ true ↦ some p.1 | false ↦ output_of (q ∷ P) w ]) (some z)
          → (output_of (q ∷ P) w ≡ some z → (w ≡ last) ⊎ (lower w last ≡ true)) → (w ≡ last) ⊎ (lower w last ≡ true)
      go true s h deep = inr (subst (λ v. lower v last ≡ true) (same_key_true p.0 w s) (above_newest p.0 (q ∷ P) last a.0 f))
      go false s h deep = deep h

-- the prefixes of one key that are no prefixes of another
pub length_prefixes : (u : Key) → length (prefixes u) ≡ suc (length u)
length_prefixes [] = refl
length_prefixes (a ∷ u) = ap suc (length-map (prefixes u) (λ v. a ∷ v) ∙ length_prefixes u)

pub filter_same : (a b : ℕ) (key : Key) (vs : List Key) → b ≡ a → no_prefixes_of (a ∷ key) (map (λ v. b ∷ v) vs) ≡ map (λ v. b ∷ v) (no_prefixes_of key vs)
filter_same a b key [] e = refl
filter_same a b key (v ∷ vs) e =
    ap (λ t. elim (is_some (elim t as (λ x. Option Key) [ true ↦ past v key | false ↦ none ])) as (λ x. List Key) [ true ↦ no_prefixes_of (a ∷ key) (map (λ u. b ∷ u) vs) | false ↦ (b ∷ v) ∷ no_prefixes_of (a ∷ key) (map (λ u. b ∷ u) vs) ]) (eq-eqb b a e)
    ∙ go (is_prefix v key) (filter_same a b key vs e)
  where
    go : (t : Bool) → no_prefixes_of (a ∷ key) (map (λ u. b ∷ u) vs) ≡ map (λ u. b ∷ u) (no_prefixes_of key vs)
        → ◌≡◌ {A = List Key} (elim t [ true ↦ no_prefixes_of (a ∷ key) (map (λ u. b ∷ u) vs) | false ↦ (b ∷ v) ∷ no_prefixes_of (a ∷ key) (map (λ u. b ∷ u) vs) ])
        (map (λ u. b ∷ u) (elim t as (λ x. List Key) [ true ↦ no_prefixes_of key vs | false ↦ v ∷ no_prefixes_of key vs ]))
    go true deep = deep
    go false deep = ap {B = List Key} (λ l. (b ∷ v) ∷ l) deep

pub filter_other : (a b : ℕ) (key : Key) (vs : List Key) → (b ≡ a → ⊥) → no_prefixes_of (a ∷ key) (map (λ v. b ∷ v) vs) ≡ map (λ v. b ∷ v) vs
filter_other a b key [] n = refl
filter_other a b key (v ∷ vs) n =
    ap (λ t. elim (is_some (elim t as (λ x. Option Key) [ true ↦ past v key | false ↦ none ])) as (λ x. List Key) [ true ↦ no_prefixes_of (a ∷ key) (map (λ u. b ∷ u) vs) | false ↦ (b ∷ v) ∷ no_prefixes_of (a ∷ key) (map (λ u. b ∷ u) vs) ]) (ne_eqb b a n)
    ∙ ap {B = List Key} (λ l. (b ∷ v) ∷ l) (filter_other a b key vs n)

pub common_same : (a b : ℕ) (u v : Key) → a ≡ b → common_length (a ∷ u) (b ∷ v) ≡ suc (common_length u v)
common_same a b u v e = ap (λ t. elim t as (λ x. ℕ) [ true ↦ suc (common_length u v) | false ↦ 0 ]) (eq-eqb a b e)

pub common_other : (a b : ℕ) (u v : Key) → (a ≡ b → ⊥) → common_length (a ∷ u) (b ∷ v) ≡ 0
common_other a b u v n = ap (λ t. elim t as (λ x. ℕ) [ true ↦ suc (common_length u v) | false ↦ 0 ]) (ne_eqb a b n)

-- as many as the other key is longer than what is common
pub length_dropped : (key last : Key) → lower last key ≡ true → length (no_prefixes_of key (prefixes last)) + common_length key last ≡ length last
length_dropped [] last l = absurd (both_ways false refl l)
length_dropped (a ∷ key) [] l = refl
length_dropped (a ∷ key) (b ∷ last) l = go (lower_ways b a last key l) (length_dropped key last)
  where
    go : (b < a) ⊎ ((b ≡ a) × (lower last key ≡ true)) → (lower last key ≡ true → length (no_prefixes_of key (prefixes last)) + common_length key last ≡ length last)
        → length (no_prefixes_of (a ∷ key) (map (λ v. b ∷ v) (prefixes last))) + common_length (a ∷ key) (b ∷ last) ≡ suc (length last)
    go (inl h) deep =
        omega (arith, ap length (filter_other a b key (prefixes last) (omega arith)), length-map (prefixes last) (λ v. b ∷ v), length_prefixes last, common_other a b key last (omega arith))
    go (inr p) deep =
        omega (arith, ap length (filter_same a b key (prefixes last) p.0), length-map (no_prefixes_of key (prefixes last)) (λ v. b ∷ v), common_same a b key last (sym p.0), deep p.1)
