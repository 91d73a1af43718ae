-- Pairs with one more at the end: what is found, what stands under a prefix, the newest key. Assumes nothing.
use Rattle.std.proofs.Common.{◌≡◌, ℕ, suc, ◌<◌, Bool, true, false, ◌⊎◌, [], ◌∷◌, ◌++◌, length, drop, sym, refl, ap, ◌∙◌, subst, ap₂, inl, inr, arith, eq-eqb, ne_eqb}
use mathlib.Core.Option.{Option, none, some}
use borrow.Author.Tests.{both_ways}
use Rattle.machines.specs.Lists.{Each}
use Rattle.machines.specs.Keys.{Key, lower, same_key, past, common_length}
use Rattle.machines.specs.Pairs.{Pairs, output_of, KeyPrefix, Above, Ascending}
use Rattle.machines.specs.Memory.{newest}
use Rattle.machines.proofs.Order.{same_key_true, lower_ways, lower_trans, head_found}
use Rattle.machines.proofs.Under.{past_append}
use Rattle.machines.proofs.FirstBytes.{still_found}

-- a string is empty or begins below b
abbrev pub HeadBelow : ℕ → Key → Type 0
HeadBelow b [] = Unit {0}
HeadBelow b (a ∷ s) = a < b

-- Where a key leaves a lower one: what both share, what follows in the lower one, and what follows in the key.
pub record Leaves (low key : Key) : Type 0 where
  pub shared : Key
  pub old : Key
  pub byte : ℕ
  pub new : Key
  pub low_is : low ≡ shared ++ old
  pub key_is : key ≡ shared ++ (byte ∷ new)
  pub depth : common_length key low ≡ length shared
  pub behind : drop (length shared) key ≡ byte ∷ new
  pub below : HeadBelow byte old

pub leaves : (low key : Key) → lower low key ≡ true → Leaves low key
leaves low [] h = absurd (both_ways false refl h)
leaves [] (b ∷ key) h = record { shared = []; old = []; byte = b; new = key; low_is = refl; key_is = refl; depth = refl; behind = refl; below = tt }
leaves (a ∷ low) (b ∷ key) h = go (lower_ways a b low key h) (leaves low key)
  where
    go : (a < b) ⊎ ((a ≡ b) × (lower low key ≡ true)) → (lower low key ≡ true → Leaves low key) → Leaves (a ∷ low) (b ∷ key)
    go (inl l) deep = record {
      shared = [];
      old = a ∷ low;
      byte = b;
      new = key;
      low_is = refl;
      key_is = refl;
      depth = ap {B = ℕ} (λ t. elim t [ true ↦ suc (common_length key low) | false ↦ 0 ]) (ne_eqb b a (omega arith));
      behind = refl;
      below = l;
    }
    go (inr e) deep =
        let d = deep e.1 in
        record {
          shared = a ∷ d.shared;
          old = d.old;
          byte = d.byte;
          new = d.new;
          low_is = ap {B = Key} (λ v. a ∷ v) d.low_is;
          key_is = ap₂ {C = Key} (λ c v. c ∷ v) (sym e.0) d.key_is;
          depth = ap {B = ℕ} (λ t. elim t [ true ↦ suc (common_length key low) | false ↦ 0 ]) (eq-eqb b a (sym e.0)) ∙ ap suc d.depth;
          behind = d.behind;
          below = d.below;
        }

-- what begins a string below and a string above begins what stands between them
pub between : (v t low r : Key) → (v ++ t ≡ low) ⊎ (lower (v ++ t) low ≡ true) → lower low (v ++ r) ≡ true → (z : Key) × (past v low ≡ some z)
between [] t low r h g = (low, refl)
between (a ∷ v) t [] r (inl e) g = let o : ◌≡◌ {A = ℕ} 0 1 = cc in absurd (omega arith)
between (a ∷ v) t [] r (inr l) g = absurd (both_ways false refl l)
between (a ∷ v) t (b ∷ low) r h g = go (first h) (lower_ways b a low (v ++ r) g) (between v t low r)
  where
    first : ((a ∷ v) ++ t ≡ b ∷ low) ⊎ (lower ((a ∷ v) ++ t) (b ∷ low) ≡ true) → (a < b) ⊎ ((a ≡ b) × ((v ++ t ≡ low) ⊎ (lower (v ++ t) low ≡ true)))
    first (inl e) = let p : a ≡ b = cc in let q : v ++ t ≡ low = cc in inr (p, inl q)
    first (inr l) = elim (lower_ways a b (v ++ t) low l) [ inl x ↦ inl x | inr y ↦ inr (y.0, inr y.1) ]

    go : (a < b) ⊎ ((a ≡ b) × ((v ++ t ≡ low) ⊎ (lower (v ++ t) low ≡ true))) → (b < a) ⊎ ((b ≡ a) × (lower low (v ++ r) ≡ true))
        → ((v ++ t ≡ low) ⊎ (lower (v ++ t) low ≡ true) → lower low (v ++ r) ≡ true → (z : Key) × (past v low ≡ some z)) → (z : Key) × (past (a ∷ v) (b ∷ low) ≡ some z)
    go (inl x) (inl y) deep = absurd (omega arith)
    go (inl x) (inr y) deep = absurd (omega (arith, y.0))
    go (inr x) (inl y) deep = absurd (omega (arith, x.0))
    go (inr x) (inr y) deep =
        let d = deep x.1 y.1 in
        (d.0, ap {B = Option Key} (λ s. elim s [ true ↦ past v low | false ↦ none ]) (eq-eqb a b x.0) ∙ d.1)

module _ {A : Type 0} where
  pub found_left : (P Q : Pairs A) (v : Key) (z : A) → output_of P v ≡ some z → output_of (P ++ Q) v ≡ some z
  found_left [] Q v z e = let o : ◌≡◌ {A = ℕ} 0 1 = cc in absurd (omega arith)
  found_left (p ∷ P) Q v z e = go (same_key p.0 v) e (found_left P Q v z)
    where
      go : (t : Bool) → ◌≡◌ {A = Option A} (elim t [ true ↦ some p.1 | false ↦ output_of P v ]) (some z) → (output_of P v ≡ some z → output_of (P ++ Q) v ≡ some z)
          → ◌≡◌ {A = Option A} (elim t [ true ↦ some p.1 | false ↦ output_of (P ++ Q) v ]) (some z)
      go true f deep = f
      go false f deep = deep f

  pub found_either : (P : Pairs A) (e : Key × A) (v : Key) (z : A) → output_of (P ++ (e ∷ [])) v ≡ some z → (output_of P v ≡ some z) ⊎ (e.0 ≡ v)
  found_either [] e v z f = go (same_key e.0 v) refl f
    where
      go : (t : Bool) → same_key e.0 v ≡ t → ◌≡◌ {A = Option A} (elim t [ true ↦ some e.1 | false ↦ none ]) (some z) → (◌≡◌ {A = Option A} none (some z)) ⊎ (e.0 ≡ v)
      go true s g = inr (same_key_true e.0 v s)
      go false s g = inl g
  found_either (p ∷ P) e v z f = go (same_key p.0 v) f (found_either P e v z)
    where
      go : (t : Bool) → ◌≡◌ {A = Option A} (elim t [ true ↦ some p.1 | false ↦ output_of (P ++ (e ∷ [])) v ]) (some z) → (output_of (P ++ (e ∷ [])) v ≡ some z → (output_of P v ≡ some z) ⊎ (e.0 ≡ v))
          → (◌≡◌ {A = Option A} (elim t [ true ↦ some p.1 | false ↦ output_of P v ]) (some z)) ⊎ (e.0 ≡ v)
      go true g deep = inl g
      go false g deep = deep g

  -- the prefixes of keys, with one key more
  pub prefix_left : (P Q : Pairs A) (v : Key) → KeyPrefix P v → KeyPrefix (P ++ Q) v
  prefix_left P Q v s = (s.0, s.1, found_left P Q (v ++ s.0) s.1 s.2)

  pub prefix_either : (P : Pairs A) (e : Key × A) (v : Key) → KeyPrefix (P ++ (e ∷ [])) v → KeyPrefix P v ⊎ ((t : Key) × (past v e.0 ≡ some t))
  prefix_either P e v s = elim (found_either P e (v ++ s.0) s.1 s.2) [
    | inl f ↦ inl (s.0, s.1, f)
    | inr f ↦ inr (s.0, ap (past v) f ∙ past_append v s.0)
  ]

  pub newest_found : (P : Pairs A) (w : Key) → newest P ≡ some w → (z : A) × (output_of P w ≡ some z)
  newest_found [] w e = let o : ◌≡◌ {A = ℕ} 0 1 = cc in absurd (omega arith)
  newest_found (p ∷ []) w e = let o : p.0 ≡ w = cc in (p.1, subst (λ v. output_of (p ∷ []) v ≡ some p.1) o (head_found p []))
  newest_found (p ∷ q ∷ P) w e = let d = newest_found (q ∷ P) w e in still_found p (q ∷ P) w d.0 d.1

  -- every prefix of the newest key is a prefix of a key
  pub newest_prefix : (P : Pairs A) (v t : Key) → newest P ≡ some (v ++ t) → KeyPrefix P v
  newest_prefix P v t e = let d = newest_found P (v ++ t) e in (t, d.0, d.1)

  pub ascending_left : (P Q : Pairs A) → Ascending (P ++ Q) → Ascending P
  ascending_left [] Q h = tt
  ascending_left (p ∷ P) Q h = (above_left P h.0, ascending_left P Q h.1)
    where
      above_left : (R : Pairs A) → Above p.0 (R ++ Q) → Above p.0 R
      above_left [] g = tt
      above_left (r ∷ R) g = (g.0, above_left R g.1)

  pub newest_below : (P : Pairs A) (e : Key × A) (Q : Pairs A) (w : Key) → Ascending (P ++ (e ∷ Q)) → newest P ≡ some w → lower w e.0 ≡ true
  newest_below [] e Q w h n = let o : ◌≡◌ {A = ℕ} 0 1 = cc in absurd (omega arith)
  newest_below (p ∷ []) e Q w h n = let o : p.0 ≡ w = cc in subst (λ v. lower v e.0 ≡ true) o h.0.0
  newest_below (p ∷ q ∷ P) e Q w h n = newest_below (q ∷ P) e Q w h.1 n

  -- no key is above the newest
  pub up_to_newest : (P : Pairs A) (w : Key) → Ascending P → newest P ≡ some w → Each (λ p. (p.0 ≡ w) ⊎ (lower p.0 w ≡ true)) P
  up_to_newest [] w h n = tt
  up_to_newest (p ∷ []) w h n = let o : p.0 ≡ w = cc in (inl o, tt)
  up_to_newest (p ∷ q ∷ P) w h n = let d = up_to_newest (q ∷ P) w h.1 n in (inr (go d.0), d)
    where
      go : (q.0 ≡ w) ⊎ (lower q.0 w ≡ true) → lower p.0 w ≡ true
      go (inl e) = subst (λ v. lower p.0 v ≡ true) e h.0.0
      go (inr l) = lower_trans p.0 q.0 w h.0.0 l

-- a longer key is found elsewhere
pub output_other : {A : Type 0} (P : Pairs A) (e : Key × A) (u : Key) → (e.0 ≡ u → ⊥) → output_of (P ++ (e ∷ [])) u ≡ output_of P u
output_other {A} [] e u n = go (same_key e.0 u) refl
  where
    go : (t : Bool) → same_key e.0 u ≡ t → ◌≡◌ {A = Option A} (elim t [ true ↦ some e.1 | false ↦ none ]) none
    go true s = absurd (n (same_key_true e.0 u s))
    go false s = refl
output_other {A} (p ∷ P) e u n = ap {B = Option A} (λ o. elim (same_key p.0 u) [ true ↦ some p.1 | false ↦ o ]) (output_other P e u n)
