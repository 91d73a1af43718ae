-- The prefixes of keys in postorder are the closed ones and then those of the newest key; a new key closes those that are not its own. Assumes ascending keys.
use Rattle.std.proofs.Common.{◌≡◌, ℕ, ◌<◌, Bool, true, false, eqb, ◌⊎◌, List, [], ◌∷◌, ◌++◌, sym, refl, ap, ◌∙◌, subst, inl, inr, arith, eq-eqb, ne_eqb}
use mathlib.Core.Option.{Option, none, some}
use borrow.Author.Tests.{both_ways}
use Rattle.machines.specs.Lists.{Each}
use Rattle.machines.specs.Keys.{Key, lower, past, is_some, is_prefix}
use Rattle.machines.specs.Pairs.{Pairs, KeyPrefix, key_prefixes, Ascending}
use Rattle.machines.specs.Memory.{newest, no_prefixes_of, closed_prefixes}
use Rattle.machines.proofs.Lists.{In, each_in, each_map}
use Rattle.machines.proofs.Order.{lower_ways}
use Rattle.machines.proofs.ByteStrings.{found_each}
use Rattle.machines.proofs.Under.{past_append, past_some}
use Rattle.machines.proofs.Classes.{each_key_prefix}
use Rattle.machines.proofs.Membership.{in_key_prefixes}
use Rattle.machines.proofs.Postorder.{before, Sorted, prefixes_sorted, before_less, before_same}
use Rattle.machines.proofs.HeldMemory.{not_past}
use Rattle.construction.proofs.Lists.{in_left, in_right, in_either}
use Rattle.construction.proofs.OneMore.{newest_prefix, up_to_newest}
use Rattle.construction.proofs.SortedPrefixes.{sorted_append, sorted_equal, beyond, Beyond, each_beyond, in_beyond, beyond_sorted}

some_prefix : (v key t : Key) → past v key ≡ some t → is_prefix v key ≡ true
some_prefix v key t e = ap is_some e

-- no string goes on behind itself
pub past_same : (v : Key) (a : ℕ) (t : Key) → past (v ++ (a ∷ t)) v ≡ none
past_same [] a t = refl
past_same (b ∷ v) a t = go (eqb b b) (past_same v a t)
  where
    go : (x : Bool) → past (v ++ (a ∷ t)) v ≡ none → ◌≡◌ {A = Option Key} (elim x [ true ↦ past (v ++ (a ∷ t)) v | false ↦ none ]) none
    go true deep = deep
    go false deep = refl

-- strings that part at a byte
pub past_apart : (c : Key) (a b : ℕ) (t r : Key) → (a ≡ b → ⊥) → past (c ++ (a ∷ t)) (c ++ (b ∷ r)) ≡ none
past_apart [] a b t r n = ap {B = Option Key} (λ x. elim x [ true ↦ past t r | false ↦ none ]) (ne_eqb a b n)
past_apart (d ∷ c) a b t r n = go (eqb d d) (past_apart c a b t r n)
  where
    go : (x : Bool) → past (c ++ (a ∷ t)) (c ++ (b ∷ r)) ≡ none → ◌≡◌ {A = Option Key} (elim x [ true ↦ past (c ++ (a ∷ t)) (c ++ (b ∷ r)) | false ↦ none ]) none
    go true deep = deep
    go false deep = refl

module _ (key : Key) where
  in_no : (v : Key) (us : List Key) → In v us → is_prefix v key ≡ false → In v (no_prefixes_of key us)
  in_no v [] i h = absurd i
  in_no v (u ∷ us) i h = go (is_prefix u key) refl i (in_no v us)
    where
      go : (t : Bool) → is_prefix u key ≡ t → (v ≡ u) ⊎ In v us → (In v us → is_prefix v key ≡ false → In v (no_prefixes_of key us)) → In v (elim t [ true ↦ no_prefixes_of key us | false ↦ u ∷ no_prefixes_of key us ])
      go true e (inl x) deep = absurd (both_ways (is_prefix v key) h (subst (λ z. is_prefix z key ≡ true) (sym x) e))
      go true e (inr j) deep = deep j h
      go false e (inl x) deep = inl x
      go false e (inr j) deep = inr (deep j h)

  each_no : (Q : Key → Type 0) (us : List Key) → Each Q us → Each (λ v. Q v × (is_prefix v key ≡ false)) (no_prefixes_of key us)
  each_no Q [] h = tt
  each_no Q (u ∷ us) h = go (is_prefix u key) refl (each_no Q us h.1)
    where
      go : (t : Bool) → is_prefix u key ≡ t → Each (λ v. Q v × (is_prefix v key ≡ false)) (no_prefixes_of key us) → Each (λ v. Q v × (is_prefix v key ≡ false)) (elim t [ true ↦ no_prefixes_of key us | false ↦ u ∷ no_prefixes_of key us ])
      go true e deep = deep
      go false e deep = ((h.0, e), deep)

  sorted_no : (us : List Key) → Sorted us → Sorted (no_prefixes_of key us)
  sorted_no [] h = tt
  sorted_no (u ∷ us) h = go (is_prefix u key) (sorted_no us h.1) (each_map _ _ (no_prefixes_of key us) (λ v p. p.0) (each_no (λ v. before u v ≡ true) us h.0))
    where
      go : (t : Bool) → Sorted (no_prefixes_of key us) → Each (λ v. before u v ≡ true) (no_prefixes_of key us) → Sorted (elim t [ true ↦ no_prefixes_of key us | false ↦ u ∷ no_prefixes_of key us ])
      go true deep e = deep
      go false deep e = (e, deep)

-- what does not begin a string, but begins one below it, comes before all that begins it
closed_before : (v t w u r : Key) → lower (v ++ t) w ≡ true → is_prefix v w ≡ false → w ≡ u ++ r → before v u ≡ true
closed_before [] t w u r l n e = absurd (both_ways true n refl)
closed_before (a ∷ v) t [] u r l n e = absurd (both_ways false refl l)
closed_before (a ∷ v) t (b ∷ w) [] r l n e = refl
closed_before (a ∷ v) t (b ∷ w) (c ∷ u) r l n e = go (lower_ways a b (v ++ t) w l) (closed_before v t w u r)
  where
    go : (a < b) ⊎ ((a ≡ b) × (lower (v ++ t) w ≡ true)) → (lower (v ++ t) w ≡ true → is_prefix v w ≡ false → w ≡ u ++ r → before v u ≡ true) → before (a ∷ v) (c ∷ u) ≡ true
    go (inl x) deep = let o : b ≡ c = cc in before_less a c v u (omega arith)
    go (inr x) deep =
        let o : b ≡ c = cc in
        let p : w ≡ u ++ r = cc in
        before_same a c v u (x.0 ∙ o) (deep x.1 (subst (λ s. is_some (elim s as (λ i. Option Key) [ true ↦ past v w | false ↦ none ]) ≡ false) (eq-eqb a b x.0) n) p)

-- the prefixes of a key, the longest first
abbrev pub opened : Key → List Key
opened w = beyond [] w ++ ([] ∷ [])

pub each_opened : (w : Key) → Each (λ u. (r : Key) × (w ≡ u ++ r)) (opened w)
each_opened w = append (beyond [] w) (each_beyond [] w)
  where
    append : (vs : List Key) → Each (Beyond [] w) vs → Each (λ u. (r : Key) × (w ≡ u ++ r)) (vs ++ ([] ∷ []))
    append [] h = ((w, refl), tt)
    append (v ∷ vs) h = ((h.0.rest, h.0.of ∙ ap (λ x. x ++ h.0.rest) (sym h.0.is)), append vs h.1)

in_opened : (w u r : Key) → w ≡ u ++ r → In u (opened w)
in_opened w [] r e = in_right [] (beyond [] w) ([] ∷ []) (inl refl)
in_opened w (a ∷ u) r e = in_left (a ∷ u) (beyond [] w) ([] ∷ []) (subst (λ x. In (a ∷ u) (beyond [] x)) (sym e) (in_beyond [] a u r))

module _ {A : Type 0} (P : Pairs A) (ascending : Ascending P) (w : Key) (newest_is : newest P ≡ some w) where
  closed_is : closed_prefixes P ≡ no_prefixes_of w (key_prefixes P)
  closed_is = ap {B = List Key} (λ o. elim o [ none ↦ [] | some key ↦ no_prefixes_of key (key_prefixes P) ]) newest_is

  -- a prefix of a key is a prefix of one up to the newest
  pub up_to : (v : Key) → KeyPrefix P v → (t : Key) × ((v ++ t ≡ w) ⊎ (lower (v ++ t) w ≡ true))
  up_to v s = (s.0, found_each (λ u. (u ≡ w) ⊎ (lower u w ≡ true)) P (v ++ s.0) s.1 (up_to_newest P w ascending newest_is) s.2)

  each_closed : Each (λ v. KeyPrefix P v × (is_prefix v w ≡ false)) (no_prefixes_of w (key_prefixes P))
  each_closed = each_no w (KeyPrefix P) (key_prefixes P) (each_key_prefix P)

  closed_first : (v u r : Key) → KeyPrefix P v × (is_prefix v w ≡ false) → w ≡ u ++ r → before v u ≡ true
  closed_first v u r h e = go (up_to v h.0)
    where
      go : (t : Key) × ((v ++ t ≡ w) ⊎ (lower (v ++ t) w ≡ true)) → before v u ≡ true
      go (t, inl q) = absurd (both_ways (is_prefix v w) h.1 (some_prefix v w t (ap (past v) (sym q) ∙ past_append v t)))
      go (t, inr l) = closed_before v t w u r l h.1 e

  parted_sorted : Sorted (no_prefixes_of w (key_prefixes P) ++ opened w)
  parted_sorted =
      sorted_append (no_prefixes_of w (key_prefixes P)) (opened w) (sorted_no w (key_prefixes P) (prefixes_sorted P))
      (sorted_append (beyond [] w) ([] ∷ []) (beyond_sorted [] w) (tt, tt)
      (each_map _ _ (beyond [] w) (λ v d. (subst (λ x. before x [] ≡ true) (sym d.is) refl, tt)) (each_beyond [] w)))
      (each_map _ _ (no_prefixes_of w (key_prefixes P)) (λ v h. each_map _ _ (opened w) (λ u d. closed_first v u d.0 h d.1) (each_opened w)) each_closed)

  -- all prefixes: the closed ones, then those of the newest key, the longest first
  pub all_prefixes : key_prefixes P ≡ closed_prefixes P ++ opened w
  all_prefixes = sorted_equal (key_prefixes P) (no_prefixes_of w (key_prefixes P) ++ opened w) (prefixes_sorted P) parted_sorted forth back ∙ ap (λ l. l ++ opened w) (sym closed_is)
    where
      forth : (v : Key) → In v (key_prefixes P) → In v (no_prefixes_of w (key_prefixes P) ++ opened w)
      forth v i = go (past v w) refl
        where
          go : (o : Option Key) → past v w ≡ o → In v (no_prefixes_of w (key_prefixes P) ++ opened w)
          go none e = in_left v (no_prefixes_of w (key_prefixes P)) (opened w) (in_no w v (key_prefixes P) i (ap is_some e))
          go (some t) e = in_right v (no_prefixes_of w (key_prefixes P)) (opened w) (in_opened w v t (past_some v w t e))

      back : (v : Key) → In v (no_prefixes_of w (key_prefixes P) ++ opened w) → In v (key_prefixes P)
      back v i = elim (in_either v (no_prefixes_of w (key_prefixes P)) (opened w) i) [
        | inl j ↦ let s = (each_in _ (no_prefixes_of w (key_prefixes P)) v each_closed j).0 in in_key_prefixes P v s.0 s.1 s.2
        | inr j ↦ let d = each_in _ (opened w) v (each_opened w) j in let s = newest_prefix P v d.0 (newest_is ∙ ap {B = Option Key} some d.1) in in_key_prefixes P v s.0 s.1 s.2
      ]

  pub each_closed_prefix : Each (λ v. KeyPrefix P v × (past v w ≡ none)) (closed_prefixes P)
  each_closed_prefix = subst (Each (λ v. KeyPrefix P v × (past v w ≡ none))) (sym closed_is) (each_map _ _ (no_prefixes_of w (key_prefixes P)) (λ v h. (h.0, not_past v w h.1)) each_closed)

  -- a prefix of a key that is none of the newest key is closed
  pub is_closed : (v : Key) → KeyPrefix P v → past v w ≡ none → In v (closed_prefixes P)
  is_closed v s n = subst (In v) (sym closed_is) (in_no w v (key_prefixes P) (in_key_prefixes P v s.0 s.1 s.2) (ap is_some n))
