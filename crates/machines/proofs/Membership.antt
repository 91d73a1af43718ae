-- Every prefix of a key is listed, and every byte that a key goes on with. Assumes nothing.
use Rattle.std.proofs.Common.{◌≡◌, ℕ, Bool, true, false, eqb, ◌⊎◌, List, [], ◌∷◌, ◌++◌, map, sym, refl, ap, ◌∙◌, subst, inl, inr, arith, ne_eqb, eqb-true}
use mathlib.Core.Option.{Option, none, some}
use Rattle.std.proofs.lemmas.Bool.{cases_eq}
use Rattle.machines.specs.Keys.{Key, same_key, postorder, prefixes}
use Rattle.machines.specs.Pairs.{Pairs, output_of, put, put_all, key_prefixes, first_bytes, in_front}
use Rattle.machines.proofs.Lists.{In}
use Rattle.machines.proofs.Order.{same_key_true, tail_found}
use Rattle.machines.proofs.FirstBytes.{Heads, AllHead}
use Rattle.machines.proofs.Counting.{Lacks}

in_put_self : (u : Key) (vs : List Key) → In u (put u vs)
in_put_self u [] = inl refl
in_put_self u (v ∷ vs) = go (postorder u v) (same_key u v) refl (in_put_self u vs)
  where
    go : (s t : Bool) → same_key u v ≡ t → In u (put u vs) → In u (elim s [ true ↦ u ∷ v ∷ vs | false ↦ elim t [ true ↦ v ∷ vs | false ↦ v ∷ put u vs ] ])
    go true t e deep = inl refl
    go false true e deep = inl (same_key_true u v e)
    go false false e deep = inr deep

in_put : (w u : Key) (vs : List Key) → In w vs → In w (put u vs)
in_put w u [] h = absurd h
in_put w u (v ∷ vs) h = go (postorder u v) (same_key u v) h (in_put w u vs)
  where
    go : (s t : Bool) → (w ≡ v) ⊎ In w vs → (In w vs → In w (put u vs)) → In w (elim s [ true ↦ u ∷ v ∷ vs | false ↦ elim t [ true ↦ v ∷ vs | false ↦ v ∷ put u vs ] ])
    go true t i deep = inr i
    go false true i deep = i
    go false false (inl e) deep = inl e
    go false false (inr i) deep = inr (deep i)

in_put_all : (w : Key) (us vs : List Key) → In w vs → In w (put_all us vs)
in_put_all w [] vs h = h
in_put_all w (u ∷ us) vs h = in_put w u (put_all us vs) (in_put_all w us vs h)

in_put_all_left : (w : Key) (us vs : List Key) → In w us → In w (put_all us vs)
in_put_all_left w [] vs h = absurd h
in_put_all_left w (u ∷ us) vs (inl e) = subst (λ z. In z (put u (put_all us vs))) (sym e) (in_put_self u (put_all us vs))
in_put_all_left w (u ∷ us) vs (inr h) = in_put w u (put_all us vs) (in_put_all_left w us vs h)

in_map : (a : ℕ) (u : Key) (us : List Key) → In u us → In (a ∷ u) (map (λ v. a ∷ v) us)
in_map a u [] h = h
in_map a u (v ∷ vs) (inl e) = inl (ap {B = Key} (λ l. a ∷ l) e)
in_map a u (v ∷ vs) (inr h) = inr (in_map a u vs h)

pub in_prefixes : (u w : Key) → In u (prefixes (u ++ w))
in_prefixes [] [] = inl refl
in_prefixes [] (a ∷ w) = inl refl
in_prefixes (a ∷ u) w = inr (in_map a u (prefixes (u ++ w)) (in_prefixes u w))

-- a byte that is none of the first bytes begins no key
lacks_front : (a b : ℕ) (bs : List ℕ) → Lacks a (in_front b bs) → (a ≡ b → ⊥) × Lacks a bs
lacks_front a b [] h = h
lacks_front a b (c ∷ cs) h = go (eqb b c) refl h
  where
    go : (t : Bool) → eqb b c ≡ t → Lacks a (elim t [ true ↦ c ∷ cs | false ↦ b ∷ c ∷ cs ]) → (a ≡ b → ⊥) × Lacks a (c ∷ cs)
    go true e l = (λ f. l.0 (f ∙ eqb-true b c e), l)
    go false e l = l

module _ {A : Type 0} where
  pub in_key_prefixes : (P : Pairs A) (u w : Key) (z : A) → output_of P (u ++ w) ≡ some z → In u (key_prefixes P)
  in_key_prefixes [] u w z e = let o : ◌≡◌ {A = ℕ} 0 1 = cc in absurd (omega arith)
  in_key_prefixes (p ∷ P) u w z e = go (same_key p.0 (u ++ w)) refl e (in_key_prefixes P u w z)
    where
      go : (t : Bool) → same_key p.0 (u ++ w) ≡ t → ◌≡◌ {A = Option A} (elim t [ true ↦ some p.1 | false ↦ output_of P (u ++ w) ]) (some z) → (output_of P (u ++ w) ≡ some z → In u (key_prefixes P)) → In u (key_prefixes (p ∷ P))
      go true s f deep = in_put_all_left u (prefixes p.0) (key_prefixes P) (subst (λ v. In u (prefixes v)) (sym (same_key_true p.0 (u ++ w) s)) (in_prefixes u w))
      go false s f deep = in_put_all u (prefixes p.0) (key_prefixes P) (deep f)

  pub lacks_none : (Q : Pairs A) (a : ℕ) (w : Key) → Lacks a (first_bytes Q) → output_of Q (a ∷ w) ≡ none
  lacks_none [] a w h = refl
  lacks_none (q ∷ Q) a w h = go q.0 refl h (lacks_none Q a w)
    where
      go : (v : Key) → q.0 ≡ v → Lacks a (elim v [ [] ↦ first_bytes Q | b ∷ u ↦ in_front b (first_bytes Q) ]) → (Lacks a (first_bytes Q) → output_of Q (a ∷ w) ≡ none) → output_of (q ∷ Q) (a ∷ w) ≡ none
      go [] e l deep = tail_found q Q (a ∷ w) (subst (λ v. same_key v (a ∷ w) ≡ false) (sym e) refl) ∙ deep l
      go (b ∷ u) e l deep =
          let f = lacks_front a b (first_bytes Q) l in
          tail_found q Q (a ∷ w) (subst (λ v. same_key v (a ∷ w) ≡ false) (sym e) (rw (ne_eqb b a (λ s. f.0 (sym s))))) ∙ deep f.1

pub lacks_or_in : (a : ℕ) (as' : List ℕ) → In a as' ⊎ Lacks a as'
lacks_or_in a [] = inr tt
lacks_or_in a (b ∷ bs) = go (cases_eq a b) (lacks_or_in a bs)
  where
    go : (a ≡ b) ⊎ (a ≡ b → ⊥) → In a bs ⊎ Lacks a bs → ((a ≡ b) ⊎ In a bs) ⊎ ((a ≡ b → ⊥) × Lacks a bs)
    go (inl e) d = inl (inl e)
    go (inr n) (inl i) = inl (inr i)
    go (inr n) (inr l) = inr (n, l)

pub in_heads : {A : Type 0} (Q : Pairs A) (a : ℕ) (as' : List ℕ) → AllHead Q as' → In a as' → Heads Q a
in_heads Q a [] h i = absurd i
in_heads Q a (b ∷ bs) h (inl e) = subst (Heads Q) (sym e) h.0
in_heads Q a (b ∷ bs) h (inr i) = in_heads Q a bs h.1 i
