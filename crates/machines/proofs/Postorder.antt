-- Postorder is a strict order, the first prefixes of the classes stand in it, and an arc's target has a lower number. Assumes nothing.
use Rattle.std.proofs.Common.{◌≡◌, ℕ, zero, suc, ◌<◌, Bool, true, false, ◌&&◌, ◌||◌, eqb, ltb, ◌⊎◌, List, [], ◌∷◌, ◌++◌, sym, refl, ◌∙◌, subst, inl, inr, arith, ltb-true, le-ltb, lt-ltb, eq-eqb, ne_eqb, eqb-true}
use mathlib.Core.Option.{some}
use borrow.Author.Tests.{both_ways}
use Rattle.std.proofs.lemmas.Bool.{and_parts, and_from, or_cases, or_left, or_right, cases_order, cases_Bool}
use Rattle.outputs.specs.Kinds.{Kind}
use Rattle.machines.specs.Lists.{at, Each}
use Rattle.machines.specs.Keys.{Key, same_key, past, postorder, prefixes}
use Rattle.machines.specs.Pairs.{Pairs, put, put_all, key_prefixes}
use Rattle.machines.specs.Residuals.{alike, any_alike, firsts_after, first_prefixes, class_in, residual}
use Rattle.machines.proofs.Lists.{In, each_map, each_in}
use Rattle.machines.proofs.Classes.{same_pairs_refl, each_put}

-- postorder, byte by byte: the end of a string counts as above every byte
abbrev pub before : Key → Key → Bool
before [] v = false
before (a ∷ u) [] = true
before (a ∷ u) (b ∷ v) = ltb a b || (eqb a b && before u v)

pub before_is : (u v : Key) → postorder u v ≡ before u v
before_is [] [] = refl
before_is [] (b ∷ v) = refl
before_is (a ∷ u) [] = refl
before_is (a ∷ u) (b ∷ v) = go (cases_order a b) (before_is u v)
  where
    go : (a ≡ b) ⊎ ((a < b) ⊎ (b < a)) → postorder u v ≡ before u v → postorder (a ∷ u) (b ∷ v) ≡ before (a ∷ u) (b ∷ v)
    go (inl e) deep =
        subst (λ c. postorder (a ∷ u) (c ∷ v) ≡ before (a ∷ u) (c ∷ v)) e
        (rw (eq-eqb a a refl, le-ltb a a (omega arith), past) deep)
    go (inr (inl h)) deep = rw (ne_eqb a b (omega arith), ne_eqb b a (omega arith), lt-ltb a b h, past)
    go (inr (inr h)) deep = rw (ne_eqb a b (omega arith), ne_eqb b a (omega arith), le-ltb a b (omega arith), past)

pub before_ways : (a b : ℕ) (u v : Key) → before (a ∷ u) (b ∷ v) ≡ true → (a < b) ⊎ ((a ≡ b) × (before u v ≡ true))
before_ways a b u v e =
    elim (or_cases (ltb a b) (eqb a b && before u v) e) [
      | inl l ↦ inl (ltb-true a b l)
      | inr r ↦ let p = and_parts (eqb a b) (before u v) r in inr (eqb-true a b p.0, p.1)
    ]

pub before_less : (a b : ℕ) (u v : Key) → a < b → before (a ∷ u) (b ∷ v) ≡ true
before_less a b u v h = or_left (ltb a b) (eqb a b && before u v) (lt-ltb a b h)

pub before_same : (a b : ℕ) (u v : Key) → a ≡ b → before u v ≡ true → before (a ∷ u) (b ∷ v) ≡ true
before_same a b u v e l = or_right (ltb a b) (eqb a b && before u v) (and_from (eqb a b) (before u v) (eq-eqb a b e) l)

before_irrefl : (u : Key) → before u u ≡ true → ⊥
before_irrefl [] e = both_ways false refl e
before_irrefl (a ∷ u) e = elim (before_ways a a u u e) [ inl h ↦ omega arith | inr p ↦ before_irrefl u p.1 ]

before_trans : (u v w : Key) → before u v ≡ true → before v w ≡ true → before u w ≡ true
before_trans [] v w e f = absurd (both_ways false refl e)
before_trans (a ∷ u) [] w e f = absurd (both_ways false refl f)
before_trans (a ∷ u) (b ∷ v) [] e f = refl
before_trans (a ∷ u) (b ∷ v) (c ∷ w) e f = go (before_ways a b u v e) (before_ways b c v w f) (before_trans u v w)
  where
    go : (a < b) ⊎ ((a ≡ b) × (before u v ≡ true)) → (b < c) ⊎ ((b ≡ c) × (before v w ≡ true)) → (before u v ≡ true → before v w ≡ true → before u w ≡ true) → before (a ∷ u) (c ∷ w) ≡ true
    go (inl h) (inl i) deep = before_less a c u w (omega arith)
    go (inl h) (inr q) deep = before_less a c u w (omega (arith, q.0))
    go (inr p) (inl i) deep = before_less a c u w (omega (arith, p.0))
    go (inr p) (inr q) deep = before_same a c u w (p.0 ∙ q.0) (deep p.1 q.1)

pub before_any : (u v : Key) → before u v ≡ false → same_key u v ≡ false → before v u ≡ true
before_any [] [] e s = absurd (both_ways true s refl)
before_any [] (b ∷ v) e s = refl
before_any (a ∷ u) [] e s = absurd (both_ways true e refl)
before_any (a ∷ u) (b ∷ v) e s = go (cases_order a b) (before_any u v)
  where
    go : (a ≡ b) ⊎ ((a < b) ⊎ (b < a)) → (before u v ≡ false → same_key u v ≡ false → before v u ≡ true) → before (b ∷ v) (a ∷ u) ≡ true
    go (inl h) deep = before_same b a v u (sym h) (deep
        (elim (cases_Bool (before u v)) [ inl t ↦ absurd (both_ways (before (a ∷ u) (b ∷ v)) e (before_same a b u v h t)) | inr f ↦ f ])
        (elim (cases_Bool (same_key u v)) [ inl t ↦ absurd (both_ways (same_key (a ∷ u) (b ∷ v)) s (and_from (eqb a b) (same_key u v) (eq-eqb a b h) t)) | inr f ↦ f ]))
    go (inr (inl h)) deep = absurd (both_ways (before (a ∷ u) (b ∷ v)) e (before_less a b u v h))
    go (inr (inr h)) deep = before_less b a v u h

abbrev pub Sorted : List Key → Type 0
Sorted [] = Unit {0}
Sorted (u ∷ us) = Each (λ v. before u v ≡ true) us × Sorted us

sorted_put : (u : Key) (vs : List Key) → Sorted vs → Sorted (put u vs)
sorted_put u [] h = (tt, tt)
sorted_put u (v ∷ vs) h = go (postorder u v) refl (same_key u v) refl (sorted_put u vs h.1)
  where
    go : (s : Bool) → postorder u v ≡ s → (t : Bool) → same_key u v ≡ t → Sorted (put u vs) → Sorted (elim s [ true ↦ u ∷ v ∷ vs | false ↦ elim t [ true ↦ v ∷ vs | false ↦ v ∷ put u vs ] ])
    go true e t f deep =
        let uv : before u v ≡ true = sym (before_is u v) ∙ e in
        ((uv, each_map (λ w. before v w ≡ true) (λ w. before u w ≡ true) vs (λ w c. before_trans u v w uv c) h.0), h)
    go false e true f deep = h
    go false e false f deep = (each_put (λ w. before v w ≡ true) u vs (before_any u v (sym (before_is u v) ∙ e) f) h.0, deep)

sorted_put_all : (us vs : List Key) → Sorted vs → Sorted (put_all us vs)
sorted_put_all [] vs h = h
sorted_put_all (u ∷ us) vs h = sorted_put u (put_all us vs) (sorted_put_all us vs h)

pub prefixes_sorted : {A : Type 0} (P : Pairs A) → Sorted (key_prefixes P)
prefixes_sorted [] = tt
prefixes_sorted (p ∷ P) = sorted_put_all (prefixes p.0) (key_prefixes P) (prefixes_sorted P)

-- a longer string comes first
pub longer_before : (v w : Key) (a : ℕ) → before (v ++ (a ∷ w)) v ≡ true
longer_before [] w a = refl
longer_before (b ∷ v) w a = before_same b b (v ++ (a ∷ w)) v refl (longer_before v w a)

module _ (k : Kind) (P : Pairs k.Ideal) where
  self : (u v : Key) → u ≡ v → alike k P u v ≡ true
  self u v e = subst (λ w. alike k P u w ≡ true) e (same_pairs_refl k (residual k P u))

  -- a prefix w that comes before the first prefix v of a class has its own class's first prefix in front of v, or among those seen
  below : (us : List Key) (seen : List Key) (i : ℕ) (v w : Key) → Sorted us → In w us → before w v ≡ true → at (firsts_after k P seen us) i ≡ some v
      → (any_alike k P w seen ≡ true) ⊎ (class_in k P (firsts_after k P seen us) w < i)
  below [] seen i v w h j c e = absurd j
  below (u ∷ us) seen i v w h j c e = go (any_alike k P u seen) refl j e (below us seen) (below us (u ∷ seen))
    where
      W : List Key → List Key → ℕ → Type 0
      W fs se n = (any_alike k P w se ≡ true) ⊎ (class_in k P fs w < n)

      -- at a kept prefix u, with the tail's answer
      kept : (n : ℕ) → at (u ∷ firsts_after k P (u ∷ seen) us) n ≡ some v → (u ≡ v → ⊥) → (alike k P w u ≡ true) ⊎ ((m : ℕ) → n ≡ suc m → W (firsts_after k P (u ∷ seen) us) (u ∷ seen) m)
          → (any_alike k P w seen ≡ true) ⊎ (class_in k P (u ∷ firsts_after k P (u ∷ seen) us) w < n)
      kept zero f ne d = let o : u ≡ v = cc in absurd (ne o)
      kept (suc m) f ne d = by (alike k P w u) refl d
        where
          by : (t : Bool) → alike k P w u ≡ t → (alike k P w u ≡ true) ⊎ ((m' : ℕ) → suc m ≡ suc m' → W (firsts_after k P (u ∷ seen) us) (u ∷ seen) m')
              → (any_alike k P w seen ≡ true) ⊎ (elim t [ true ↦ 0 | false ↦ suc (class_in k P (firsts_after k P (u ∷ seen) us) w) ] < suc m)
          by true s x = inr (omega arith)
          by false s (inl t) = absurd (both_ways (alike k P w u) s t)
          by false s (inr f') = elim (f' m refl) [
            | inl a ↦ elim (or_cases (alike k P w u) (any_alike k P w seen) a) [ inl t ↦ absurd (both_ways (alike k P w u) s t) | inr t ↦ inl t ]
            | inr l ↦ inr (omega arith)
          ]

      go : (t : Bool) → any_alike k P u seen ≡ t → (w ≡ u) ⊎ In w us → at (elim t [ true ↦ firsts_after k P seen us | false ↦ u ∷ firsts_after k P (u ∷ seen) us ]) i ≡ some v
          → ((n : ℕ) (x y : Key) → Sorted us → In y us → before y x ≡ true → at (firsts_after k P seen us) n ≡ some x → (any_alike k P y seen ≡ true) ⊎ (class_in k P (firsts_after k P seen us) y < n))
          → ((n : ℕ) (x y : Key) → Sorted us → In y us → before y x ≡ true → at (firsts_after k P (u ∷ seen) us) n ≡ some x → (any_alike k P y (u ∷ seen) ≡ true) ⊎ (class_in k P (firsts_after k P (u ∷ seen) us) y < n))
          → (any_alike k P w seen ≡ true) ⊎ (class_in k P (elim t [ true ↦ firsts_after k P seen us | false ↦ u ∷ firsts_after k P (u ∷ seen) us ]) w < i)
      go true s (inl x) f a b = inl (subst (λ y. any_alike k P y seen ≡ true) (sym x) s)
      go true s (inr x) f a b = a i v w h.1 x c f
      go false s (inl x) f a b = kept i f (λ uv. before_irrefl v (subst (λ y. before y v ≡ true) (x ∙ uv) c)) (inl (self w u x))
      go false s (inr x) f a b =
          kept i f (λ uv. before_irrefl u (before_trans u w u (each_in (λ y. before u y ≡ true) us w h.0 x) (subst (λ y. before w y ≡ true) (sym uv) c)))
          (inr (λ m e. b m v w h.1 x c (subst (λ n. at (u ∷ firsts_after k P (u ∷ seen) us) n ≡ some v) e f)))

  -- a prefix that comes before the first prefix of a class has a class with a lower number
  pub class_below : (i : ℕ) (v w : Key) → at (first_prefixes k P) i ≡ some v → In w (key_prefixes P) → before w v ≡ true → class_in k P (first_prefixes k P) w < i
  class_below i v w e j b =
      elim (below (key_prefixes P) [] i v w (prefixes_sorted P) j b e) [ inl f ↦ absurd (both_ways false refl f) | inr l ↦ l ]

  -- so an arc leads to a lower number
  pub target_below : (i : ℕ) (v : Key) (a : ℕ) → at (first_prefixes k P) i ≡ some v → In (v ++ (a ∷ [])) (key_prefixes P) → class_in k P (first_prefixes k P) (v ++ (a ∷ [])) < i
  target_below i v a e j = class_below i v (v ++ (a ∷ [])) e j (longer_before v [] a)
