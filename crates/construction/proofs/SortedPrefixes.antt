-- Lists of strings in postorder: equal if they have the same elements; the prefixes of a key beyond a prefix, the longest first. Assumes nothing.
use Rattle.std.proofs.Common.{◌≡◌, ℕ, ◌<◌, true, false, ◌⊎◌, List, [], ◌∷◌, ◌++◌, sym, refl, ap, ◌∙◌, subst, ap₂, inl, inr, append_assoc, append-nil, arith}
use borrow.Author.Tests.{both_ways}
use Rattle.machines.specs.Lists.{Each}
use Rattle.machines.specs.Keys.{Key}
use Rattle.machines.proofs.Lists.{In, each_in, each_map}
use Rattle.machines.proofs.Postorder.{before, Sorted, before_ways, longer_before}
use Rattle.construction.proofs.Lists.{in_left, in_right}

-- no two strings come before each other
before_once : (u v : Key) → before u v ≡ true → before v u ≡ true → ⊥
before_once [] v e f = both_ways false refl e
before_once (a ∷ u) [] e f = both_ways false refl f
before_once (a ∷ u) (b ∷ v) e f = go (before_ways a b u v e) (before_ways b a v u f) (before_once u v)
  where
    go : (a < b) ⊎ ((a ≡ b) × (before u v ≡ true)) → (b < a) ⊎ ((b ≡ a) × (before v u ≡ true)) → (before u v ≡ true → before v u ≡ true → ⊥) → ⊥
    go (inl h) (inl i) deep = omega arith
    go (inl h) (inr q) deep = omega (arith, q.0)
    go (inr p) (inl i) deep = omega (arith, p.0)
    go (inr p) (inr q) deep = deep p.1 q.1

pub sorted_append : (us vs : List Key) → Sorted us → Sorted vs → Each (λ u. Each (λ v. before u v ≡ true) vs) us → Sorted (us ++ vs)
sorted_append [] vs h g e = g
sorted_append (u ∷ us) vs h g e = (append us h.0, sorted_append us vs h.1 g e.1)
  where
    append : (ws : List Key) → Each (λ v. before u v ≡ true) ws → Each (λ v. before u v ≡ true) (ws ++ vs)
    append [] i = e.0
    append (w ∷ ws) i = (i.0, append ws i.1)

pub sorted_left : (us vs : List Key) → Sorted (us ++ vs) → Sorted us
sorted_left [] vs h = tt
sorted_left (u ∷ us) vs h = (left us h.0, sorted_left us vs h.1)
  where
    left : (ws : List Key) → Each (λ v. before u v ≡ true) (ws ++ vs) → Each (λ v. before u v ≡ true) ws
    left [] i = tt
    left (w ∷ ws) i = (i.0, left ws i.1)

-- sorted lists with the same elements are equal
pub sorted_equal : (us vs : List Key) → Sorted us → Sorted vs → ((w : Key) → In w us → In w vs) → ((w : Key) → In w vs → In w us) → us ≡ vs
sorted_equal [] [] h g f b = refl
sorted_equal [] (v ∷ vs) h g f b = absurd (b v (inl refl))
sorted_equal (u ∷ us) [] h g f b = absurd (f u (inl refl))
sorted_equal (u ∷ us) (v ∷ vs) h g f b = ap₂ {C = List Key} (λ x xs. x ∷ xs) heads (sorted_equal us vs h.1 g.1 forth back)
  where
    never : (w x : Key) (ws : List Key) → Each (λ y. before x y ≡ true) ws → In w ws → w ≡ x → ⊥
    never w x ws e i q = before_once x x (subst (λ y. before x y ≡ true) q (each_in (λ y. before x y ≡ true) ws w e i)) (subst (λ y. before x y ≡ true) q (each_in (λ y. before x y ≡ true) ws w e i))

    heads : u ≡ v
    heads = go (f u (inl refl)) (b v (inl refl))
      where
        go : (u ≡ v) ⊎ In u vs → (v ≡ u) ⊎ In v us → u ≡ v
        go (inl e) j = e
        go (inr i) (inl e) = sym e
        go (inr i) (inr j) = absurd (before_once u v (each_in (λ y. before u y ≡ true) us v h.0 j) (each_in (λ y. before v y ≡ true) vs u g.0 i))

    forth : (w : Key) → In w us → In w vs
    forth w i = elim (f w (inr i)) [ inl e ↦ absurd (never w u us h.0 i (e ∙ sym heads)) | inr j ↦ j ]

    back : (w : Key) → In w vs → In w us
    back w i = elim (b w (inr i)) [ inl e ↦ absurd (never w v vs g.0 i (e ∙ heads)) | inr j ↦ j ]

-- the prefixes of u ++ s that are longer than u, the longest first
abbrev pub beyond : Key → Key → List Key
beyond u [] = []
beyond u (a ∷ s) = beyond (u ++ (a ∷ [])) s ++ ((u ++ (a ∷ [])) ∷ [])

pub beyond_append : (u c s : Key) → beyond u (c ++ s) ≡ beyond (u ++ c) s ++ beyond u c
beyond_append u [] s = ap (λ v. beyond v s) (sym (append-nil u)) ∙ sym (append-nil (beyond (u ++ []) s))
beyond_append u (a ∷ c) s =
    ap (λ l. l ++ ((u ++ (a ∷ [])) ∷ [])) (beyond_append (u ++ (a ∷ [])) c s ∙ ap (λ v. beyond v s ++ beyond (u ++ (a ∷ [])) c) (append_assoc u (a ∷ []) c))
    ∙ append_assoc (beyond (u ++ (a ∷ c)) s) (beyond (u ++ (a ∷ [])) c) ((u ++ (a ∷ [])) ∷ [])

-- v is such a prefix
pub record Beyond (u s v : Key) : Type 0 where
  pub byte : ℕ
  pub more : Key
  pub rest : Key
  pub is : v ≡ u ++ (byte ∷ more)
  pub of : s ≡ byte ∷ more ++ rest

pub each_beyond : (u s : Key) → Each (Beyond u s) (beyond u s)
each_beyond u [] = tt
each_beyond u (a ∷ s) = append (beyond (u ++ (a ∷ [])) s) (each_beyond (u ++ (a ∷ [])) s)
  where
    append : (vs : List Key) → Each (Beyond (u ++ (a ∷ [])) s) vs → Each (Beyond u (a ∷ s)) (vs ++ ((u ++ (a ∷ [])) ∷ []))
    append [] h = (record { byte = a; more = []; rest = s; is = refl; of = refl }, tt)
    append (v ∷ vs) h =
        let d = h.0 in
        (record { byte = a; more = d.byte ∷ d.more; rest = d.rest; is = d.is ∙ append_assoc u (a ∷ []) (d.byte ∷ d.more); of = ap {B = Key} (λ l. a ∷ l) d.of }, append vs h.1)

pub in_beyond : (u : Key) (a : ℕ) (t r : Key) → In (u ++ (a ∷ t)) (beyond u (a ∷ t ++ r))
in_beyond u a [] r = in_right (u ++ (a ∷ [])) (beyond (u ++ (a ∷ [])) r) ((u ++ (a ∷ [])) ∷ []) (inl refl)
in_beyond u a (b ∷ t) r =
    in_left (u ++ (a ∷ b ∷ t)) (beyond (u ++ (a ∷ [])) (b ∷ t ++ r)) ((u ++ (a ∷ [])) ∷ [])
    (subst (λ v. In v (beyond (u ++ (a ∷ [])) (b ∷ t ++ r))) (append_assoc u (a ∷ []) (b ∷ t)) (in_beyond (u ++ (a ∷ [])) b t r))

pub beyond_sorted : (u s : Key) → Sorted (beyond u s)
beyond_sorted u [] = tt
beyond_sorted u (a ∷ s) =
    sorted_append (beyond (u ++ (a ∷ [])) s) ((u ++ (a ∷ [])) ∷ []) (beyond_sorted (u ++ (a ∷ [])) s) (tt, tt)
    (each_map _ _ (beyond (u ++ (a ∷ [])) s) (λ v d. (subst (λ x. before x (u ++ (a ∷ [])) ≡ true) (sym d.is) (longer_before (u ++ (a ∷ [])) d.more d.byte), tt)) (each_beyond (u ++ (a ∷ [])) s))
