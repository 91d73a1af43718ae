-- The start is the last state. Assumes nothing.
use Rattle.std.proofs.Common.{◌≡◌, ℕ, zero, suc, ◌+◌, ◌<◌, ◌≤◌, max, Bool, true, false, ◌&&◌, ◌||◌, ◌⊎◌, List, [], ◌∷◌, map, length, sym, refl, ap, ◌∙◌, subst, ap₂, inl, inr, arith, length-append}
use mathlib.Core.Option.{Option, none, some}
use lib.ListN.{length-map}
use borrow.Author.Tests.{both_ways}
use Rattle.std.proofs.lemmas.Bool.{cases_Bool, and_parts}
use Rattle.outputs.specs.Kinds.{Kind, same}
use Rattle.machines.specs.Lists.{at, Each}
use Rattle.machines.specs.Keys.{Key, same_key, past, postorder, prefixes}
use Rattle.machines.specs.Pairs.{Pairs, under, put, put_all, key_prefixes}
use Rattle.machines.specs.Residuals.{greatest, greatest_common, rests, residual, same_pairs, alike, any_alike, firsts_after, first_prefixes, class_in}
use Rattle.machines.specs.Minimal.{state_of, minimal}
use Rattle.machines.proofs.Order.{same_key_true}
use Rattle.machines.proofs.Under.{past_some}
use Rattle.machines.proofs.Classes.{same_pairs_refl, each_put}

-- the empty string stands last, and nowhere else
abbrev Last : List Key → Type 0
Last [] = ⊥
Last (u ∷ []) = u ≡ []
Last (u ∷ v ∷ vs) = (u ≡ [] → ⊥) × Last (v ∷ vs)

last_cons : (u : Key) (vs : List Key) → (u ≡ [] → ⊥) → Last vs → Last (u ∷ vs)
last_cons u [] n l = absurd l
last_cons u (v ∷ vs) n l = (n, l)

cons_not : (a : ℕ) (u : Key) → a ∷ u ≡ [] → ⊥
cons_not a u e = let z : ◌≡◌ {A = ℕ} 0 1 = cc in omega arith

-- what closes before the empty string is all but itself; it closes before nothing
before_empty : (a : ℕ) (u : Key) → postorder (a ∷ u) [] ≡ true
before_empty a u = refl

empty_before : (v : Key) → postorder [] v ≡ false
empty_before [] = refl
empty_before (b ∷ v) = refl

put_empty : (vs : List Key) → Each (λ v. v ≡ [] → ⊥) vs → Last (put [] vs)
put_empty [] h = refl
put_empty ([] ∷ vs) h = absurd (h.0 refl)
put_empty ((b ∷ v) ∷ vs) h = last_cons (b ∷ v) (put [] vs) (cons_not b v) (put_empty vs h.1)

put_empty_last : (vs : List Key) → Last vs → Last (put [] vs)
put_empty_last [] l = absurd l
put_empty_last ([] ∷ []) l = refl
put_empty_last ([] ∷ v ∷ vs) l = absurd (l.0 refl)
put_empty_last ((b ∷ v) ∷ []) l = absurd (cons_not b v l)
put_empty_last ((b ∷ v) ∷ w ∷ vs) l = last_cons (b ∷ v) (put [] (w ∷ vs)) (cons_not b v) (put_empty_last (w ∷ vs) l.1)

put_last : (a : ℕ) (u : Key) (vs : List Key) → Last vs → Last (put (a ∷ u) vs)
put_last a u [] l = absurd l
put_last a u (v ∷ []) l = subst (λ w. Last (put (a ∷ u) (w ∷ []))) (sym l) (cons_not a u, refl)
put_last a u (v ∷ w ∷ vs) l = go (postorder (a ∷ u) v) (same_key (a ∷ u) v) (put_last a u (w ∷ vs) l.1)
  where
    go : (s t : Bool) → Last (put (a ∷ u) (w ∷ vs)) → Last (elim s [ true ↦ (a ∷ u) ∷ v ∷ w ∷ vs | false ↦ elim t [ true ↦ v ∷ w ∷ vs | false ↦ v ∷ put (a ∷ u) (w ∷ vs) ] ])
    go true t deep = (cons_not a u, l)
    go false true deep = l
    go false false deep = last_cons v (put (a ∷ u) (w ∷ vs)) l.0 deep

longer_last : (a : ℕ) (us vs : List Key) → Last vs → Last (put_all (map (λ u. a ∷ u) us) vs)
longer_last a [] vs l = l
longer_last a (u ∷ us) vs l = put_last a u (put_all (map (λ u. a ∷ u) us) vs) (longer_last a us vs l)

longer_full : (a : ℕ) (us : List Key) → Each (λ v. v ≡ [] → ⊥) (put_all (map (λ u. a ∷ u) us) [])
longer_full a [] = tt
longer_full a (u ∷ us) = each_put (λ v. v ≡ [] → ⊥) (a ∷ u) (put_all (map (λ u. a ∷ u) us) []) (cons_not a u) (longer_full a us)

first_last : (key : Key) → Last (put_all (prefixes key) [])
first_last [] = refl
first_last (a ∷ key) = put_empty (put_all (map (λ u. a ∷ u) (prefixes key)) []) (longer_full a (prefixes key))

next_last : (key : Key) (vs : List Key) → Last vs → Last (put_all (prefixes key) vs)
next_last [] vs l = put_empty_last vs l
next_last (a ∷ key) vs l = put_empty_last (put_all (map (λ u. a ∷ u) (prefixes key)) vs) (longer_last a (prefixes key) vs l)

prefixes_last : {A : Type 0} (p : Key × A) (P : Pairs A) → Last (key_prefixes (p ∷ P))
prefixes_last p [] = first_last p.0
prefixes_last p (q ∷ P) = next_last p.0 (key_prefixes (q ∷ P)) (prefixes_last q P)

-- the longest key
abbrev pub longest : {A : Type 0} → Pairs A → ℕ
longest [] = 0
longest (p ∷ P) = max (length p.0) (longest P)

-- under u, keys are shorter by u
pub longest_under : {A : Type 0} (P : Pairs A) (u : Key) → (under P u ≡ []) ⊎ (longest (under P u) + length u ≤ longest P)
longest_under [] u = inl refl
longest_under {A} (p ∷ P) u = go (past u p.0) refl (longest_under P u)
  where
    go : (o : Option Key) → past u p.0 ≡ o → (under P u ≡ []) ⊎ (longest (under P u) + length u ≤ longest P)
        → (◌≡◌ {A = Pairs A} (elim o [ none ↦ under P u | some w ↦ (w, p.1) ∷ under P u ]) []) ⊎ (longest {A = A} (elim o [ none ↦ under P u | some w ↦ (w, p.1) ∷ under P u ]) + length u ≤ longest (p ∷ P))
    go none e (inl n) = inl n
    go none e (inr h) = inr (omega arith)
    go (some w) e (inl n) = inr (omega (arith, ap length (past_some u p.0 w e), length-append u w, ap longest n))
    go (some w) e (inr h) = inr (omega (arith, ap length (past_some u p.0 w e), length-append u w))

module _ (k : Kind) where
  pub longest_rests : (c : k.Ideal) (Q : Pairs k.Ideal) → longest (rests k c Q) ≡ longest Q
  longest_rests c [] = refl
  longest_rests c (q ∷ Q) = ap (max (length q.0)) (longest_rests c Q)

  longest_same : (F G : Pairs k.Ideal) → same_pairs k F G ≡ true → longest F ≡ longest G
  longest_same [] [] e = refl
  longest_same [] (q ∷ G) e = absurd (both_ways false refl e)
  longest_same (p ∷ F) [] e = absurd (both_ways false refl e)
  longest_same (p ∷ F) (q ∷ G) e =
      let h = and_parts (same_key p.0 q.0 && same k p.1 q.1) (same_pairs k F G) e in
      let i = and_parts (same_key p.0 q.0) (same k p.1 q.1) h.0 in
      ap₂ max (ap length (same_key_true p.0 q.0 i.0)) (longest_same F G h.1)

  module _ (p : Key × k.Ideal) (P : Pairs k.Ideal) where
    pub longest_all : (Q : Pairs k.Ideal) → longest (under Q []) ≡ longest Q
    longest_all [] = refl
    longest_all (q ∷ Q) = ap (max (length q.0)) (longest_all Q)

    -- no other prefix is alike to the empty one
    empty_unlike : (a : ℕ) (u : Key) → alike k (p ∷ P) [] (a ∷ u) ≡ false
    empty_unlike a u = elim (cases_Bool (alike k (p ∷ P) [] (a ∷ u))) [
      | inl e ↦ absurd (elim (longest_under (p ∷ P) (a ∷ u)) [
        | inl n ↦ clash (subst (λ Q. same_pairs k (residual k (p ∷ P) []) (rests k (greatest k Q) Q) ≡ true) n e)
        | inr h ↦ omega (
          arith,
          longest_same (residual k (p ∷ P) []) (residual k (p ∷ P) (a ∷ u)) e,
          longest_rests (greatest_common k (p ∷ P) []) (under (p ∷ P) []),
          longest_rests (greatest_common k (p ∷ P) (a ∷ u)) (under (p ∷ P) (a ∷ u)),
          longest_all (p ∷ P),
        )
      ])
      | inr e ↦ e
    ]
      where
        clash : same_pairs k (residual k (p ∷ P) []) [] ≡ true → ⊥
        clash e = both_ways false refl e

    unlike : (u : Key) → (u ≡ [] → ⊥) → alike k (p ∷ P) [] u ≡ false
    unlike [] n = absurd (n refl)
    unlike (a ∷ u) n = empty_unlike a u

    none_seen : (seen : List Key) → Each (λ v. v ≡ [] → ⊥) seen → any_alike k (p ∷ P) [] seen ≡ false
    none_seen [] h = refl
    none_seen (v ∷ vs) h = ap (λ b. b || any_alike k (p ∷ P) [] vs) (unlike v h.0) ∙ none_seen vs h.1

    first_prefixes_last : (seen us : List Key) → Each (λ v. v ≡ [] → ⊥) seen → Last us → Last (firsts_after k (p ∷ P) seen us)
    first_prefixes_last seen [] h l = absurd l
    first_prefixes_last seen (u ∷ []) h l = subst (λ w. Last (firsts_after k (p ∷ P) seen (w ∷ []))) (sym l) (go (any_alike k (p ∷ P) [] seen) (none_seen seen h))
      where
        go : (t : Bool) → t ≡ false → Last (elim t [ true ↦ [] | false ↦ [] ∷ [] ])
        go true e = absurd (both_ways true e refl)
        go false e = refl
    first_prefixes_last seen (u ∷ v ∷ vs) h l = go (any_alike k (p ∷ P) u seen) (first_prefixes_last seen (v ∷ vs) h l.1) (first_prefixes_last (u ∷ seen) (v ∷ vs) (l.0, h) l.1)
      where
        go : (t : Bool) → Last (firsts_after k (p ∷ P) seen (v ∷ vs)) → Last (firsts_after k (p ∷ P) (u ∷ seen) (v ∷ vs))
            → Last (elim t [ true ↦ firsts_after k (p ∷ P) seen (v ∷ vs) | false ↦ u ∷ firsts_after k (p ∷ P) (u ∷ seen) (v ∷ vs) ])
        go true a b = a
        go false a b = last_cons u (firsts_after k (p ∷ P) (u ∷ seen) (v ∷ vs)) l.0 b

    class_last : (us : List Key) → Last us → suc (class_in k (p ∷ P) us []) ≡ length us
    class_last [] l = absurd l
    class_last (u ∷ []) l = go (alike k (p ∷ P) [] u) (subst (λ w. alike k (p ∷ P) [] w ≡ true) (sym l) (same_pairs_refl k (residual k (p ∷ P) [])))
      where
        go : (t : Bool) → t ≡ true → ◌≡◌ {A = ℕ} (suc (elim t [ true ↦ 0 | false ↦ 1 ])) 1
        go true e = refl
        go false e = absurd (both_ways false refl e)
    class_last (u ∷ v ∷ vs) l = go (alike k (p ∷ P) [] u) (unlike u l.0) (class_last (v ∷ vs) l.1)
      where
        go : (t : Bool) → t ≡ false → suc (class_in k (p ∷ P) (v ∷ vs) []) ≡ suc (length vs) → ◌≡◌ {A = ℕ} (suc (elim t [ true ↦ 0 | false ↦ suc (class_in k (p ∷ P) (v ∷ vs) []) ])) (suc (suc (length vs)))
        go true e deep = absurd (both_ways true e refl)
        go false e deep = ap suc deep

    -- a first prefix in front of others is not the empty one
    not_last : (us : List Key) (i : ℕ) (v : Key) → Last us → at us i ≡ some v → suc i < length us → v ≡ [] → ⊥
    not_last [] i v l e h f = l
    not_last (u ∷ []) i v l e h f = omega arith
    not_last (u ∷ w ∷ us) zero v l e h f = let o : u ≡ v = cc in l.0 (o ∙ f)
    not_last (u ∷ w ∷ us) (suc i) v l e h f = not_last (w ∷ us) i v l.1 e (omega arith) f

    prefixes_end : Last (first_prefixes k (p ∷ P))
    prefixes_end = first_prefixes_last [] (key_prefixes (p ∷ P)) tt (prefixes_last p P)

    first_above : (i : ℕ) (v : Key) → at (first_prefixes k (p ∷ P)) i ≡ some v → suc i < length (first_prefixes k (p ∷ P)) → v ≡ [] → ⊥
    first_above i v e h f = not_last (first_prefixes k (p ∷ P)) i v prefixes_end e h f

    start_end : suc (minimal k (p ∷ P)).start ≡ length (minimal k (p ∷ P)).states
    start_end = class_last (first_prefixes k (p ∷ P)) prefixes_end ∙ sym (length-map (first_prefixes k (p ∷ P)) (state_of k (p ∷ P) (first_prefixes k (p ∷ P))))

  pub first_not_empty : (P : Pairs k.Ideal) → 0 < length P → (i : ℕ) (v : Key) → at (first_prefixes k P) i ≡ some v → suc i < length (first_prefixes k P) → v ≡ [] → ⊥
  first_not_empty [] h = absurd (omega arith)
  first_not_empty (p ∷ P) h = first_above p P

  pub start_last : (P : Pairs k.Ideal) → 0 < length P → suc (minimal k P).start ≡ length (minimal k P).states
  start_last [] h = absurd (omega arith)
  start_last (p ∷ P) h = start_end p P
