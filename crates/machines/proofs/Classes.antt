-- The prefixes of keys and the first of each class: each listed one is a prefix of a key, and no two first ones are alike. Assumes nothing.
use Rattle.std.proofs.Common.{◌≡◌, ℕ, Bool, true, false, ◌&&◌, List, [], ◌∷◌, ◌++◌, map, sym, refl, ap, subst}
use mathlib.Core.Option.{some}
use Rattle.std.proofs.lemmas.Bool.{or_parts, and_from}
use Rattle.outputs.specs.Kinds.{Kind, same}
use Rattle.outputs.specs.Bits.{same_bits}
use Rattle.machines.specs.Lists.{Each}
use Rattle.machines.specs.Keys.{Key, same_key, postorder, prefixes}
use Rattle.machines.specs.Pairs.{Pairs, output_of, KeyPrefix, put, put_all, key_prefixes}
use Rattle.machines.specs.Residuals.{residual, same_pairs, alike, any_alike, firsts_after}
use Rattle.machines.proofs.Lists.{each_map}
use Rattle.machines.proofs.Order.{head_found, same_key_refl}
use Rattle.machines.proofs.FirstBytes.{still_found}

-- v is u followed by something
abbrev pub GoesOn : Key → Key → Type 0
GoesOn v u = (w : Key) × (u ++ w ≡ v)

each_longer : (a : ℕ) (v : Key) (us : List Key) → Each (GoesOn v) us → Each (GoesOn (a ∷ v)) (map (λ u. a ∷ u) us)
each_longer a v [] h = tt
each_longer a v (u ∷ us) h = ((h.0.0, ap {B = Key} (λ l. a ∷ l) h.0.1), each_longer a v us h.1)

pub each_prefix : (v : Key) → Each (GoesOn v) (prefixes v)
each_prefix [] = (([], refl), tt)
each_prefix (a ∷ v) = ((a ∷ v, refl), each_longer a v (prefixes v) (each_prefix v))

pub each_put : (Q : Key → Type 0) (u : Key) (vs : List Key) → Q u → Each Q vs → Each Q (put u vs)
each_put Q u [] q h = (q, tt)
each_put Q u (v ∷ vs) q h = go (postorder u v) (same_key u v) (each_put Q u vs q h.1)
  where
    go : (s t : Bool) → Each Q (put u vs) → Each Q (elim s [ true ↦ u ∷ v ∷ vs | false ↦ elim t [ true ↦ v ∷ vs | false ↦ v ∷ put u vs ] ])
    go true t deep = (q, h)
    go false true deep = h
    go false false deep = (h.0, deep)

each_put_all : (Q : Key → Type 0) (us vs : List Key) → Each Q us → Each Q vs → Each Q (put_all us vs)
each_put_all Q [] vs hu hv = hv
each_put_all Q (u ∷ us) vs hu hv = each_put Q u (put_all us vs) hu.0 (each_put_all Q us vs hu.1 hv)

module _ {A : Type 0} where
  pub each_key_prefix : (P : Pairs A) → Each (KeyPrefix P) (key_prefixes P)
  each_key_prefix [] = tt
  each_key_prefix (p ∷ P) =
      each_put_all (KeyPrefix (p ∷ P)) (prefixes p.0) (key_prefixes P)
      (each_map (GoesOn p.0) (KeyPrefix (p ∷ P)) (prefixes p.0) (λ u g. (g.0, p.1, subst (λ v. output_of (p ∷ P) v ≡ some p.1) (sym g.1) (head_found p P))) (each_prefix p.0))
      (each_map (KeyPrefix P) (KeyPrefix (p ∷ P)) (key_prefixes P) (λ u s. let f = still_found p P (u ++ s.0) s.1 s.2 in (s.0, f.0, f.1)) (each_key_prefix P))

pub same_bits_refl : (bs : List Bool) → same_bits bs bs ≡ true
same_bits_refl [] = refl
same_bits_refl (true ∷ bs) = same_bits_refl bs
same_bits_refl (false ∷ bs) = same_bits_refl bs

module _ (k : Kind) where
  pub same_pairs_refl : (F : Pairs k.Ideal) → same_pairs k F F ≡ true
  same_pairs_refl [] = refl
  same_pairs_refl (p ∷ F) =
      and_from (same_key p.0 p.0 && same k p.1 p.1) (same_pairs k F F)
      (and_from (same_key p.0 p.0) (same k p.1 p.1) (same_key_refl p.0) (same_bits_refl (k.code p.1))) (same_pairs_refl F)

  pub alike_since : (P : Pairs k.Ideal) (u v : Key) → residual k P u ≡ residual k P v → alike k P u v ≡ true
  alike_since P u v e = subst (λ F. same_pairs k (residual k P u) F ≡ true) e (same_pairs_refl (residual k P u))

  module _ (P : Pairs k.Ideal) where
    pub each_first : (Q : Key → Type 0) (seen us : List Key) → Each Q us → Each Q (firsts_after k P seen us)
    each_first Q seen [] h = tt
    each_first Q seen (u ∷ us) h = go (any_alike k P u seen) (each_first Q seen us h.1) (each_first Q (u ∷ seen) us h.1)
      where
        go : (t : Bool) → Each Q (firsts_after k P seen us) → Each Q (firsts_after k P (u ∷ seen) us)
            → Each Q (elim t [ true ↦ firsts_after k P seen us | false ↦ u ∷ firsts_after k P (u ∷ seen) us ])
        go true a b = a
        go false a b = (h.0, b)

    each_new : (seen us : List Key) → Each (λ u. any_alike k P u seen ≡ false) (firsts_after k P seen us)
    each_new seen [] = tt
    each_new seen (u ∷ us) = go (any_alike k P u seen) refl (each_new seen us) (each_new (u ∷ seen) us)
      where
        go : (t : Bool) → any_alike k P u seen ≡ t → Each (λ v. any_alike k P v seen ≡ false) (firsts_after k P seen us) → Each (λ v. any_alike k P v (u ∷ seen) ≡ false) (firsts_after k P (u ∷ seen) us)
            → Each (λ v. any_alike k P v seen ≡ false) (elim t [ true ↦ firsts_after k P seen us | false ↦ u ∷ firsts_after k P (u ∷ seen) us ])
        go true e a b = a
        go false e a b = (e, each_map _ _ (firsts_after k P (u ∷ seen) us) (λ v f. (or_parts (alike k P v u) (any_alike k P v seen) f).1) b)

    -- no later one is alike to an earlier one
    abbrev pub Apart : List Key → Type 0
    Apart [] = Unit {0}
    Apart (u ∷ us) = Each (λ v. alike k P v u ≡ false) us × Apart us

    pub first_prefixes_apart : (seen us : List Key) → Apart (firsts_after k P seen us)
    first_prefixes_apart seen [] = tt
    first_prefixes_apart seen (u ∷ us) = go (any_alike k P u seen) (first_prefixes_apart seen us) (first_prefixes_apart (u ∷ seen) us)
      where
        go : (t : Bool) → Apart (firsts_after k P seen us) → Apart (firsts_after k P (u ∷ seen) us)
            → Apart (elim t [ true ↦ firsts_after k P seen us | false ↦ u ∷ firsts_after k P (u ∷ seen) us ])
        go true a b = a
        go false a b = (each_map _ _ (firsts_after k P (u ∷ seen) us) (λ v f. (or_parts (alike k P v u) (any_alike k P v seen) f).0) (each_new (u ∷ seen) us), b)
