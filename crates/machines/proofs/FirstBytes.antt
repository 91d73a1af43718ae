-- The first bytes of ascending keys are different, and each has a key. Assumes nothing.
use Rattle.std.proofs.Common.{◌≡◌, ℕ, ◌<◌, ◌≤◌, Bool, true, false, eqb, List, [], ◌∷◌, refl, subst, inl, inr, arith}
use mathlib.Core.Option.{Option, some}
use borrow.Author.Tests.{eqb-false}
use Rattle.machines.specs.Keys.{Key, lower, same_key}
use Rattle.machines.specs.Pairs.{Pairs, output_of, first_bytes, in_front, Above, Ascending}
use Rattle.machines.proofs.Order.{lower_ways, head_found}
use Rattle.machines.proofs.Counting.{Lacks, Different}

abbrev pub Over : ℕ → List ℕ → Type 0
Over a [] = Unit {0}
Over a (b ∷ bs) = (a < b) × Over a bs

abbrev pub RisingBytes : List ℕ → Type 0
RisingBytes [] = Unit {0}
RisingBytes (b ∷ bs) = Over b bs × RisingBytes bs

abbrev pub From : ℕ → List ℕ → Type 0
From a [] = Unit {0}
From a (b ∷ bs) = (a ≤ b) × From a bs

pub over_down : (a b : ℕ) (bs : List ℕ) → a ≤ b → Over b bs → Over a bs
over_down a b [] h o = tt
over_down a b (c ∷ cs) h o = (omega (arith, o.0), over_down a b cs h o.1)

from_front : (a b : ℕ) (bs : List ℕ) → a ≤ b → From a bs → From a (in_front b bs)
from_front a b [] h f = (h, tt)
from_front a b (c ∷ cs) h f = go (eqb b c)
  where
    go : (t : Bool) → From a (elim t [ true ↦ c ∷ cs | false ↦ b ∷ c ∷ cs ])
    go true = f
    go false = (h, f)

rising_front : (a : ℕ) (bs : List ℕ) → From a bs → RisingBytes bs → RisingBytes (in_front a bs)
rising_front a [] f r = (tt, tt)
rising_front a (b ∷ bs) f r = go (eqb a b) refl
  where
    go : (t : Bool) → eqb a b ≡ t → RisingBytes (elim t [ true ↦ b ∷ bs | false ↦ a ∷ b ∷ bs ])
    go true e = r
    go false e = let h : a < b = omega (arith, f.0, eqb-false a b e) in ((h, over_down a b bs (omega arith) r.0), r)

pub lacks_over : (a : ℕ) (bs : List ℕ) → Over a bs → Lacks a bs
lacks_over a [] o = tt
lacks_over a (b ∷ bs) o = (λ e. omega (arith, o.0), lacks_over a bs o.1)

rising_different : (bs : List ℕ) → RisingBytes bs → Different bs
rising_different [] r = tt
rising_different (b ∷ bs) r = (lacks_over b bs r.0, rising_different bs r.1)

module _ {A : Type 0} where
  pub from_above : (a : ℕ) (w : Key) (Q : Pairs A) → Above (a ∷ w) Q → From a (first_bytes Q)
  from_above a w [] h = tt
  from_above a w (q ∷ Q) h = go q.0 h.0 (from_above a w Q h.1)
    where
      go : (v : Key) → lower (a ∷ w) v ≡ true → From a (first_bytes Q) → From a (elim v [ [] ↦ first_bytes Q | b ∷ u ↦ in_front b (first_bytes Q) ])
      go [] l f = f
      go (b ∷ u) l f = from_front a b (first_bytes Q) (elim (lower_ways a b w u l) [ inl h ↦ omega arith | inr p ↦ omega (arith, p.0) ]) f

  pub rising_bytes : (Q : Pairs A) → Ascending Q → RisingBytes (first_bytes Q)
  rising_bytes [] h = tt
  rising_bytes (q ∷ Q) h = go q.0 h.0 (rising_bytes Q h.1)
    where
      go : (v : Key) → Above v Q → RisingBytes (first_bytes Q) → RisingBytes (elim v [ [] ↦ first_bytes Q | b ∷ u ↦ in_front b (first_bytes Q) ])
      go [] l r = r
      go (b ∷ u) l r = rising_front b (first_bytes Q) (from_above b u Q l) r

  pub different_bytes : (Q : Pairs A) → Ascending Q → Different (first_bytes Q)
  different_bytes Q h = rising_different (first_bytes Q) (rising_bytes Q h)

  -- some key begins with a
  abbrev pub Heads : Pairs A → ℕ → Type 0
  Heads Q a = (w : Key) × (z : A) × (output_of Q (a ∷ w) ≡ some z)

  abbrev pub AllHead : Pairs A → List ℕ → Type 0
  AllHead Q [] = Unit {0}
  AllHead Q (a ∷ as') = Heads Q a × AllHead Q as'

  -- an answer stays one with a pair more in front
  pub still_found : (p : Key × A) (Q : Pairs A) (w : Key) (z : A) → output_of Q w ≡ some z → (y : A) × (output_of (p ∷ Q) w ≡ some y)
  still_found p Q w z e = go (same_key p.0 w)
    where
      go : (t : Bool) → (y : A) × (◌≡◌ {A = Option A} (elim t [ true ↦ some p.1 | false ↦ output_of Q w ]) (some y))
      go true = (p.1, refl)
      go false = (z, e)

  heads_more : (p : Key × A) (Q : Pairs A) (as' : List ℕ) → AllHead Q as' → AllHead (p ∷ Q) as'
  heads_more p Q [] h = tt
  heads_more p Q (a ∷ as') h = let f = still_found p Q (a ∷ h.0.0) h.0.1 h.0.2 in ((h.0.0, f.0, f.1), heads_more p Q as' h.1)

  heads_front : (Q : Pairs A) (a : ℕ) (bs : List ℕ) → Heads Q a → AllHead Q bs → AllHead Q (in_front a bs)
  heads_front Q a [] h all = (h, tt)
  heads_front Q a (b ∷ bs) h all = go (eqb a b)
    where
      go : (t : Bool) → AllHead Q (elim t [ true ↦ b ∷ bs | false ↦ a ∷ b ∷ bs ])
      go true = all
      go false = (h, all)

  pub all_head : (Q : Pairs A) → AllHead Q (first_bytes Q)
  all_head [] = tt
  all_head (q ∷ Q) = go q.0 refl (heads_more q Q (first_bytes Q) (all_head Q))
    where
      go : (v : Key) → q.0 ≡ v → AllHead (q ∷ Q) (first_bytes Q) → AllHead (q ∷ Q) (elim v [ [] ↦ first_bytes Q | b ∷ u ↦ in_front b (first_bytes Q) ])
      go [] e all = all
      go (b ∷ u) e all = heads_front (q ∷ Q) b (first_bytes Q) (u, q.1, subst (λ v. output_of (q ∷ Q) v ≡ some q.1) e (head_found q Q)) all
