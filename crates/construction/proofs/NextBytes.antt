-- The next bytes behind a prefix of the newest key, before and after one pair more. Assumes ascending keys.
use Rattle.std.proofs.Common.{◌≡◌, ℕ, Bool, true, false, eqb, ◌⊎◌, List, [], ◌∷◌, ◌++◌, sym, refl, ap, ◌∙◌, subst, inl, inr, arith, ne_eqb}
use mathlib.Core.Option.{Option, none, some}
use borrow.Author.Tests.{both_ways}
use Rattle.machines.specs.Lists.{Each}
use Rattle.machines.specs.Keys.{Key, lower, past}
use Rattle.machines.specs.Pairs.{Pairs, under, first_bytes, in_front, Ascending}
use Rattle.machines.specs.Memory.{newest}
use Rattle.machines.proofs.Lists.{each_map}
use Rattle.machines.proofs.Order.{lower_ways}
use Rattle.machines.proofs.Under.{past_append}
use Rattle.machines.proofs.NextBytes.{newest_cons}
use Rattle.construction.proofs.OneMore.{HeadBelow, up_to_newest}

heads_below : (v s : Key) (b : ℕ) → (v ≡ s) ⊎ (lower v s ≡ true) → HeadBelow b s → HeadBelow b v
heads_below v s b (inl e) h = subst (HeadBelow b) (sym e) h
heads_below [] s b (inr l) h = tt
heads_below (a ∷ v) [] b (inr l) h = absurd (both_ways false refl l)
heads_below (a ∷ v) (c ∷ s) b (inr l) h = elim (lower_ways a c v s l) [ inl x ↦ omega arith | inr y ↦ omega (arith, y.0) ]

module _ {A : Type 0} where
  -- the newest key stands last under each of its prefixes
  pub newest_under : (P : Pairs A) (u t : Key) → newest P ≡ some (u ++ t) → newest (under P u) ≡ some t
  newest_under [] u t e = let o : ◌≡◌ {A = ℕ} 0 1 = cc in absurd (omega arith)
  newest_under (p ∷ []) u t e =
      let o : p.0 ≡ u ++ t = cc in
      ap {B = Option Key} (λ s. newest (elim s as (λ i. Pairs A) [ none ↦ [] | some w ↦ (w, p.1) ∷ [] ])) (ap (past u) o ∙ past_append u t)
  newest_under (p ∷ q ∷ P) u t e = go (past u p.0) (newest_under (q ∷ P) u t e)
    where
      go : (o : Option Key) → newest (under (q ∷ P) u) ≡ some t → newest (elim o as (λ i. Pairs A) [ none ↦ under (q ∷ P) u | some w ↦ (w, p.1) ∷ under (q ∷ P) u ]) ≡ some t
      go none deep = deep
      go (some w) deep = newest_cons (w, p.1) (under (q ∷ P) u) t deep

  -- the first byte of the newest key stands last
  pub last_first : (Q : Pairs A) (a : ℕ) (s : Key) → newest Q ≡ some (a ∷ s) → (bs : List ℕ) × (first_bytes Q ≡ bs ++ (a ∷ []))
  last_first [] a s e = let o : ◌≡◌ {A = ℕ} 0 1 = cc in absurd (omega arith)
  last_first (q ∷ []) a s e =
      let o : q.0 ≡ a ∷ s = cc in
      ([], ap {B = List ℕ} (λ v. elim v [ [] ↦ [] | c ∷ w ↦ in_front c [] ]) o)
  last_first (q ∷ r ∷ Q) a s e = go q.0 (last_first (r ∷ Q) a s e)
    where
      go : (v : Key) → (bs : List ℕ) × (first_bytes (r ∷ Q) ≡ bs ++ (a ∷ [])) → (bs : List ℕ) × (elim v as (λ i. List ℕ) [ [] ↦ first_bytes (r ∷ Q) | c ∷ w ↦ in_front c (first_bytes (r ∷ Q)) ] ≡ bs ++ (a ∷ []))
      go [] d = d
      go (c ∷ w) d = by d.0 d.1
        where
          by : (bs : List ℕ) → first_bytes (r ∷ Q) ≡ bs ++ (a ∷ []) → (cs : List ℕ) × (in_front c (first_bytes (r ∷ Q)) ≡ cs ++ (a ∷ []))
          by [] f = at (eqb c a) refl
            where
              at : (t : Bool) → eqb c a ≡ t → (cs : List ℕ) × (in_front c (first_bytes (r ∷ Q)) ≡ cs ++ (a ∷ []))
              at true g = ([], ap (in_front c) f ∙ ap {B = List ℕ} (λ t. elim t [ true ↦ a ∷ [] | false ↦ c ∷ a ∷ [] ]) g)
              at false g = (c ∷ [], ap (in_front c) f ∙ ap {B = List ℕ} (λ t. elim t [ true ↦ a ∷ [] | false ↦ c ∷ a ∷ [] ]) g)
          by (b ∷ bs) f = at (eqb c b) refl
            where
              at : (t : Bool) → eqb c b ≡ t → (cs : List ℕ) × (in_front c (first_bytes (r ∷ Q)) ≡ cs ++ (a ∷ []))
              at true g = (b ∷ bs, ap (in_front c) f ∙ ap {B = List ℕ} (λ t. elim t [ true ↦ b ∷ bs ++ (a ∷ []) | false ↦ c ∷ b ∷ bs ++ (a ∷ []) ]) g)
              at false g = (c ∷ b ∷ bs, ap (in_front c) f ∙ ap {B = List ℕ} (λ t. elim t [ true ↦ b ∷ bs ++ (a ∷ []) | false ↦ c ∷ b ∷ bs ++ (a ∷ []) ]) g)

  -- a key that begins above all others adds its first byte at the end
  pub first_new : (Q : Pairs A) (b : ℕ) (r : Key) (x : A) → Each (λ p. HeadBelow b p.0) Q → first_bytes (Q ++ ((b ∷ r, x) ∷ [])) ≡ first_bytes Q ++ (b ∷ [])
  first_new [] b r x h = refl
  first_new (q ∷ Q) b r x h = go q.0 h.0 (first_new Q b r x h.1)
    where
      go : (v : Key) → HeadBelow b v → first_bytes (Q ++ ((b ∷ r, x) ∷ [])) ≡ first_bytes Q ++ (b ∷ [])
          → ◌≡◌ {A = List ℕ} (elim v [ [] ↦ first_bytes (Q ++ ((b ∷ r, x) ∷ [])) | c ∷ w ↦ in_front c (first_bytes (Q ++ ((b ∷ r, x) ∷ []))) ]) (elim v [ [] ↦ first_bytes Q | c ∷ w ↦ in_front c (first_bytes Q) ] ++ (b ∷ []))
      go [] g deep = deep
      go (c ∷ w) g deep = ap (in_front c) deep ∙ by (first_bytes Q)
        where
          by : (bs : List ℕ) → in_front c (bs ++ (b ∷ [])) ≡ in_front c bs ++ (b ∷ [])
          by [] = ap {B = List ℕ} (λ t. elim t [ true ↦ b ∷ [] | false ↦ c ∷ b ∷ [] ]) (ne_eqb c b (omega arith))
          by (d ∷ ds) = at (eqb c d)
            where
              at : (t : Bool) → ◌≡◌ {A = List ℕ} (elim t [ true ↦ d ∷ ds ++ (b ∷ []) | false ↦ c ∷ d ∷ ds ++ (b ∷ []) ]) (elim t [ true ↦ d ∷ ds | false ↦ c ∷ d ∷ ds ] ++ (b ∷ []))
              at true = refl
              at false = refl

  -- keys up to one that begins below b begin below b
  pub all_below : (Q : Pairs A) (s : Key) (b : ℕ) → Ascending Q → newest Q ≡ some s → HeadBelow b s → Each (λ p. HeadBelow b p.0) Q
  all_below Q s b h n g = each_map _ _ Q (λ p f. heads_below p.0 s b f g) (up_to_newest Q s h n)
