-- How many next bytes the prefixes of the newest key have, once a higher key comes. Assumes nothing.
use Rattle.std.proofs.Common.{◌≡◌, ℕ, suc, ◌+◌, ◌-◌, ◌<◌, ◌≤◌, Bool, true, false, eqb, ◌⊎◌, List, [], ◌∷◌, ◌++◌, map, length, sym, refl, ap, ◌∙◌, subst, ap₂, inl, inr, arith, length-append, eq-eqb, eqb-true}
use mathlib.Core.Option.{Option, none, some}
use borrow.Author.Tests.{both_ways}
use Rattle.machines.specs.Keys.{Key, lower, past, common_length, prefixes}
use Rattle.machines.specs.Pairs.{Pairs, output_of, under, first_bytes, in_front, Ascending}
use Rattle.machines.specs.Memory.{newest, no_prefixes_of, next_bytes}
use Rattle.machines.proofs.Order.{lower_ways, lower_less, lower_trans, lower_irrefl, ascending_eq}
use Rattle.machines.proofs.Under.{under_found, ascending_under}
use Rattle.machines.proofs.Walks.{under_under}
use Rattle.machines.proofs.OneMore.{under_end_some, below_newest, filter_same, filter_other, common_same, common_other}

in_front_end : (b a : ℕ) (L : List ℕ) → (in_front b (L ++ (a ∷ [])) ≡ in_front b L) ⊎ (in_front b (L ++ (a ∷ [])) ≡ in_front b L ++ (a ∷ []))
in_front_end b a [] = go (eqb b a) refl
  where
    go : (t : Bool) → eqb b a ≡ t → (◌≡◌ {A = List ℕ} (elim t [ true ↦ a ∷ [] | false ↦ b ∷ a ∷ [] ]) (b ∷ [])) ⊎ (◌≡◌ {A = List ℕ} (elim t [ true ↦ a ∷ [] | false ↦ b ∷ a ∷ [] ]) (b ∷ a ∷ []))
    go true e = inl (ap {B = List ℕ} (λ c. c ∷ []) (sym (eqb-true b a e)))
    go false e = inr refl
in_front_end b a (c ∷ cs) = inr (go (eqb b c))
  where
    go : (t : Bool) → ◌≡◌ {A = List ℕ} (elim t [ true ↦ c ∷ (cs ++ (a ∷ [])) | false ↦ b ∷ c ∷ (cs ++ (a ∷ [])) ]) ((elim t as (λ x. List ℕ) [ true ↦ c ∷ cs | false ↦ b ∷ c ∷ cs ]) ++ (a ∷ []))
    go true = refl
    go false = refl

past_one : (a : ℕ) (w : Key) → past (a ∷ []) (a ∷ w) ≡ some w
past_one a w = ap (λ t. elim t as (λ x. Option Key) [ true ↦ some w | false ↦ none ]) (eq-eqb a a refl)

module _ {A : Type 0} where
  under_all : (Q : Pairs A) → under Q [] ≡ Q
  under_all [] = refl
  under_all (q ∷ Q) = ap {B = Pairs A} (λ l. q ∷ l) (under_all Q)

  -- one byte more in front of every prefix
  next_map : (Q : Pairs A) (a : ℕ) (vs : List Key) → next_bytes Q (map (λ v. a ∷ v) vs) ≡ next_bytes (under Q (a ∷ [])) vs
  next_map Q a [] = refl
  next_map Q a (v ∷ vs) = ap₂ ◌+◌ (ap (λ R. length (first_bytes R)) (sym (under_under Q (a ∷ []) v))) (next_map Q a vs)

  -- the prefixes of a lone key have one next byte each, but for the key
  pub next_single : (key : Key) (x : A) → next_bytes ((key, x) ∷ []) (prefixes key) ≤ length key
  next_single [] x = omega arith
  next_single (a ∷ key) x =
      omega (arith, next_map ((a ∷ key, x) ∷ []) a (prefixes key), ap (λ R. next_bytes R (prefixes key)) alone, next_single key x)
    where
      alone : under ((a ∷ key, x) ∷ []) (a ∷ []) ≡ (key, x) ∷ []
      alone = ap (λ (o : Option Key). elim o as (λ y. Pairs A) [ none ↦ [] | some w ↦ (w, x) ∷ [] ]) (past_one a key)

  bytes_end : (Q : Pairs A) (a : ℕ) (w : Key) (x : A) → (first_bytes (Q ++ ((a ∷ w, x) ∷ [])) ≡ first_bytes Q) ⊎ (first_bytes (Q ++ ((a ∷ w, x) ∷ [])) ≡ first_bytes Q ++ (a ∷ []))
  bytes_end [] a w x = inr refl
  bytes_end (q ∷ Q) a w x = go q.0 (bytes_end Q a w x)
    where
      more : List ℕ
      more = first_bytes (Q ++ ((a ∷ w, x) ∷ []))

      go : (v : Key) → (more ≡ first_bytes Q) ⊎ (more ≡ first_bytes Q ++ (a ∷ []))
          → (◌≡◌ {A = List ℕ} (elim v [ [] ↦ more | b ∷ u ↦ in_front b more ]) (elim v [ [] ↦ first_bytes Q | b ∷ u ↦ in_front b (first_bytes Q) ]))
          ⊎ (◌≡◌ {A = List ℕ} (elim v [ [] ↦ more | b ∷ u ↦ in_front b more ]) ((elim v as (λ y. List ℕ) [ [] ↦ first_bytes Q | b ∷ u ↦ in_front b (first_bytes Q) ]) ++ (a ∷ [])))
      go [] d = d
      go (b ∷ u) (inl e) = inl (ap (in_front b) e)
      go (b ∷ u) (inr e) = elim (in_front_end b a (first_bytes Q)) [ inl f ↦ inl (ap (in_front b) e ∙ f) | inr f ↦ inr (ap (in_front b) e ∙ f) ]

  one_more : (Q : Pairs A) (a : ℕ) (w : Key) (x : A) → length (first_bytes (Q ++ ((a ∷ w, x) ∷ []))) ≤ suc (length (first_bytes Q))
  one_more Q a w x = elim (bytes_end Q a w x) [ inl e ↦ omega (arith, ap length e) | inr e ↦ omega (arith, ap length e, length-append (first_bytes Q) (a ∷ [])) ]

  -- no byte more where the newest key has the same
  pub same_bytes : (Q : Pairs A) (a : ℕ) (v w : Key) (x : A) → newest Q ≡ some (a ∷ v) → first_bytes (Q ++ ((a ∷ w, x) ∷ [])) ≡ first_bytes Q
  same_bytes [] a v w x e = let o : ◌≡◌ {A = ℕ} 0 1 = cc in absurd (omega arith)
  same_bytes (q ∷ []) a v w x e =
      let o : q.0 ≡ a ∷ v = cc in
      ap (λ (u : Key). elim u as (λ y. List ℕ) [ [] ↦ a ∷ [] | b ∷ t ↦ in_front b (a ∷ []) ]) o
      ∙ ap (λ t. elim t as (λ y. List ℕ) [ true ↦ a ∷ [] | false ↦ a ∷ a ∷ [] ]) (eq-eqb a a refl)
      ∙ sym (ap (λ (u : Key). elim u as (λ y. List ℕ) [ [] ↦ [] | b ∷ t ↦ in_front b [] ]) o)
  same_bytes (q ∷ r ∷ Q) a v w x e =
      ap (λ (l : List ℕ). elim q.0 as (λ y. List ℕ) [ [] ↦ l | b ∷ u ↦ in_front b l ]) (same_bytes (r ∷ Q) a v w x e)

  pub newest_cons : (p : Key × A) (L : Pairs A) (u : Key) → newest L ≡ some u → newest (p ∷ L) ≡ some u
  newest_cons p [] u e = let o : ◌≡◌ {A = ℕ} 0 1 = cc in absurd (omega arith)
  newest_cons p (q ∷ L) u e = e

  newest_under : (Q : Pairs A) (a : ℕ) (last : Key) → newest Q ≡ some (a ∷ last) → newest (under Q (a ∷ [])) ≡ some last
  newest_under [] a last e = let o : ◌≡◌ {A = ℕ} 0 1 = cc in absurd (omega arith)
  newest_under (q ∷ []) a last e =
      let o : q.0 ≡ a ∷ last = cc in
      ap (λ (s : Option Key). newest {A = A} (elim s as (λ y. Pairs A) [ none ↦ [] | some w ↦ (w, q.1) ∷ [] ])) (ap (past (a ∷ [])) o ∙ past_one a last)
  newest_under (q ∷ r ∷ Q) a last e = go (past (a ∷ []) q.0) (newest_under (r ∷ Q) a last e)
    where
      go : (s : Option Key) → newest (under (r ∷ Q) (a ∷ [])) ≡ some last → newest {A = A} (elim s as (λ y. Pairs A) [ none ↦ under (r ∷ Q) (a ∷ []) | some w ↦ (w, q.1) ∷ under (r ∷ Q) (a ∷ []) ]) ≡ some last
      go none deep = deep
      go (some w) deep = newest_cons (w, q.1) (under (r ∷ Q) (a ∷ [])) last deep

  -- nothing stands under a byte above the newest key
  none_behind : (Q : Pairs A) (a : ℕ) (last : Key) → Ascending Q → newest Q ≡ some last → ((w : Key) → lower last (a ∷ w) ≡ true) → under Q (a ∷ []) ≡ []
  none_behind Q a last h e above = ascending_eq (under Q (a ∷ [])) [] (ascending_under Q (a ∷ []) h) tt (λ w. go w (output_of Q (a ∷ w)) refl)
    where
      go : (w : Key) (o : Option A) → output_of Q (a ∷ w) ≡ o → output_of (under Q (a ∷ [])) w ≡ none
      go w none f = under_found Q (a ∷ []) w ∙ f
      go w (some z) f = absurd (elim (below_newest Q last (a ∷ w) z h e f) [
        | inl g ↦ lower_irrefl last (subst (λ v. lower last v ≡ true) g (above w))
        | inr g ↦ cycle g (above w)
      ])
        where
          cycle : lower (a ∷ w) last ≡ true → lower last (a ∷ w) ≡ true → ⊥
          cycle f g = lower_irrefl last (lower_trans last (a ∷ w) last g f)

  -- where the newest key ends or parts from the new one, one next byte is new, and then each prefix of the new key has one
  parting : (Q : Pairs A) (a : ℕ) (key : Key) (x : A) → under Q (a ∷ []) ≡ [] → next_bytes (Q ++ ((a ∷ key, x) ∷ [])) (prefixes (a ∷ key)) ≤ length (first_bytes Q) + suc (length key)
  parting Q a key x e =
      let e' : Pairs A = (a ∷ key, x) ∷ [] in
      let alone : under (Q ++ ((a ∷ key, x) ∷ [])) (a ∷ []) ≡ (key, x) ∷ [] = under_end_some Q (a ∷ key, x) (a ∷ []) key (past_one a key) ∙ ap (λ R. R ++ ((key, x) ∷ [])) e in
      omega (arith, ap (λ R. length (first_bytes R)) (under_all (Q ++ e')), one_more Q a key x, next_map (Q ++ e') a (prefixes key), ap (λ R. next_bytes R (prefixes key)) alone, next_single key x)

  pub more_next : (key last : Key) (Q : Pairs A) (x : A) → Ascending Q → newest Q ≡ some last → lower last key ≡ true
      → next_bytes (Q ++ ((key, x) ∷ [])) (prefixes key) + next_bytes Q (no_prefixes_of key (prefixes last)) ≤ next_bytes Q (prefixes last) + (length key - common_length key last)
  more_next [] last Q x h e l = absurd (both_ways false refl l)
  more_next (a ∷ key) [] Q x h e l =
      omega (arith, parting Q a key x (none_behind Q a [] h e (λ w. refl)), ap (λ R. length (first_bytes R)) (under_all Q))
  more_next (a ∷ key) (b ∷ last) Q x h e l = go (lower_ways b a last key l) (more_next key last (under Q (b ∷ [])) x)
    where
      go : (b < a) ⊎ ((b ≡ a) × (lower last key ≡ true))
          → (Ascending (under Q (b ∷ [])) → newest (under Q (b ∷ [])) ≡ some last → lower last key ≡ true
          → next_bytes (under Q (b ∷ []) ++ ((key, x) ∷ [])) (prefixes key) + next_bytes (under Q (b ∷ [])) (no_prefixes_of key (prefixes last)) ≤ next_bytes (under Q (b ∷ [])) (prefixes last) + (length key - common_length key last))
          → next_bytes (Q ++ ((a ∷ key, x) ∷ [])) (prefixes (a ∷ key)) + next_bytes Q (no_prefixes_of (a ∷ key) (map (λ v. b ∷ v) (prefixes last))) ≤ next_bytes Q (prefixes (b ∷ last)) + (suc (length key) - common_length (a ∷ key) (b ∷ last))
      go (inl less) deep =
          omega (
            arith,
            parting Q a key x (none_behind Q a (b ∷ last) h e (λ w. lower_less b a last w less)),
            ap (λ R. length (first_bytes R)) (under_all Q),
            ap (next_bytes Q) (filter_other a b key (prefixes last) (omega arith)),
            common_other a b key last (omega arith),
          )
      go (inr p) deep =
          let q : newest Q ≡ some (b ∷ last) = e in
          let under_more : under (Q ++ ((a ∷ key, x) ∷ [])) (a ∷ []) ≡ under Q (b ∷ []) ++ ((key, x) ∷ [])
          = under_end_some Q (a ∷ key, x) (a ∷ []) key (past_one a key) ∙ ap (λ c. under Q (c ∷ []) ++ ((key, x) ∷ [])) (sym p.0) in
          omega (
            arith,
            ap (λ R. length (first_bytes R)) (under_all (Q ++ ((a ∷ key, x) ∷ []))),
            ap (λ R. length (first_bytes R)) (under_all Q),
            ap length (same_bytes Q a last key x (subst (λ c. newest Q ≡ some (c ∷ last)) p.0 q)),
            next_map (Q ++ ((a ∷ key, x) ∷ [])) a (prefixes key),
            ap (λ R. next_bytes R (prefixes key)) under_more,
            ap (next_bytes Q) (filter_same a b key (prefixes last) p.0),
            next_map Q b (no_prefixes_of key (prefixes last)),
            next_map Q b (prefixes last),
            common_same a b key last (sym p.0),
            deep (ascending_under Q (b ∷ []) h) (newest_under Q b last q) p.1,
          )
