-- The keys of a list, counted or weighed by their first bytes. Assumes nothing.
use Rattle.std.proofs.Common.{◌≡◌, ℕ, ◌+◌, Bool, true, false, eqb, List, [], ◌∷◌, ◌++◌, length, sym, refl, ap, ◌∙◌, subst, ap₂, append_assoc, arith, eq-eqb, ne_eqb, eqb-true}
use mathlib.Core.Option.{Option, none, some}
use borrow.Author.Tests.{eqb-false}
use Rattle.machines.specs.Keys.{Key, past, same_key}
use Rattle.machines.specs.Machines.{end_flag}
use Rattle.machines.specs.Pairs.{Pairs, output_of, under, first_bytes, in_front, Above, Ascending}
use Rattle.machines.proofs.Order.{above_none, ascending_eq, head_found, tail_found}
use Rattle.machines.proofs.Under.{under_found, ascending_under}
use Rattle.machines.proofs.Counting.{Lacks}
use Rattle.machines.proofs.FirstBytes.{From, from_above, RisingBytes, rising_bytes, lacks_over, over_down}
use Rattle.machines.proofs.Membership.{lacks_none}

-- the weight of a key: 1 for the empty one, and g b v for b ∷ v
abbrev pub weight : (ℕ → Key → ℕ) → Key → ℕ
weight g [] = 1
weight g (b ∷ v) = g b v

module _ {A : Type 0} (g : ℕ → Key → ℕ) where
  -- the weights of the keys behind byte b
  abbrev pub heavy : ℕ → Pairs A → ℕ
  heavy b [] = 0
  heavy b (p ∷ L) = g b p.0 + heavy b L

  -- the weights of the keys behind some bytes
  abbrev pub parts : Pairs A → List ℕ → ℕ
  parts Q [] = 0
  parts Q (a ∷ as') = heavy a (under Q (a ∷ [])) + parts Q as'

  abbrev pub total : Pairs A → ℕ
  total [] = 0
  total (q ∷ Q) = weight g q.0 + total Q

  -- a pair with another first byte does not count
  under_other : (q : Key × A) (Q : Pairs A) (b : ℕ) (w : Key) (a : ℕ) → q.0 ≡ b ∷ w → (b ≡ a → ⊥) → under (q ∷ Q) (a ∷ []) ≡ under Q (a ∷ [])
  under_other q Q b w a e n =
      ap (λ (o : Option Key). elim o as (λ x. Pairs A) [ none ↦ under Q (a ∷ []) | some v ↦ (v, q.1) ∷ under Q (a ∷ []) ])
      (ap (past (a ∷ [])) e ∙ miss)
    where
      miss : past (a ∷ []) (b ∷ w) ≡ none
      miss = rw (ne_eqb a b (λ s. n (sym s)), past)

  under_same : (q : Key × A) (Q : Pairs A) (b : ℕ) (w : Key) → q.0 ≡ b ∷ w → heavy b (under (q ∷ Q) (b ∷ [])) ≡ g b w + heavy b (under Q (b ∷ []))
  under_same q Q b w e =
      ap (λ (o : Option Key). heavy b (elim o as (λ x. Pairs A) [ none ↦ under Q (b ∷ []) | some v ↦ (v, q.1) ∷ under Q (b ∷ []) ]))
      (ap (past (b ∷ [])) e ∙ hit)
    where
      hit : past (b ∷ []) (b ∷ w) ≡ some w
      hit = rw (eq-eqb b b refl, past)

  sum_other : (q : Key × A) (Q : Pairs A) (b : ℕ) (w : Key) → q.0 ≡ b ∷ w → (as' : List ℕ) → Lacks b as' → parts (q ∷ Q) as' ≡ parts Q as'
  sum_other q Q b w e [] l = refl
  sum_other q Q b w e (a ∷ as') l = ap₂ ◌+◌ (ap (heavy a) (under_other q Q b w a e l.0)) (sum_other q Q b w e as' l.1)

  sum_empty : (q : Key × A) (Q : Pairs A) → q.0 ≡ [] → (as' : List ℕ) → parts (q ∷ Q) as' ≡ parts Q as'
  sum_empty q Q e [] = refl
  sum_empty q Q e (a ∷ as') =
      ap₂ ◌+◌ (ap (λ (o : Option Key). heavy a (elim o as (λ x. Pairs A) [ none ↦ under Q (a ∷ []) | some v ↦ (v, q.1) ∷ under Q (a ∷ []) ])) (ap (past (a ∷ [])) e)) (sum_empty q Q e as')

  none_under : (Q : Pairs A) (b : ℕ) → Ascending Q → Lacks b (first_bytes Q) → under Q (b ∷ []) ≡ []
  none_under Q b h l = ascending_eq (under Q (b ∷ [])) [] (ascending_under Q (b ∷ []) h) tt (λ w. under_found Q (b ∷ []) w ∙ lacks_none Q b w l)

  sum_front : (q : Key × A) (Q : Pairs A) (b : ℕ) (w : Key) → q.0 ≡ b ∷ w → Ascending Q → (bs : List ℕ) → first_bytes Q ≡ bs → From b bs → RisingBytes bs → parts (q ∷ Q) (in_front b bs) ≡ g b w + parts Q bs
  sum_front q Q b w e h [] f from rise = omega (arith, under_same q Q b w e, ap (heavy b) (none_under Q b h (subst (Lacks b) (sym f) tt)))
  sum_front q Q b w e h (c ∷ cs) f from rise = go (eqb b c) refl
    where
      go : (t : Bool) → eqb b c ≡ t → parts (q ∷ Q) (elim t [ true ↦ c ∷ cs | false ↦ b ∷ c ∷ cs ]) ≡ g b w + parts Q (c ∷ cs)
      go true s =
          let bc : b ≡ c = eqb-true b c s in
          omega (
            arith,
            subst (λ x. heavy x (under (q ∷ Q) (x ∷ [])) ≡ g x w + heavy x (under Q (x ∷ []))) bc (under_same q Q b w e),
            ap (λ x. g x w) bc,
            sum_other q Q b w e cs (lacks_over b cs (over_down b c cs from.0 rise.0)),
          )
      go false s =
          let n = eqb-false b c s in
          let l : Lacks b (c ∷ cs) = (n, lacks_over b cs (over_down b c cs from.0 rise.0)) in
          omega (arith, under_same q Q b w e, ap (heavy b) (none_under Q b h (subst (Lacks b) (sym f) l)), sum_other q Q b w e (c ∷ cs) l)

  -- the whole weight is that of the empty key and of the keys behind each first byte
  pub weighed : (Q : Pairs A) → Ascending Q → total Q ≡ end_flag (output_of Q []) + parts Q (first_bytes Q)
  weighed [] h = refl
  weighed (q ∷ Q) h = go q.0 refl (weighed Q h.1)
    where
      go : (v : Key) → q.0 ≡ v → total Q ≡ end_flag (output_of Q []) + parts Q (first_bytes Q)
          → weight g v + total Q ≡ end_flag (output_of (q ∷ Q) []) + parts (q ∷ Q) (elim v [ [] ↦ first_bytes Q | b ∷ u ↦ in_front b (first_bytes Q) ])
      go [] e deep =
          omega (
            arith,
            ap end_flag (subst (λ v. output_of (q ∷ Q) v ≡ some q.1) e (head_found q Q)),
            ap end_flag (above_none [] Q (subst (λ v. Above v Q) e h.0)),
            sum_empty q Q e (first_bytes Q),
          )
      go (b ∷ u) e deep =
          omega (arith, ap end_flag (tail_at b u e), sum_front q Q b u e h.1 (first_bytes Q) refl (from_above b u Q (subst (λ v. Above v Q) e h.0)) (rising_bytes Q h.1))
        where
          tail_at : (b : ℕ) (u : Key) → q.0 ≡ b ∷ u → output_of (q ∷ Q) [] ≡ output_of Q []
          tail_at b u e = tail_found q Q [] (ap (λ v. same_key v []) e)

module _ {A : Type 0} where
  -- under one byte more
  pub under_under : (P : Pairs A) (u : Key) (a : ℕ) → Ascending P → under (under P u) (a ∷ []) ≡ under P (u ++ (a ∷ []))
  under_under P u a h =
      ascending_eq _ _ (ascending_under (under P u) (a ∷ []) (ascending_under P u h)) (ascending_under P (u ++ (a ∷ [])) h)
      (λ w. under_found (under P u) (a ∷ []) w ∙ under_found P u (a ∷ w) ∙ ap (output_of P) (sym (append_assoc u (a ∷ []) w)) ∙ sym (under_found P (u ++ (a ∷ [])) w))

  total_length : (Q : Pairs A) → total (λ b v. 1) Q ≡ length Q
  total_length [] = refl
  total_length (q ∷ Q) = omega (arith, one_each q.0, total_length Q)
    where
      one_each : (v : Key) → weight (λ b u. 1) v ≡ 1
      one_each [] = refl
      one_each (b ∷ v) = refl

  heavy_length : (b : ℕ) (Q : Pairs A) → heavy (λ c v. 1) b Q ≡ length Q
  heavy_length b [] = refl
  heavy_length b (q ∷ Q) = omega (arith, heavy_length b Q)

  abbrev pub sum_under : Pairs A → List ℕ → ℕ
  sum_under Q [] = 0
  sum_under Q (a ∷ as') = length (under Q (a ∷ [])) + sum_under Q as'

  parts_lengths : (Q : Pairs A) (as' : List ℕ) → parts (λ b v. 1) Q as' ≡ sum_under Q as'
  parts_lengths Q [] = refl
  parts_lengths Q (a ∷ as') = omega (arith, heavy_length a (under Q (a ∷ [])), parts_lengths Q as')

  -- as many keys as the empty one and those behind each first byte
  pub counts : (Q : Pairs A) → Ascending Q → length Q ≡ end_flag (output_of Q []) + sum_under Q (first_bytes Q)
  counts Q h = omega (arith, total_length Q, weighed (λ b v. 1) Q h, parts_lengths Q (first_bytes Q))
