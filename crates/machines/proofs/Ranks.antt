-- Rank on the minimal machine is the number of lower keys. Assumes ascending keys and storable outputs.
use Rattle.std.proofs.Common.{◌≡◌, ℕ, ◌+◌, ◌<◌, Bool, true, false, ◌&&◌, ◌||◌, eqb, ltb, ◌⊎◌, List, [], ◌∷◌, ◌++◌, length, sym, refl, ap, ◌∙◌, subst, ap₂, inl, inr, append-nil, arith, le-ltb, lt-ltb, eq-eqb, ne_eqb}
use mathlib.Core.Option.{Option, none, some}
use Rattle.outputs.specs.Bits.{bit}
use Rattle.outputs.specs.Kinds.{Kind, Laws}
use Rattle.machines.specs.Lists.{at}
use Rattle.machines.specs.Keys.{Key, lower}
use Rattle.machines.specs.Machines.{Arc, State, arc_at, end_at, end_flag}
use Rattle.machines.specs.Pairs.{Pairs, output_of, under, KeyPrefix, first_bytes, Ascending, AllStorable}
use Rattle.machines.specs.Residuals.{greatest_common, rests, residual, first_prefixes, class_number}
use Rattle.machines.specs.Minimal.{arcs_of, rest_some, end_of, state_of, minimal, key_counts}
use Rattle.machines.specs.Asked.{keys_below, arcs_at, rank_from, rank, lower_keys, rank_of}
use Rattle.machines.proofs.Lists.{In}
use Rattle.machines.proofs.Under.{under_found, ascending_under, rests_found}
use Rattle.machines.proofs.FirstBytes.{Over, RisingBytes, rising_bytes}
use Rattle.machines.proofs.Counting.{Lacks}
use Rattle.machines.proofs.KeyCounts.{weight, heavy, parts, total, weighed, under_under}
use Rattle.machines.proofs.Membership.{lacks_or_in, lacks_none}
use Rattle.machines.proofs.RightAnswers.{longer, arc_lacks, arc_in, class_of}
use Rattle.machines.proofs.Targets.{next_prefix}
use Rattle.machines.proofs.AcceptedKeys.{end_counted, arc_counted}

-- whether b ∷ v is lower than a ∷ w, as a weight
abbrev lower_weight : ℕ → Key → ℕ → Key → ℕ
lower_weight a w b v = bit (lower (b ∷ v) (a ∷ w))

module _ {A : Type 0} where
  -- the rank in a list of pairs, counted from n
  abbrev ranked : ℕ → Pairs A → Key → Option ℕ
  ranked n Q w = elim (output_of Q w) [ none ↦ none | some z ↦ some (n + lower_keys Q w) ]

  none_lower : (Q : Pairs A) → lower_keys Q [] ≡ 0
  none_lower [] = refl
  none_lower (q ∷ Q) = omega (arith, none_lower Q)

  total_lower : (a : ℕ) (w : Key) (Q : Pairs A) → total (lower_weight a w) Q ≡ lower_keys Q (a ∷ w)
  total_lower a w [] = refl
  total_lower a w (q ∷ Q) = ap₂ ◌+◌ (one q.0) (total_lower a w Q)
    where
      one : (v : Key) → weight (lower_weight a w) v ≡ bit (lower v (a ∷ w))
      one [] = refl
      one (b ∷ v) = refl

  -- behind a lower byte every key is lower, behind a higher one none
  heavy_less : (a : ℕ) (w : Key) (b : ℕ) (L : Pairs A) → b < a → heavy (lower_weight a w) b L ≡ length L
  heavy_less a w b [] h = refl
  heavy_less a w b (p ∷ L) h = ap₂ ◌+◌ (ap (λ t. bit (t || (eqb b a && lower p.0 w))) (lt-ltb b a h)) (heavy_less a w b L h) ∙ omega arith

  heavy_more : (a : ℕ) (w : Key) (b : ℕ) (L : Pairs A) → a < b → heavy (lower_weight a w) b L ≡ 0
  heavy_more a w b [] h = refl
  heavy_more a w b (p ∷ L) h =
      ap₂ ◌+◌ (ap₂ (λ s t. bit (s || (t && lower p.0 w))) (le-ltb b a (omega arith)) (ne_eqb b a (omega arith))) (heavy_more a w b L h)

  heavy_same : (a : ℕ) (w : Key) (L : Pairs A) → heavy (lower_weight a w) a L ≡ lower_keys L w
  heavy_same a w [] = refl
  heavy_same a w (p ∷ L) = ap₂ ◌+◌ (ap₂ (λ s t. bit (s || (t && lower p.0 w))) (le-ltb a a (omega arith)) (eq-eqb a a refl)) (heavy_same a w L)

  -- the keys behind those of some bytes that are below a
  abbrev below_sum : Pairs A → ℕ → List ℕ → ℕ
  below_sum Q a [] = 0
  below_sum Q a (b ∷ bs) = elim (ltb b a) [ true ↦ length (under Q (b ∷ [])) | false ↦ 0 ] + below_sum Q a bs

  below_head : (Q : Pairs A) (a b n : ℕ) (t : Bool) → ltb b a ≡ t → elim (ltb b a) as (λ x. ℕ) [ true ↦ n | false ↦ 0 ] ≡ elim t as (λ x. ℕ) [ true ↦ n | false ↦ 0 ]
  below_head Q a b n t e = ap (λ s. elim s as (λ x. ℕ) [ true ↦ n | false ↦ 0 ]) e

  parts_over : (Q : Pairs A) (a : ℕ) (w : Key) (bs : List ℕ) → Over a bs → (parts (lower_weight a w) Q bs ≡ 0) × (below_sum Q a bs ≡ 0)
  parts_over Q a w [] h = (refl, refl)
  parts_over Q a w (b ∷ bs) h =
      let deep = parts_over Q a w bs h.1 in (
        omega (arith, heavy_more a w b (under Q (b ∷ [])) h.0, deep.0),
        omega (arith, below_head Q a b (length (under Q (b ∷ []))) false (le-ltb b a (omega (arith, h.0))), deep.1),
      )

  parts_in : (Q : Pairs A) (a : ℕ) (w : Key) (bs : List ℕ) → RisingBytes bs → In a bs → parts (lower_weight a w) Q bs ≡ below_sum Q a bs + lower_keys (under Q (a ∷ [])) w
  parts_in Q a w [] r i = absurd i
  parts_in Q a w (b ∷ bs) r (inl e) = subst (λ c. Over c bs → parts (lower_weight a w) Q (c ∷ bs) ≡ below_sum Q a (c ∷ bs) + lower_keys (under Q (a ∷ [])) w) e here r.0
    where
      here : Over a bs → parts (lower_weight a w) Q (a ∷ bs) ≡ below_sum Q a (a ∷ bs) + lower_keys (under Q (a ∷ [])) w
      here o =
          let deep = parts_over Q a w bs o in
          omega (arith, heavy_same a w (under Q (a ∷ [])), deep.0, deep.1, below_head Q a a (length (under Q (a ∷ []))) false (le-ltb a a (omega arith)))
  parts_in Q a w (b ∷ bs) r (inr i) =
      let h : b < a = over_in bs r.0 i in
      omega (arith, heavy_less a w b (under Q (b ∷ [])) h, below_head Q a b (length (under Q (b ∷ []))) true (lt-ltb b a h), parts_in Q a w bs r.1 i)
    where
      over_in : (cs : List ℕ) → Over b cs → In a cs → b < a
      over_in [] o j = absurd j
      over_in (c ∷ cs) o (inl e) = omega (arith, o.0)
      over_in (c ∷ cs) o (inr j) = over_in cs o.1 j

  -- the keys lower than a ∷ w: the empty one, those behind lower bytes, and the lower ones behind a
  lower_split : (Q : Pairs A) (a : ℕ) (w : Key) → Ascending Q → In a (first_bytes Q)
      → lower_keys Q (a ∷ w) ≡ end_flag (output_of Q []) + below_sum Q a (first_bytes Q) + lower_keys (under Q (a ∷ [])) w
  lower_split Q a w h i =
      omega (arith, total_lower a w Q, weighed (lower_weight a w) Q h, parts_in Q a w (first_bytes Q) (rising_bytes Q h) i)

module _ (k : Kind) (laws : Laws k) where
  lower_rests : (c : k.Ideal) (Q : Pairs k.Ideal) (w : Key) → lower_keys (rests k c Q) w ≡ lower_keys Q w
  lower_rests c [] w = refl
  lower_rests c (q ∷ Q) w = ap (λ n. bit (lower q.0 w) + n) (lower_rests c Q w)

  ranked_rests : (n : ℕ) (c : k.Ideal) (Q : Pairs k.Ideal) (w : Key) → ranked n (rests k c Q) w ≡ ranked n Q w
  ranked_rests n c Q w = go (output_of (rests k c Q) w) (output_of Q w) (rests_found k laws c Q w)
    where
      go : (o p : Option k.Ideal) → o ≡ rest_some k c p
          → ◌≡◌ {A = Option ℕ} (elim o [ none ↦ none | some z ↦ some (n + lower_keys (rests k c Q) w) ]) (elim p [ none ↦ none | some z ↦ some (n + lower_keys Q w) ])
      go none none e = refl
      go none (some z) e = let o : ◌≡◌ {A = ℕ} 0 1 = cc in absurd (omega arith)
      go (some y) none e = let o : ◌≡◌ {A = ℕ} 0 1 = cc in absurd (omega arith)
      go (some y) (some z) e = ap {B = Option ℕ} (λ m. some (n + m)) (lower_rests c Q w)

  module _ (P : Pairs k.Ideal) (ascending : Ascending P) (storable : AllStorable k P) where
    below_counted : (v : Key) (a : ℕ) (bs : List ℕ) → ((b : ℕ) → In b bs → In b (first_bytes (under P v)))
        → keys_below (key_counts k P) a (arcs_of k P (first_prefixes k P) v bs) ≡ below_sum (under P v) a bs
    below_counted v a [] f = refl
    below_counted v a (b ∷ bs) f =
        ap₂ ◌+◌ (ap (λ n. elim (ltb b a) as (λ t. ℕ) [ true ↦ n | false ↦ 0 ]) (arc_counted k laws P ascending storable v b (f b (inl refl)))) (below_counted v a bs (λ c i. f c (inr i)))

    -- the rank that the class of a prefix gives is that in the residual
    rank_at : (w u : Key) (n : ℕ) → KeyPrefix P u → rank_from (minimal k P).states (key_counts k P) (class_number k P u) n w ≡ ranked n (residual k P u) w
    rank_at [] u n s =
        let c = class_of k laws P ascending storable u s in
        ap ends (ap end_at c.1) ∙ at_end c.0 ∙ sym (ranked_rests n _ (under P c.0) []) ∙ ap (λ F. ranked n F []) (sym c.2)
      where
        ends : Option k.Ideal → Option ℕ
        ends o = elim o [ none ↦ none | some x ↦ some n ]

        at_end : (y : Key) → ends (end_of k P y) ≡ ranked n (under P y) []
        at_end y = go (output_of P y) (output_of (under P y) []) (under_found P y [] ∙ ap (output_of P) (append-nil y))
          where
            go : (o p : Option k.Ideal) → p ≡ o → ends (rest_some k (greatest_common k P y) o) ≡ elim p as (λ x. Option ℕ) [ none ↦ none | some z ↦ some (n + lower_keys (under P y) []) ]
            go none none e = refl
            go none (some z) e = let o : ◌≡◌ {A = ℕ} 0 1 = cc in absurd (omega arith)
            go (some z) none e = let o : ◌≡◌ {A = ℕ} 0 1 = cc in absurd (omega arith)
            go (some y') (some z) e = ap {B = Option ℕ} some (omega (arith, none_lower (under P y)))
    rank_at (a ∷ w) u n s = by (class_of k laws P ascending storable u s) (λ v m t. rank_at w v m t)
      where
        step : Option (State k.Ideal) → Option ℕ
        step o = elim (arc_at {A = k.Ideal} o a) as (λ x. Option ℕ) [
          | none ↦ none
          | some arc ↦ rank_from (minimal k P).states (key_counts k P) arc.target (n + end_flag (end_at o) + keys_below (key_counts k P) a (arcs_at o)) w
        ]

        by : (c : (y : Key) × (at (minimal k P).states (class_number k P u) ≡ some (state_of k P (first_prefixes k P) y)) × (residual k P u ≡ residual k P y))
            → ((v : Key) (m : ℕ) → KeyPrefix P v → rank_from (minimal k P).states (key_counts k P) (class_number k P v) m w ≡ ranked m (residual k P v) w)
            → rank_from (minimal k P).states (key_counts k P) (class_number k P u) n (a ∷ w) ≡ ranked n (residual k P u) (a ∷ w)
        by c deep =
            ap step c.1 ∙ here (lacks_or_in a (first_bytes (under P y))) ∙ sym (ranked_rests n _ (under P y) (a ∷ w)) ∙ ap (λ F. ranked n F (a ∷ w)) (sym c.2)
          where
            y : Key
            y = c.0

            on : ℕ
            on = n + end_flag (end_of k P y) + keys_below (key_counts k P) a (arcs_of k P (first_prefixes k P) y (first_bytes (under P y)))

            follow : Option (Arc k.Ideal) → Option ℕ
            follow o = elim o [ none ↦ none | some arc ↦ rank_from (minimal k P).states (key_counts k P) arc.target on w ]

            here : In a (first_bytes (under P y)) ⊎ Lacks a (first_bytes (under P y)) → step (some (state_of k P (first_prefixes k P) y)) ≡ ranked n (under P y) (a ∷ w)
            here (inr l) =
                ap follow (arc_lacks k laws P (first_prefixes k P) y a (first_bytes (under P y)) l)
                ∙ ap (λ o. elim o as (λ x. Option ℕ) [ none ↦ none | some z ↦ some (n + lower_keys (under P y) (a ∷ w)) ]) (sym (lacks_none (under P y) a w l))
            here (inl i) =
                ap follow (arc_in k laws P (first_prefixes k P) y a (first_bytes (under P y)) i)
                ∙ deep (y ++ (a ∷ [])) on (next_prefix k laws P y a i)
                ∙ ranked_rests on _ (under P (y ++ (a ∷ []))) w
                ∙ ap₂ (λ (o : Option k.Ideal) (m : ℕ). elim o as (λ x. Option ℕ) [ none ↦ none | some z ↦ some m ]) (longer k laws P ascending storable y a w) sums
              where
                sums : on + lower_keys (under P (y ++ (a ∷ []))) w ≡ n + lower_keys (under P y) (a ∷ w)
                sums = omega (
                  arith,
                  lower_split (under P y) a w (ascending_under P y ascending) i,
                  below_counted y a (first_bytes (under P y)) (λ b j. j),
                  end_counted k laws P ascending storable y,
                  ap (λ Q. lower_keys Q w) (under_under P y a ascending),
                )

    under_all : (Q : Pairs k.Ideal) → under Q [] ≡ Q
    under_all [] = refl
    under_all (q ∷ Q) = ap {B = Pairs k.Ideal} (λ l. q ∷ l) (under_all Q)

    pub rank_is : KeyPrefix P [] → (w : Key) → rank (minimal k P) (key_counts k P) w ≡ rank_of P w
    unfolding rank
    rank_is nonempty w = rank_at w [] 0 nonempty ∙ ranked_rests 0 _ (under P []) w ∙ ap (λ Q. ranked 0 Q w) (under_all P) ∙ plain (output_of P w)
      where
        plain : (o : Option k.Ideal) → ◌≡◌ {A = Option ℕ} (elim o [ none ↦ none | some z ↦ some (0 + lower_keys P w) ]) (elim o [ none ↦ none | some z ↦ some (lower_keys P w) ])
        plain none = refl
        plain (some z) = ap {B = Option ℕ} some (omega arith)
