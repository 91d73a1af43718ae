-- What find and so far tell of the minimal machine. Assumes ascending keys and storable outputs.
use Rattle.std.proofs.Common.{◌≡◌, ℕ, Bool, true, false, eqb, ◌⊎◌, [], ◌∷◌, ◌++◌, sym, refl, ap, ◌∙◌, subst, ap₂, inl, inr, append_assoc, append-nil, arith}
use mathlib.Core.Option.{Option, none, some}
use Rattle.outputs.specs.Kinds.{Kind, Laws, PrefixOf}
use Rattle.machines.specs.Lists.{at}
use Rattle.machines.specs.Keys.{Key, past, same_key}
use Rattle.machines.specs.Machines.{Arc, arc_at, end_at, arc_on}
use Rattle.machines.specs.Pairs.{Pairs, output_of, under, first_bytes, Ascending, AllStorable, KeyPrefix}
use Rattle.machines.specs.Residuals.{greatest, greatest_common, rests, residual, first_prefixes, class_in}
use Rattle.machines.specs.Minimal.{arcs_of, rest_some, state_of, minimal}
use Rattle.machines.specs.Asked.{Told, gives, absent, unstorable, tell, and_tell, joined, walk_from, end_tell, walk, so_far, find}
use Rattle.machines.proofs.Under.{under_found, ascending_under, rests_found, all_from}
use Rattle.machines.proofs.PrefixLaws.{AllPrefixed, rest_joined, greatest_prefix, greatest_shift, left_shift, shift_rests}
use Rattle.machines.proofs.FirstBytes.{Heads, all_head}
use Rattle.machines.proofs.Counting.{Lacks}
use Rattle.machines.proofs.Lists.{In}
use Rattle.machines.proofs.Membership.{lacks_none, lacks_or_in, in_heads}
use Rattle.machines.proofs.CommonOutputs.{found_prefixed}
use Rattle.machines.proofs.RightAnswers.{common_grows, class_of, arc_lacks, arc_in}

abbrev and_past : Key → Option Key → Option Key
and_past w none = none
and_past w (some x) = past w x

past_split : (u w v : Key) → past (u ++ w) v ≡ and_past w (past u v)
past_split [] w v = refl
past_split (a ∷ u) w [] = refl
past_split (a ∷ u) w (b ∷ v) = go (eqb a b) (past_split u w v)
  where
    go : (t : Bool) → past (u ++ w) v ≡ and_past w (past u v)
        → ◌≡◌ {A = Option Key} (elim t [ true ↦ past (u ++ w) v | false ↦ none ]) (and_past w (elim t [ true ↦ past u v | false ↦ none ]))
    go true deep = deep
    go false deep = refl

module _ {A : Type 0} where
  under_one : Option Key → A → Pairs A → Pairs A
  under_one none z Q = Q
  under_one (some w) z Q = (w, z) ∷ Q

  pub under_under : (P : Pairs A) (u w : Key) → under (under P u) w ≡ under P (u ++ w)
  under_under [] u w = refl
  under_under (p ∷ P) u w = go (past u p.0) (past (u ++ w) p.0) (past_split u w p.0) (under_under P u w)
    where
      go : (o s : Option Key) → s ≡ and_past w o → under (under P u) w ≡ under P (u ++ w)
          → ◌≡◌ {A = Pairs A} (under (elim o [ none ↦ under P u | some v ↦ (v, p.1) ∷ under P u ]) w) (elim s [ none ↦ under P (u ++ w) | some v ↦ (v, p.1) ∷ under P (u ++ w) ])
      go none none e deep = deep
      go none (some x) e deep = let z : ◌≡◌ {A = ℕ} 0 1 = cc in absurd (omega arith)
      go (some v) s e deep = by (past w v) s e
        where
          by : (t s : Option Key) → s ≡ t
              → ◌≡◌ {A = Pairs A} (elim t [ none ↦ under (under P u) w | some x ↦ (x, p.1) ∷ under (under P u) w ]) (elim s [ none ↦ under P (u ++ w) | some x ↦ (x, p.1) ∷ under P (u ++ w) ])
          by none none f = deep
          by none (some x) f = let z : ◌≡◌ {A = ℕ} 0 1 = cc in absurd (omega arith)
          by (some x) none f = let z : ◌≡◌ {A = ℕ} 0 1 = cc in absurd (omega arith)
          by (some x) (some y) f =
              let q : y ≡ x = cc in
              ap₂ {C = Pairs A} (λ l r. (l, p.1) ∷ r) (sym q) deep

-- the word goes on one byte later
regroup : (u : Key) (a : ℕ) (w : Key) → (u ++ (a ∷ [])) ++ w ≡ u ++ (a ∷ w)
regroup u a w = append_assoc u (a ∷ []) w

module _ (k : Kind) (laws : Laws k) where
  under_rests : (c : k.Ideal) (Q : Pairs k.Ideal) (w : Key) → under (rests k c Q) w ≡ rests k c (under Q w)
  under_rests c [] w = refl
  under_rests c (q ∷ Q) w = go (past w q.0) (under_rests c Q w)
    where
      go : (o : Option Key) → under (rests k c Q) w ≡ rests k c (under Q w)
          → ◌≡◌ {A = Pairs k.Ideal} (elim o [ none ↦ under (rests k c Q) w | some v ↦ (v, k.rest c q.1) ∷ under (rests k c Q) w ]) (rests k c (elim o [ none ↦ under Q w | some v ↦ (v, q.1) ∷ under Q w ]))
      go none deep = deep
      go (some v) deep = ap {B = Pairs k.Ideal} (λ l. (v, k.rest c q.1) ∷ l) deep

  -- the greatest common prefix of rests, where something is found
  pub greatest_rests : (c : k.Ideal) (Q : Pairs k.Ideal) (w : Key) (z : k.Ideal) → output_of Q w ≡ some z → AllPrefixed k c Q → greatest k (rests k c Q) ≡ k.rest c (greatest k Q)
  greatest_rests c [] w z e all = let o : ◌≡◌ {A = ℕ} 0 1 = cc in absurd (omega arith)
  greatest_rests c (q ∷ Q) w z e all =
      sym (ap (k.rest c) (ap (greatest k) (sym (shift_rests laws c (q ∷ Q) all)) ∙ greatest_shift laws c (q.0, k.rest c q.1) (rests k c Q)) ∙ laws.rest_of_join c (greatest k (rests k c (q ∷ Q))))

  rest_none : (c : k.Ideal) (o : Option k.Ideal) → rest_some k c o ≡ none → o ≡ none
  rest_none c none e = refl
  rest_none c (some z) e = let o : ◌≡◌ {A = ℕ} 0 1 = cc in absurd (omega arith)

  pub rest_found : (c : k.Ideal) (o : Option k.Ideal) (z : k.Ideal) → rest_some k c o ≡ some z → (y : k.Ideal) × (o ≡ some y)
  rest_found c none z e = let o : ◌≡◌ {A = ℕ} 0 1 = cc in absurd (omega arith)
  rest_found c (some y) z e = (y, refl)

  module _ (P : Pairs k.Ideal) (ascending : Ascending P) (storable : AllStorable k P) where
    -- the greatest common output under u is a prefix of all outputs under a longer string
    all_longer : (u w : Key) → AllPrefixed k (greatest_common k P u) (under P (u ++ w))
    all_longer u w =
        all_from k laws (greatest_common k P u) (under P (u ++ w)) (ascending_under P (u ++ w) ascending)
        (λ v z e. found_prefixed k laws (greatest_common k P u) (under P u) (w ++ v) z (greatest_prefix laws (under P u))
        (under_found P u (w ++ v) ∙ ap (output_of P) (sym (append_assoc u w v)) ∙ sym (under_found P (u ++ w) v) ∙ e))

    pub rests_longer : (u : Key) (a : ℕ) → under (residual k P u) (a ∷ []) ≡ rests k (greatest_common k P u) (under P (u ++ (a ∷ [])))
    rests_longer u a = under_rests (greatest_common k P u) (under P u) (a ∷ []) ∙ ap (rests k (greatest_common k P u)) (under_under P u (a ∷ []))

    -- an arc's output and the residual of its target are told by the residual of its source
    pub residual_on : (u : Key) (a : ℕ) → residual k P (u ++ (a ∷ [])) ≡ rests k (greatest k (under (residual k P u) (a ∷ []))) (under (residual k P u) (a ∷ []))
    residual_on u a =
        ap (λ F. rests k (greatest k F) F) (sym (shift_rests laws (greatest_common k P u) (under P (u ++ (a ∷ []))) (all_longer u (a ∷ []))))
        ∙ left_shift laws (greatest_common k P u) (rests k (greatest_common k P u) (under P (u ++ (a ∷ []))))
        ∙ ap (λ F. rests k (greatest k F) F) (sym (rests_longer u a))

    output_on : (u : Key) (a : ℕ) → KeyPrefix P (u ++ (a ∷ [])) → k.rest (greatest_common k P u) (greatest_common k P (u ++ (a ∷ []))) ≡ greatest k (under (residual k P u) (a ∷ []))
    output_on u a s =
        sym (greatest_rests (greatest_common k P u) (under P (u ++ (a ∷ []))) s.0 s.1 (under_found P (u ++ (a ∷ [])) s.0 ∙ s.2) (all_longer u (a ∷ [])))
        ∙ ap (greatest k) (sym (rests_longer u a))

    -- the greatest common output under a prefix of a key is storable
    pub storable_found : (Q : Pairs k.Ideal) (w : Key) (z : k.Ideal) → AllStorable k Q → output_of Q w ≡ some z → k.storable z ≡ true
    storable_found [] w z s e = let o : ◌≡◌ {A = ℕ} 0 1 = cc in absurd (omega arith)
    storable_found (q ∷ Q) w z s e = go (same_key q.0 w) e (storable_found Q w z s.1)
      where
        go : (t : Bool) → ◌≡◌ {A = Option k.Ideal} (elim t [ true ↦ some q.1 | false ↦ output_of Q w ]) (some z) → (output_of Q w ≡ some z → k.storable z ≡ true) → k.storable z ≡ true
        go true f deep = let o : q.1 ≡ z = cc in subst (λ x. k.storable x ≡ true) o s.0
        go false f deep = deep f

    pub common_storable : (u : Key) → KeyPrefix P u → k.storable (greatest_common k P u) ≡ true
    common_storable u s =
        let b : PrefixOf k (greatest_common k P u) s.1 = found_prefixed k laws (greatest_common k P u) (under P u) s.0 s.1 (greatest_prefix laws (under P u)) (under_found P u s.0 ∙ s.2) in
        (laws.parts_storable (greatest_common k P u) b.0 (subst (λ x. k.storable x ≡ true) (sym b.1) (storable_found P (u ++ s.0) s.1 storable s.2))).0

    joined_is : (x y z : k.Ideal) → k.join x y ≡ z → k.storable z ≡ true → joined k x y ≡ gives z
    joined_is x y z e s = ap (λ v. elim (k.storable v) [ true ↦ gives v | false ↦ unstorable ]) e ∙ ap {B = Told k.Ideal} (λ t. elim t [ true ↦ gives z | false ↦ unstorable ]) s

    -- from the class of v, alike to u, with x put out
    abbrev from : Key → k.Ideal → Key → Told (ℕ × k.Ideal)
    from v x w = walk_from k (minimal k P).states (class_in k P (first_prefixes k P) v) x w

    -- the walk comes to the class of a prefix alike to the string, with the greatest common output put out, or an arc is missing and no key goes on there
    abbrev pub Came : Told (ℕ × k.Ideal) → Key → Type 0
    Came t u =
        ((x : Key) × KeyPrefix P x × KeyPrefix P u × (residual k P u ≡ residual k P x) × (t ≡ gives (class_in k P (first_prefixes k P) x, greatest_common k P u)))
        ⊎ ((t ≡ absent) × ((y : Key) → output_of P (u ++ y) ≡ none))

    walked : (w v u : Key) → KeyPrefix P v → KeyPrefix P u → residual k P u ≡ residual k P v → Came (from v (greatest_common k P u) w) (u ++ w)
    walked [] v u sv su e =
        let n : u ≡ u ++ [] = sym (append-nil u) in
        inl (v, sv, subst (KeyPrefix P) n su, ap (residual k P) (sym n) ∙ e, ap {B = Told (ℕ × k.Ideal)} (λ y. gives (class_in k P (first_prefixes k P) v, greatest_common k P y)) n)
    walked (a ∷ w) v u sv su e = by (class_of k laws P ascending storable v sv) (walked w)
      where
        ua : Key
        ua = u ++ (a ∷ [])

        step : Option (Arc k.Ideal) → Told (ℕ × k.Ideal)
        step o = elim o [ none ↦ absent | some arc ↦ and_tell (joined k (greatest_common k P u) arc.output) (λ y. walk_from k (minimal k P).states arc.target y w) ]

        by : (c : (x : Key) × (at (minimal k P).states (class_in k P (first_prefixes k P) v) ≡ some (state_of k P (first_prefixes k P) x)) × (residual k P v ≡ residual k P x))
            → ((x y : Key) → KeyPrefix P x → KeyPrefix P y → residual k P y ≡ residual k P x → Came (from x (greatest_common k P y) w) (y ++ w))
            → Came (from v (greatest_common k P u) (a ∷ w)) (u ++ (a ∷ w))
        by c deep = subst (λ t. Came t (u ++ (a ∷ w))) (sym (ap step (ap (λ o. arc_at o a) c.1))) (here (lacks_or_in a (first_bytes (under P x))))
          where
            x : Key
            x = c.0

            xa : Key
            xa = x ++ (a ∷ [])

            same : residual k P u ≡ residual k P x
            same = e ∙ c.2

            both : (y : Key) → rest_some k (greatest_common k P u) (output_of P (u ++ y)) ≡ rest_some k (greatest_common k P x) (output_of (under P x) y)
            both y =
                ap (rest_some k (greatest_common k P u)) (sym (under_found P u y)) ∙ sym (rests_found k laws (greatest_common k P u) (under P u) y)
                ∙ ap (λ F. output_of F y) same ∙ rests_found k laws (greatest_common k P x) (under P x) y

            here : In a (first_bytes (under P x)) ⊎ Lacks a (first_bytes (under P x)) → Came (step (arc_on a (arcs_of k P (first_prefixes k P) x (first_bytes (under P x))))) (u ++ (a ∷ w))
            here (inr l) =
                inr (
                  ap step (arc_lacks k laws P (first_prefixes k P) x a (first_bytes (under P x)) l),
                  λ y. ap (output_of P) (append_assoc u (a ∷ w) y) ∙ rest_none (greatest_common k P u) _ (both (a ∷ (w ++ y)) ∙ ap (rest_some k (greatest_common k P x)) (lacks_none (under P x) a (w ++ y) l)),
                )
            here (inl i) =
                let h : Heads (under P x) a = in_heads (under P x) a (first_bytes (under P x)) (all_head (under P x)) i in
                let sx : KeyPrefix P xa = (h.0, h.1, ap (output_of P) (regroup x a h.0) ∙ sym (under_found P x (a ∷ h.0)) ∙ h.2) in
                let f = rest_found (greatest_common k P u) (output_of P (u ++ (a ∷ h.0))) (k.rest (greatest_common k P x) h.1) (both (a ∷ h.0) ∙ ap (rest_some k (greatest_common k P x)) h.2) in
                let su' : KeyPrefix P ua = (h.0, f.0, ap (output_of P) (regroup u a h.0) ∙ f.1) in
                let out : k.rest (greatest_common k P x) (greatest_common k P xa) ≡ k.rest (greatest_common k P u) (greatest_common k P ua) = output_on x a sx ∙ ap (λ F. greatest k (under F (a ∷ []))) (sym same) ∙ sym (output_on u a su') in
                let grown : PrefixOf k (greatest_common k P u) (greatest_common k P ua) = common_grows k laws P ascending storable u a (h.0, f.0, under_found P u (a ∷ h.0) ∙ f.1) in
                let is : joined k (greatest_common k P u) (k.rest (greatest_common k P x) (greatest_common k P xa)) ≡ gives (greatest_common k P ua)
                = joined_is _ _ (greatest_common k P ua) (ap (k.join (greatest_common k P u)) out ∙ rest_joined laws (greatest_common k P u) (greatest_common k P ua) grown) (common_storable ua su') in
                let alike : residual k P ua ≡ residual k P xa = residual_on u a ∙ ap (λ F. rests k (greatest k (under F (a ∷ []))) (under F (a ∷ []))) same ∙ sym (residual_on x a) in
                subst (λ t. Came t (u ++ (a ∷ w)))
                (sym (ap step (arc_in k laws P (first_prefixes k P) x a (first_bytes (under P x)) i)
                ∙ ap (λ t. and_tell t (λ y. from xa y w)) is))
                (subst (λ y. Came (from xa (greatest_common k P ua) w) y) (regroup u a w) (deep xa ua sx su' alike))

    -- from the start
    module _ (nonempty : KeyPrefix P []) where
      pub came : (w : Key) → Came (walk k (minimal k P) w) w
      came w = walked w [] [] nonempty nonempty refl

      pub so_far_prefix : (u : Key) → KeyPrefix P u → so_far k (minimal k P) u ≡ gives (greatest_common k P u)
      unfolding so_far
      so_far_prefix u s = go (came u)
        where
          go : Came (walk k (minimal k P) u) u → so_far k (minimal k P) u ≡ gives (greatest_common k P u)
          go (inl c) = ap (λ t. and_tell t (λ q. gives q.1)) c.4
          go (inr c) = let n = c.1 s.0 in let y = s.2 in let o : ◌≡◌ {A = ℕ} 0 1 = cc in absurd (omega arith)

      pub find_is : (w : Key) → find k (minimal k P) w ≡ tell (output_of P w)
      unfolding find
      find_is w = go (came w)
        where
          go : Came (walk k (minimal k P) w) w → find k (minimal k P) w ≡ tell (output_of P w)
          go (inl c) = ap (λ t. and_tell t (λ s. end_tell k (minimal k P).states s.0 s.1)) c.4 ∙ at_end (class_of k laws P ascending storable c.0 c.1)
            where
              told : Option k.Ideal → Told k.Ideal
              told o = elim o [ none ↦ absent | some y ↦ joined k (greatest_common k P w) y ]

              rejoined : (o : Option k.Ideal) → output_of P w ≡ o → told (rest_some k (greatest_common k P w) o) ≡ tell o
              rejoined none e = refl
              rejoined (some z) e =
                  joined_is (greatest_common k P w) _ z (rest_joined laws (greatest_common k P w) z (found_prefixed k laws (greatest_common k P w) (under P w) [] z (greatest_prefix laws (under P w)) (under_found P w [] ∙ ap (output_of P) (append-nil w) ∙ e)))
                  (storable_found P w z storable e)

              whole : (u : Key) → output_of (residual k P u) [] ≡ rest_some k (greatest_common k P u) (output_of P u)
              whole u = rests_found k laws (greatest_common k P u) (under P u) [] ∙ ap (rest_some k (greatest_common k P u)) (under_found P u [] ∙ ap (output_of P) (append-nil u))

              at_end : (d : (x : Key) × (at (minimal k P).states (class_in k P (first_prefixes k P) c.0) ≡ some (state_of k P (first_prefixes k P) x)) × (residual k P c.0 ≡ residual k P x))
                  → end_tell k (minimal k P).states (class_in k P (first_prefixes k P) c.0) (greatest_common k P w) ≡ tell (output_of P w)
              at_end d =
                  ap told (ap end_at d.1 ∙ sym (whole d.0) ∙ ap (λ F. output_of F []) (sym (c.3 ∙ d.2)) ∙ whole w)
                  ∙ rejoined (output_of P w) refl
          go (inr c) =
              ap (λ t. and_tell t (λ s. end_tell k (minimal k P).states s.0 s.1)) c.0
              ∙ ap tell (sym (ap (output_of P) (sym (append-nil w)) ∙ c.1 []))
