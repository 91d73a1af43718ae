-- What the laws give of prefixes, common parts and rests: to put x in front of every output changes no residual. Assumes the laws of a kind.
use Rattle.std.proofs.Common.{◌≡◌, true, [], ◌∷◌, sym, refl, ap, ◌∙◌, subst, ap₂}
use Rattle.outputs.specs.Kinds.{Kind, Laws, PrefixOf}
use Rattle.machines.specs.Keys.{Key}
use Rattle.machines.specs.Pairs.{Pairs}
use Rattle.machines.specs.Residuals.{greatest, rests}

module _ (k : Kind) where
  -- x in front of each output
  abbrev pub shift : k.Ideal → Pairs k.Ideal → Pairs k.Ideal
  shift x [] = []
  shift x (p ∷ F) = (p.0, k.join x p.1) ∷ shift x F

  -- c is a prefix of each output
  abbrev pub AllPrefixed : k.Ideal → Pairs k.Ideal → Type 0
  AllPrefixed c [] = Unit {0}
  AllPrefixed c (p ∷ F) = PrefixOf k c p.1 × AllPrefixed c F

module _ {k : Kind} (laws : Laws k) where
  pub prefix_refl : (x : k.Ideal) → PrefixOf k x x
  prefix_refl x = (k.empty, laws.neutral_right x)

  pub prefix_trans : (x y z : k.Ideal) → PrefixOf k x y → PrefixOf k y z → PrefixOf k x z
  prefix_trans x y z p q = (k.join p.0 q.0, sym (laws.associative x p.0 q.0) ∙ ap (λ t. k.join t q.0) p.1 ∙ q.1)

  pub prefix_antisym : (x y : k.Ideal) → PrefixOf k x y → PrefixOf k y x → x ≡ y
  unfolding prefix_trans
  prefix_antisym x y p q =
      let both : k.join x (k.join p.0 q.0) ≡ k.join x k.empty = (prefix_trans x y x p q).1 ∙ sym (laws.neutral_right x) in
      let gone = (laws.empty_parts p.0 q.0 (laws.left_cancel x _ _ both)).0 in
      sym (laws.neutral_right x) ∙ ap (k.join x) (sym gone) ∙ p.1

  -- to put x in front keeps and reflects prefixes
  pub prefix_under : (x y z : k.Ideal) → PrefixOf k y z → PrefixOf k (k.join x y) (k.join x z)
  prefix_under x y z p = (p.0, laws.associative x y p.0 ∙ ap (k.join x) p.1)

  pub prefix_cancel : (x y z : k.Ideal) → PrefixOf k (k.join x y) (k.join x z) → PrefixOf k y z
  prefix_cancel x y z p = (p.0, laws.left_cancel x _ _ (sym (laws.associative x y p.0) ∙ p.1))

  pub common_under : (x y z : k.Ideal) → k.common (k.join x y) (k.join x z) ≡ k.join x (k.common y z)
  common_under x y z =
      let c = k.common (k.join x y) (k.join x z) in
      let t : PrefixOf k x c = laws.common_greatest (k.join x y) (k.join x z) x (y, refl) (z, refl) in
      let ty : PrefixOf k t.0 y = prefix_cancel x t.0 y (subst (λ w. PrefixOf k w (k.join x y)) (sym t.1) (laws.common_of_left (k.join x y) (k.join x z))) in
      let tz : PrefixOf k t.0 z = prefix_cancel x t.0 z (subst (λ w. PrefixOf k w (k.join x z)) (sym t.1) (laws.common_of_right (k.join x y) (k.join x z))) in
      prefix_antisym c (k.join x (k.common y z))
      (subst (λ w. PrefixOf k w (k.join x (k.common y z))) t.1 (prefix_under x t.0 (k.common y z) (laws.common_greatest y z t.0 ty tz)))
      (laws.common_greatest (k.join x y) (k.join x z) (k.join x (k.common y z))
      (prefix_under x (k.common y z) y (laws.common_of_left y z))
      (prefix_under x (k.common y z) z (laws.common_of_right y z)))

  pub rest_joined : (x z : k.Ideal) → PrefixOf k x z → k.join x (k.rest x z) ≡ z
  rest_joined x z p = ap (k.join x) (ap (k.rest x) (sym p.1) ∙ laws.rest_of_join x p.0) ∙ p.1

  -- the rest of a storable output is storable
  pub rest_storable : (a b : k.Ideal) → PrefixOf k a b → k.storable b ≡ true → k.storable (k.rest a b) ≡ true
  rest_storable a b p s = (laws.parts_storable a (k.rest a b) (subst (λ z. k.storable z ≡ true) (sym (rest_joined a b p)) s)).1

  pub rest_under : (x c z : k.Ideal) → PrefixOf k c z → k.rest (k.join x c) (k.join x z) ≡ k.rest c z
  unfolding prefix_under
  rest_under x c z p =
      ap (k.rest (k.join x c)) (sym (prefix_under x c z p).1) ∙ laws.rest_of_join (k.join x c) p.0
      ∙ sym (laws.rest_of_join c p.0) ∙ ap (k.rest c) p.1

  pub greatest_shift : (x : k.Ideal) (p : Key × k.Ideal) (F : Pairs k.Ideal) → greatest k (shift k x (p ∷ F)) ≡ k.join x (greatest k (p ∷ F))
  greatest_shift x p [] = refl
  greatest_shift x p (q ∷ F) = ap (k.common (k.join x p.1)) (greatest_shift x q F) ∙ common_under x p.1 (greatest k (q ∷ F))

  all_prefixed_down : (c d : k.Ideal) (F : Pairs k.Ideal) → PrefixOf k c d → AllPrefixed k d F → AllPrefixed k c F
  all_prefixed_down c d [] p all = tt
  all_prefixed_down c d (q ∷ F) p all = (prefix_trans c d q.1 p all.0, all_prefixed_down c d F p all.1)

  pub greatest_prefix : (F : Pairs k.Ideal) → AllPrefixed k (greatest k F) F
  greatest_prefix [] = tt
  greatest_prefix (p ∷ []) = (prefix_refl p.1, tt)
  greatest_prefix (p ∷ q ∷ F) = (
    laws.common_of_left p.1 (greatest k (q ∷ F)),
    all_prefixed_down _ (greatest k (q ∷ F)) (q ∷ F) (laws.common_of_right p.1 (greatest k (q ∷ F))) (greatest_prefix (q ∷ F)),
  )

  rests_shift : (x c : k.Ideal) (F : Pairs k.Ideal) → AllPrefixed k c F → rests k (k.join x c) (shift k x F) ≡ rests k c F
  rests_shift x c [] all = refl
  rests_shift x c (p ∷ F) all = ap₂ {C = Pairs k.Ideal} (λ r l. (p.0, r) ∷ l) (rest_under x c p.1 all.0) (rests_shift x c F all.1)

  -- what is left after the greatest common prefix is the same with x in front
  pub left_shift : (x : k.Ideal) (F : Pairs k.Ideal) → rests k (greatest k (shift k x F)) (shift k x F) ≡ rests k (greatest k F) F
  left_shift x [] = refl
  left_shift x (p ∷ F) =
      ap (λ c. rests k c (shift k x (p ∷ F))) (greatest_shift x p F) ∙ rests_shift x (greatest k (p ∷ F)) (p ∷ F) (greatest_prefix (p ∷ F))

  -- the outputs that begin with x are their rests with x in front
  pub shift_rests : (x : k.Ideal) (Q : Pairs k.Ideal) → AllPrefixed k x Q → shift k x (rests k x Q) ≡ Q
  shift_rests x [] all = refl
  shift_rests x (p ∷ Q) all = ap₂ {C = Pairs k.Ideal} (λ r l. (p.0, r) ∷ l) (rest_joined x p.1 all.0) (shift_rests x Q all.1)
