-- Greatest common outputs and rests: what one pair more changes. Assumes the laws of a kind.
use Rattle.std.proofs.Common.{◌≡◌, ℕ, [], ◌∷◌, ◌++◌, sym, refl, ap, ◌∙◌, ap₂, arith}
use mathlib.Core.Option.{none, some}
use Rattle.outputs.specs.Kinds.{Kind, Laws, PrefixOf}
use Rattle.machines.specs.Keys.{Key, past}
use Rattle.machines.specs.Pairs.{Pairs, output_of, under, KeyPrefix}
use Rattle.machines.specs.Residuals.{greatest, greatest_common, rests, residual}
use Rattle.machines.proofs.Under.{under_found}
use Rattle.machines.proofs.PrefixLaws.{prefix_trans, prefix_antisym, common_under, rest_joined}
use Rattle.machines.proofs.OneMore.{under_end_none, under_end_some}

module _ {k : Kind} (laws : Laws k) where
  common_associative : (x y z : k.Ideal) → k.common x (k.common y z) ≡ k.common (k.common x y) z
  common_associative x y z =
      let l : k.Ideal = k.common x (k.common y z) in
      let r : k.Ideal = k.common (k.common x y) z in
      let lx : PrefixOf k l x = laws.common_of_left x (k.common y z) in
      let lyz : PrefixOf k l (k.common y z) = laws.common_of_right x (k.common y z) in
      let rxy : PrefixOf k r (k.common x y) = laws.common_of_left (k.common x y) z in
      let rz : PrefixOf k r z = laws.common_of_right (k.common x y) z in
      prefix_antisym laws l r
      (laws.common_greatest (k.common x y) z l (laws.common_greatest x y l lx (prefix_trans laws l (k.common y z) y lyz (laws.common_of_left y z))) (prefix_trans laws l (k.common y z) z lyz (laws.common_of_right y z)))
      (laws.common_greatest x (k.common y z) r (prefix_trans laws r (k.common x y) x rxy (laws.common_of_left x y)) (laws.common_greatest y z r (prefix_trans laws r (k.common x y) y rxy (laws.common_of_right x y)) rz))

  greatest_push : (q : Key × k.Ideal) (Q : Pairs k.Ideal) (p : Key × k.Ideal) → greatest k ((q ∷ Q) ++ (p ∷ [])) ≡ k.common (greatest k (q ∷ Q)) p.1
  greatest_push q [] p = refl
  greatest_push q (r ∷ Q) p = ap (k.common q.1) (greatest_push r Q p) ∙ common_associative q.1 (greatest k (r ∷ Q)) p.1

  greatest_found_push : (Q : Pairs k.Ideal) (w : Key) (z : k.Ideal) (p : Key × k.Ideal) → output_of Q w ≡ some z → greatest k (Q ++ (p ∷ [])) ≡ k.common (greatest k Q) p.1
  greatest_found_push [] w z p e = let o : ◌≡◌ {A = ℕ} 0 1 = cc in absurd (omega arith)
  greatest_found_push (q ∷ Q) w z p e = greatest_push q Q p

  -- under a prefix of the new key, what was common is cut to what it shares with the new output
  pub common_more : (P : Pairs k.Ideal) (e : Key × k.Ideal) (u t : Key) → past u e.0 ≡ some t → KeyPrefix P u → greatest_common k (P ++ (e ∷ [])) u ≡ k.common (greatest_common k P u) e.1
  common_more P e u t h s = ap (greatest k) (under_end_some P e u t h) ∙ greatest_found_push (under P u) s.0 s.1 (t, e.1) (under_found P u s.0 ∙ s.2)

  -- a rest in two steps, a rest of rests, and what rests have in common
  pub rest_on : (a b c : k.Ideal) → PrefixOf k a b → PrefixOf k b c → k.join (k.rest a b) (k.rest b c) ≡ k.rest a c
  rest_on a b c p q =
      laws.left_cancel a _ _ (sym (laws.associative a (k.rest a b) (k.rest b c)) ∙ ap (λ t. k.join t (k.rest b c)) (rest_joined laws a b p)
      ∙ rest_joined laws b c q ∙ sym (rest_joined laws a c (prefix_trans laws a b c p q)))

  pub rest_past : (a b c : k.Ideal) → PrefixOf k a b → PrefixOf k b c → k.rest (k.rest a b) (k.rest a c) ≡ k.rest b c
  rest_past a b c p q = ap (k.rest (k.rest a b)) (sym (rest_on a b c p q)) ∙ laws.rest_of_join (k.rest a b) (k.rest b c)

  pub common_rest : (a b c : k.Ideal) → PrefixOf k a b → PrefixOf k a c → k.common (k.rest a b) (k.rest a c) ≡ k.rest a (k.common b c)
  common_rest a b c p q =
      sym (laws.rest_of_join a (k.common (k.rest a b) (k.rest a c)))
      ∙ ap (k.rest a) (sym (common_under laws a (k.rest a b) (k.rest a c)) ∙ ap₂ k.common (rest_joined laws a b p) (rest_joined laws a c q))

  pub rest_self : (a : k.Ideal) → k.rest a a ≡ k.empty
  rest_self a = ap (k.rest a) (sym (laws.neutral_right a)) ∙ laws.rest_of_join a k.empty

module _ (k : Kind) (P : Pairs k.Ideal) (e : Key × k.Ideal) where
  -- a string that does not begin the new key keeps its common output and its residual
  pub common_other : (u : Key) → past u e.0 ≡ none → greatest_common k (P ++ (e ∷ [])) u ≡ greatest_common k P u
  common_other u h = ap (greatest k) (under_end_none P e u h)

  pub residual_other : (u : Key) → past u e.0 ≡ none → residual k P u ≡ residual k (P ++ (e ∷ [])) u
  residual_other u h = ap (λ Q. rests k (greatest k Q) Q) (sym (under_end_none P e u h))
