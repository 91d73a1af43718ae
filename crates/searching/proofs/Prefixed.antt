-- An output is a prefix of another exactly if it is what both have in common, and then has a rest. Assumes the laws of a kind.
use Rattle.std.proofs.Common.{◌≡◌, Bool, is_some, IfSome, Some, None, Option, sym, ap, ◌∙◌, subst}
use Rattle.outputs.specs.Kinds.{Kind, Laws, PrefixOf}
use Rattle.outputs.specs.Joins.{Tells}
use Rattle.machines.proofs.PrefixLaws.{prefix_refl, prefix_antisym, rest_joined}
use Rattle.searching.specs.Searches.{Left}

module _ {k : Kind} (laws : Laws k) where
  pub prefix_if_common : (x z : k.Ideal) → k.common x z ≡ x → PrefixOf k x z
  prefix_if_common x z e = subst (λ y. PrefixOf k y z) e (laws.common_of_right x z)

  pub common_if_prefix : (x z : k.Ideal) → PrefixOf k x z → k.common x z ≡ x
  common_if_prefix x z p = prefix_antisym laws (k.common x z) x (laws.common_of_left x z) (laws.common_greatest x z x (prefix_refl laws x) p)

  -- the rest, where a test has told that there is one
  pub left_told : {O : Type 0} (meaning : O → k.Ideal) (x z : k.Ideal) (t : Bool) (r : Option O) (Given : O → Type 0) → Tells (k.common x z) x t → is_some r ≡ t → IfSome r Given → ((y : O) → Given y → meaning y ≡ k.rest x z) → Left k meaning x z r
  left_told meaning x z t None Given tells e h rest = λ p. tells.different (sym e) (common_if_prefix x z p)
  left_told meaning x z t (Some y) Given tells e h rest = ap (k.join x) (rest y h) ∙ rest_joined laws x z (prefix_if_common x z (tells.equal (sym e)))
