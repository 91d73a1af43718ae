-- The greatest common output under a prefix, what is left of the outputs behind it, and which prefixes are alike. Assumes nothing.
use Rattle.std.specs.Prelude.{ℕ, suc, Bool, true, false, ◌&&◌, ◌||◌, List, [], ◌∷◌}
use Rattle.outputs.specs.Kinds.{Kind, same}
use Rattle.machines.specs.Keys.{Key, same_key}
use Rattle.machines.specs.Pairs.{Pairs, under, key_prefixes}

module _ (k : Kind) where
  -- the greatest common prefix of the outputs of some pairs
  abbrev pub greatest : Pairs k.Ideal → k.Ideal
  greatest [] = k.empty
  greatest (p ∷ []) = p.1
  greatest (p ∷ q ∷ P) = k.common p.1 (greatest (q ∷ P))

  -- the greatest common output under a prefix
  abbrev pub greatest_common : Pairs k.Ideal → Key → k.Ideal
  greatest_common P u = greatest (under P u)

  -- what follows c in each output
  abbrev pub rests : k.Ideal → Pairs k.Ideal → Pairs k.Ideal
  rests c [] = []
  rests c (p ∷ P) = (p.0, k.rest c p.1) ∷ rests c P

  -- the residual of a prefix: how the keys go on behind it, each with what follows the greatest common output
  abbrev pub residual : Pairs k.Ideal → Key → Pairs k.Ideal
  residual P u = rests (greatest_common P u) (under P u)

  -- equal keys with equal outputs, one after another
  abbrev pub same_pairs : Pairs k.Ideal → Pairs k.Ideal → Bool
  same_pairs [] [] = true
  same_pairs [] (q ∷ Q) = false
  same_pairs (p ∷ P) [] = false
  same_pairs (p ∷ P) (q ∷ Q) = same_key p.0 q.0 && same k p.1 q.1 && same_pairs P Q

  -- prefixes with equal residuals are alike and form a class
  abbrev pub alike : Pairs k.Ideal → Key → Key → Bool
  alike P u v = same_pairs (residual P u) (residual P v)

  -- u is alike to one of a list
  abbrev pub any_alike : Pairs k.Ideal → Key → List Key → Bool
  any_alike P u [] = false
  any_alike P u (v ∷ vs) = alike P u v || any_alike P u vs

  -- of a list of prefixes, those to which none in front and none of `seen` is alike
  abbrev pub firsts_after : Pairs k.Ideal → List Key → List Key → List Key
  firsts_after P seen [] = []
  firsts_after P seen (u ∷ us) = elim (any_alike P u seen) [ true ↦ firsts_after P seen us | false ↦ u ∷ firsts_after P (u ∷ seen) us ]

  -- the first prefix of each class, in postorder
  abbrev pub first_prefixes : Pairs k.Ideal → List Key
  first_prefixes P = firsts_after P [] (key_prefixes P)

  -- the place of the first of some prefixes that is alike to u
  abbrev pub class_in : Pairs k.Ideal → List Key → Key → ℕ
  class_in P [] u = 0
  class_in P (v ∷ vs) u = elim (alike P u v) [ true ↦ 0 | false ↦ suc (class_in P vs u) ]

  -- the number of the class of a prefix
  abbrev pub class_number : Pairs k.Ideal → Key → ℕ
  class_number P u = class_in P (first_prefixes P) u
