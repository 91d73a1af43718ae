-- Storable outputs are told apart by their codes, and the greatest common output is a prefix of all and the greatest such. Assumes the laws of a kind.
use Rattle.std.proofs.Common.{◌≡◌, ℕ, Bool, true, false, ◌&&◌, List, [], ◌∷◌, ◌++◌, sym, refl, ap, ◌∙◌, subst, ap₂, arith}
use mathlib.Core.Option.{Option, none, some}
use borrow.Author.Tests.{both_ways}
use Rattle.std.proofs.lemmas.Bool.{and_parts}
use Rattle.outputs.specs.Kinds.{Kind, Laws, PrefixOf, got, same}
use Rattle.outputs.specs.Bits.{same_bits}
use Rattle.machines.specs.Keys.{Key, same_key, past}
use Rattle.machines.specs.Machines.{join_some}
use Rattle.machines.specs.Pairs.{Pairs, output_of, under, AllStorable}
use Rattle.machines.specs.Residuals.{greatest, rests, same_pairs}
use Rattle.machines.specs.Minimal.{rest_some}
use Rattle.machines.proofs.Order.{same_key_true}
use Rattle.machines.proofs.PrefixLaws.{AllPrefixed, prefix_trans, rest_joined}

pub same_bits_true : (b c : List Bool) → same_bits b c ≡ true → b ≡ c
same_bits_true [] [] e = refl
same_bits_true [] (c ∷ cs) e = absurd (both_ways false refl e)
same_bits_true (b ∷ bs) [] e = absurd (both_ways false refl (wrong b e))
  where
    wrong : (b : Bool) → same_bits (b ∷ bs) [] ≡ true → false ≡ true
    wrong b f = f
same_bits_true (true ∷ bs) (true ∷ cs) e = ap {B = List Bool} (λ l. true ∷ l) (same_bits_true bs cs e)
same_bits_true (true ∷ bs) (false ∷ cs) e = absurd (both_ways false refl e)
same_bits_true (false ∷ bs) (true ∷ cs) e = absurd (both_ways false refl e)
same_bits_true (false ∷ bs) (false ∷ cs) e = ap {B = List Bool} (λ l. false ∷ l) (same_bits_true bs cs e)

module _ (k : Kind) (laws : Laws k) where
  pub code_injective : (x y : k.Ideal) → k.storable x ≡ true → k.storable y ≡ true → k.code x ≡ k.code y → x ≡ y
  code_injective x y sx sy e =
      let g : got x [] ≡ got y [] = sym (laws.read_code x sx []) ∙ ap (λ c. k.read (c ++ [])) e ∙ laws.read_code y sy [] in cc

  pub same_pairs_true : (F G : Pairs k.Ideal) → AllStorable k F → AllStorable k G → same_pairs k F G ≡ true → F ≡ G
  same_pairs_true [] [] sf sg e = refl
  same_pairs_true [] (q ∷ G) sf sg e = absurd (both_ways false refl e)
  same_pairs_true (p ∷ F) [] sf sg e = absurd (both_ways false refl e)
  same_pairs_true (p ∷ F) (q ∷ G) sf sg e =
      let h = and_parts (same_key p.0 q.0 && same k p.1 q.1) (same_pairs k F G) e in
      let i = and_parts (same_key p.0 q.0) (same k p.1 q.1) h.0 in
      let w = same_key_true p.0 q.0 i.0 in
      let x = code_injective p.1 q.1 sf.0 sg.0 (same_bits_true (k.code p.1) (k.code q.1) i.1) in
      ap₂ {C = Pairs k.Ideal} (λ r l. r ∷ l) (λ j. (w j, x j)) (same_pairs_true F G sf.1 sg.1 h.1)

  pub storable_under : (P : Pairs k.Ideal) (u : Key) → AllStorable k P → AllStorable k (under P u)
  storable_under [] u s = tt
  storable_under (p ∷ P) u s = go (past u p.0) (storable_under P u s.1)
    where
      go : (o : Option Key) → AllStorable k (under P u) → AllStorable k (elim o [ none ↦ under P u | some w ↦ (w, p.1) ∷ under P u ])
      go none deep = deep
      go (some w) deep = (s.0, deep)

  pub storable_rests : (c : k.Ideal) (Q : Pairs k.Ideal) → AllPrefixed k c Q → AllStorable k Q → AllStorable k (rests k c Q)
  storable_rests c [] b s = tt
  storable_rests c (q ∷ Q) b s =
      ((laws.parts_storable c (k.rest c q.1) (subst (λ z. k.storable z ≡ true) (sym (rest_joined laws c q.1 b.0)) s.0)).1, storable_rests c Q b.1 s.1)

  pub found_prefixed : (c : k.Ideal) (Q : Pairs k.Ideal) (w : Key) (z : k.Ideal) → AllPrefixed k c Q → output_of Q w ≡ some z → PrefixOf k c z
  found_prefixed c [] w z all e = let o : ◌≡◌ {A = ℕ} 0 1 = cc in absurd (omega arith)
  found_prefixed c (q ∷ Q) w z all e = go (same_key q.0 w) e (found_prefixed c Q w z all.1)
    where
      go : (t : Bool) → ◌≡◌ {A = Option k.Ideal} (elim t [ true ↦ some q.1 | false ↦ output_of Q w ]) (some z) → (output_of Q w ≡ some z → PrefixOf k c z) → PrefixOf k c z
      go true f deep = let o : q.1 ≡ z = cc in subst (PrefixOf k c) o all.0
      go false f deep = deep f

  pub greatest_greatest : (c : k.Ideal) (q : Key × k.Ideal) (Q : Pairs k.Ideal) → AllPrefixed k c (q ∷ Q) → PrefixOf k c (greatest k (q ∷ Q))
  greatest_greatest c q [] all = all.0
  greatest_greatest c q (r ∷ Q) all = laws.common_greatest q.1 (greatest k (r ∷ Q)) c all.0 (greatest_greatest c r Q all.1)

  -- the same of a list in which something is found
  pub greatest_found : (c : k.Ideal) (Q : Pairs k.Ideal) (w : Key) (z : k.Ideal) → output_of Q w ≡ some z → AllPrefixed k c Q → PrefixOf k c (greatest k Q)
  greatest_found c [] w z e all = let o : ◌≡◌ {A = ℕ} 0 1 = cc in absurd (omega arith)
  greatest_found c (q ∷ Q) w z e all = greatest_greatest c q Q all

  -- a rest taken in two steps
  pub rest_steps : (c d : k.Ideal) (o : Option k.Ideal) → PrefixOf k c d → ((z : k.Ideal) → o ≡ some z → PrefixOf k d z) → join_some k (k.rest c d) (rest_some k d o) ≡ rest_some k c o
  rest_steps c d none b f = refl
  rest_steps c d (some z) b f =
      let joined : k.join c (k.join (k.rest c d) (k.rest d z)) ≡ z = sym (laws.associative c (k.rest c d) (k.rest d z)) ∙ ap (λ t. k.join t (k.rest d z)) (rest_joined laws c d b) ∙ rest_joined laws d z (f z refl) in
      ap {B = Option k.Ideal} some (laws.left_cancel c _ _ (joined ∙ sym (rest_joined laws c z (prefix_trans laws c d z b (f z refl)))))

  pub join_rest_some : (c : k.Ideal) (o : Option k.Ideal) → ((z : k.Ideal) → o ≡ some z → PrefixOf k c z) → join_some k c (rest_some k c o) ≡ o
  join_rest_some c none f = refl
  join_rest_some c (some z) f = ap {B = Option k.Ideal} some (rest_joined laws c z (f z refl))
