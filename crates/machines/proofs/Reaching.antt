-- What the minimal machine has put out after each string, and how far any transducer can be by then. Assumes ascending keys of bytes and storable outputs.
use Rattle.std.proofs.Common.{◌≡◌, ℕ, ◌<◌, Bool, true, false, List, [], ◌∷◌, ◌++◌, length, sym, refl, ap, ◌∙◌, inl, inr, arith}
use mathlib.Core.Option.{Option, none, some}
use Rattle.outputs.specs.Kinds.{Kind, Laws}
use Rattle.machines.specs.Lists.{at}
use Rattle.machines.specs.Keys.{Key}
use Rattle.machines.specs.Machines.{Arc, State, Machine, arc_at, reach_from, reach}
use Rattle.machines.specs.Pairs.{Pairs, under, KeyPrefix, Ascending, ByteKeys, AllStorable}
use Rattle.machines.specs.Residuals.{greatest_common, first_prefixes, class_in}
use Rattle.machines.specs.Minimal.{minimal}
use Rattle.machines.specs.Realizing.{Realizes, IsGreatestCommon, NotBeyond}
use Rattle.machines.specs.Asked.{Told, gives, absent, unstorable, and_tell, joined, walk_from, so_far, walk}
use Rattle.machines.proofs.Order.{head_found}
use Rattle.machines.proofs.PrefixLaws.{greatest_prefix}
use Rattle.machines.proofs.Under.{under_found, ascending_under, all_from, prefix_some}
use Rattle.machines.proofs.CommonOutputs.{found_prefixed, greatest_found}
use Rattle.machines.proofs.ByteStrings.{bytes_behind, found_bytes}
use Rattle.machines.proofs.OneState.{found_on}
use Rattle.machines.proofs.Fewest.{reached}
use Rattle.machines.proofs.Walks.{Came, came}

pub empty_prefix : {A : Type 0} (P : Pairs A) → 0 < length P → KeyPrefix P []
empty_prefix [] h = absurd (omega arith)
empty_prefix (p ∷ P) h = (p.0, p.1, head_found p P)

module _ (k : Kind) where
  -- a walk tells where a machine comes to
  reach_told : (states : List (State k.Ideal)) (w : Key) (q : ℕ) (x : k.Ideal) (s : ℕ × k.Ideal) → walk_from k states q x w ≡ gives s → reach_from k states q x w ≡ some s
  reach_told states [] q x s e = let o : ◌≡◌ {A = ℕ × k.Ideal} (q, x) s = cc in ap {B = Option (ℕ × k.Ideal)} some o
  reach_told states (a ∷ w) q x s e = go (arc_at (at states q) a) e (λ t y. reach_told states w t y s)
    where
      go : (o : Option (Arc k.Ideal))
          → ◌≡◌ {A = Told (ℕ × k.Ideal)} (elim o [ none ↦ absent | some arc ↦ and_tell (joined k x arc.output) (λ y. walk_from k states arc.target y w) ]) (gives s)
          → ((t : ℕ) (y : k.Ideal) → walk_from k states t y w ≡ gives s → reach_from k states t y w ≡ some s)
          → ◌≡◌ {A = Option (ℕ × k.Ideal)} (elim o [ none ↦ none | some arc ↦ reach_from k states arc.target (k.join x arc.output) w ]) (some s)
      go none f deep = let o : ◌≡◌ {A = ℕ} 0 1 = cc in absurd (omega arith)
      go (some arc) f deep = by (k.storable (k.join x arc.output)) f
        where
          by : (t : Bool) → and_tell (elim t as (λ v. Told k.Ideal) [ true ↦ gives (k.join x arc.output) | false ↦ unstorable ]) (λ y. walk_from k states arc.target y w) ≡ gives s
              → reach_from k states arc.target (k.join x arc.output) w ≡ some s
          by true g = deep arc.target (k.join x arc.output) g
          by false g = let o : ◌≡◌ {A = ℕ} 0 1 = cc in absurd (omega arith)

  reach_absent : (states : List (State k.Ideal)) (w : Key) (q : ℕ) (x : k.Ideal) → walk_from k states q x w ≡ absent → reach_from k states q x w ≡ none
  reach_absent states [] q x e = let o : ◌≡◌ {A = ℕ} 0 1 = cc in absurd (omega arith)
  reach_absent states (a ∷ w) q x e = go (arc_at (at states q) a) e (λ t y. reach_absent states w t y)
    where
      go : (o : Option (Arc k.Ideal))
          → ◌≡◌ {A = Told (ℕ × k.Ideal)} (elim o [ none ↦ absent | some arc ↦ and_tell (joined k x arc.output) (λ y. walk_from k states arc.target y w) ]) absent
          → ((t : ℕ) (y : k.Ideal) → walk_from k states t y w ≡ absent → reach_from k states t y w ≡ none)
          → ◌≡◌ {A = Option (ℕ × k.Ideal)} (elim o [ none ↦ none | some arc ↦ reach_from k states arc.target (k.join x arc.output) w ]) none
      go none f deep = refl
      go (some arc) f deep = by (k.storable (k.join x arc.output)) f
        where
          by : (t : Bool) → and_tell (elim t as (λ v. Told k.Ideal) [ true ↦ gives (k.join x arc.output) | false ↦ unstorable ]) (λ y. walk_from k states arc.target y w) ≡ absent
              → reach_from k states arc.target (k.join x arc.output) w ≡ none
          by true g = deep arc.target (k.join x arc.output) g
          by false g = let o : ◌≡◌ {A = ℕ} 0 1 = cc in absurd (omega arith)

module _ (k : Kind) (laws : Laws k) (P : Pairs k.Ideal) (ascending : Ascending P) where
  -- the greatest common output under a prefix is what its name says
  pub is_greatest_common : (u : Key) → KeyPrefix P u → IsGreatestCommon k P u (greatest_common k P u)
  is_greatest_common u s = record {
    common = λ w z e. found_prefixed k laws (greatest_common k P u) (under P u) w z (greatest_prefix laws (under P u)) (under_found P u w ∙ e);
    greatest = λ b all.
        greatest_found k laws b (under P u) s.0 s.1 (under_found P u s.0 ∙ s.2)
        (all_from k laws b (under P u) (ascending_under P u ascending) (λ w z e. all w z (sym (under_found P u w) ∙ e)));
  }

  -- what a transducer has put out after u is a prefix of it
  pub earliest : ByteKeys P → (m : Machine k.Ideal) → Realizes k P m → (u : Key) → KeyPrefix P u → NotBeyond k m u (greatest_common k P u)
  earliest bytes m realizes u s =
      let r = reached k laws P ascending bytes m realizes u s in (
        r.place,
        r.put_out,
        r.leads,
        (is_greatest_common u s).greatest r.put_out
            (λ w z e. prefix_some k laws r.put_out z _
            (sym (found_on k laws P ascending bytes m realizes u r.of_bytes r.place r.put_out r.leads w
            (sym (bytes_behind u w r.of_bytes) ∙ found_bytes P (u ++ w) z bytes e)) ∙ under_found P u w ∙ e)),
      )

  module _ (storable : AllStorable k P) (nonempty : KeyPrefix P []) where
    pub reach_prefix : (u : Key) → KeyPrefix P u → (q : ℕ) × (reach k (minimal k P) u ≡ some (q, greatest_common k P u))
    reach_prefix u s = go (came k laws P ascending storable nonempty u)
      where
        go : Came k laws P ascending storable (walk k (minimal k P) u) u → (q : ℕ) × (reach k (minimal k P) u ≡ some (q, greatest_common k P u))
        go (inl c) = (class_in k P (first_prefixes k P) c.0, reach_told k (minimal k P).states u _ _ _ c.4)
        go (inr c) = let n = c.1 s.0 in let y = s.2 in let o : ◌≡◌ {A = ℕ} 0 1 = cc in absurd (omega arith)

    absent_walk : (u : Key) → (KeyPrefix P u → ⊥) → walk k (minimal k P) u ≡ absent
    absent_walk u n = go (came k laws P ascending storable nonempty u)
      where
        go : Came k laws P ascending storable (walk k (minimal k P) u) u → walk k (minimal k P) u ≡ absent
        go (inl c) = absurd (n c.2)
        go (inr c) = c.0

    pub reach_nowhere : (u : Key) → (KeyPrefix P u → ⊥) → reach k (minimal k P) u ≡ none
    reach_nowhere u n = reach_absent k (minimal k P).states u _ _ (absent_walk u n)

    pub so_far_nowhere : (u : Key) → (KeyPrefix P u → ⊥) → so_far k (minimal k P) u ≡ absent
    unfolding so_far
    so_far_nowhere u n = ap (λ t. and_tell t (λ s. gives s.1)) (absent_walk u n)
