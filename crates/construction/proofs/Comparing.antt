-- Comparing records: storable ones compare as equal exactly if they are, and closing keeps the closed states different. Assumes the laws of a kind.
use Rattle.std.proofs.Common.{◌≡◌, true, false, ◌&&◌, eqb, List, [], ◌∷◌, refl, ap, ap₂, eq-eqb, eqb-true}
use mathlib.Core.Option.{Option, none, some}
use borrow.Author.Tests.{both_ways}
use Rattle.std.proofs.lemmas.Bool.{and_parts, and_from}
use Rattle.outputs.specs.Kinds.{Kind, Laws, same}
use Rattle.machines.specs.Lists.{Each}
use Rattle.machines.specs.Machines.{Arc, State}
use Rattle.machines.proofs.Classes.{same_bits_refl}
use Rattle.machines.proofs.CommonOutputs.{same_bits_true, code_injective}
use Rattle.construction.specs.Records.{same_end, same_arcs, same_state}
use Rattle.machines.specs.Storing.{EndStorable, StateStorable}

module _ (k : Kind) where
  -- what is equal compares as equal
  pub same_self : (x : k.Ideal) → same k x x ≡ true
  same_self x = same_bits_refl (k.code x)

  same_end_self : (o : Option k.Ideal) → same_end k o o ≡ true
  same_end_self none = refl
  same_end_self (some x) = same_self x

  same_arcs_self : (arcs : List (Arc k.Ideal)) → same_arcs k arcs arcs ≡ true
  same_arcs_self [] = refl
  same_arcs_self (a ∷ arcs) =
      and_from (eqb a.byte a.byte && eqb a.target a.target && same k a.output a.output) (same_arcs k arcs arcs)
      (and_from (eqb a.byte a.byte && eqb a.target a.target) (same k a.output a.output)
      (and_from (eqb a.byte a.byte) (eqb a.target a.target) (eq-eqb a.byte a.byte refl) (eq-eqb a.target a.target refl)) (same_self a.output))
      (same_arcs_self arcs)

  pub same_state_self : (s : State k.Ideal) → same_state k s s ≡ true
  same_state_self s = and_from (same_end k s.end s.end) (same_arcs k s.arcs s.arcs) (same_end_self s.end) (same_arcs_self s.arcs)

module _ (k : Kind) (laws : Laws k) where
  -- what is storable and compares as equal is equal
  pub same_equal : (x y : k.Ideal) → k.storable x ≡ true → k.storable y ≡ true → same k x y ≡ true → x ≡ y
  same_equal x y sx sy e = code_injective k laws x y sx sy (same_bits_true (k.code x) (k.code y) e)

  same_end_equal : (x y : Option k.Ideal) → EndStorable k x → EndStorable k y → same_end k x y ≡ true → x ≡ y
  same_end_equal none none sx sy e = refl
  same_end_equal none (some y) sx sy e = absurd (both_ways false refl e)
  same_end_equal (some x) none sx sy e = absurd (both_ways false refl e)
  same_end_equal (some x) (some y) sx sy e = ap {B = Option k.Ideal} some (same_equal x y sx sy e)

  arc_equal : (a b : Arc k.Ideal) → a.byte ≡ b.byte → a.target ≡ b.target → a.output ≡ b.output → a ≡ b
  arc_equal a b p q r = λ i. record { byte = p i; target = q i; output = r i }

  same_arcs_equal : (as' bs : List (Arc k.Ideal)) → Each (λ arc. k.storable arc.output ≡ true) as' → Each (λ arc. k.storable arc.output ≡ true) bs → same_arcs k as' bs ≡ true → as' ≡ bs
  same_arcs_equal [] [] sa sb e = refl
  same_arcs_equal [] (b ∷ bs) sa sb e = absurd (both_ways false refl e)
  same_arcs_equal (a ∷ as') [] sa sb e = absurd (both_ways false refl e)
  same_arcs_equal (a ∷ as') (b ∷ bs) sa sb e =
      let h = and_parts (eqb a.byte b.byte && eqb a.target b.target && same k a.output b.output) (same_arcs k as' bs) e in
      let i = and_parts (eqb a.byte b.byte && eqb a.target b.target) (same k a.output b.output) h.0 in
      let j = and_parts (eqb a.byte b.byte) (eqb a.target b.target) i.0 in
      ap₂ {C = List (Arc k.Ideal)} (λ c cs. c ∷ cs)
      (arc_equal a b (eqb-true a.byte b.byte j.0) (eqb-true a.target b.target j.1) (same_equal a.output b.output sa.0 sb.0 i.1))
      (same_arcs_equal as' bs sa.1 sb.1 h.1)

  pub same_state_equal : (s t : State k.Ideal) → StateStorable k s → StateStorable k t → same_state k s t ≡ true → s ≡ t
  same_state_equal s t hs ht e =
      let h = and_parts (same_end k s.end t.end) (same_arcs k s.arcs t.arcs) e in
      let p = same_end_equal s.end t.end hs.0 ht.0 h.0 in
      let q = same_arcs_equal s.arcs t.arcs hs.1 ht.1 h.1 in
      λ i. record { end = p i; arcs = q i }
