-- The arcs of what is held: rising bytes, and targets that are closed. Assumes ascending keys of bytes and storable outputs.
use Rattle.std.proofs.Common.{◌≡◌, ℕ, suc, ◌+◌, ◌<◌, ◌≤◌, Bool, true, false, ◌||◌, ltb, List, [], ◌∷◌, ◌++◌, length, sym, refl, ap, ◌∙◌, subst, append_assoc, append-nil, arith, length-append, ltb-true}
use mathlib.Core.Option.{none, some}
use borrow.Author.Tests.{both_ways}
use Rattle.std.proofs.lemmas.Bool.{and_parts}
use Rattle.outputs.specs.Kinds.{Kind, Laws}
use Rattle.machines.specs.Lists.{Each}
use Rattle.machines.specs.Keys.{Key, past}
use Rattle.machines.specs.Machines.{Arc}
use Rattle.machines.specs.Pairs.{Pairs, output_of, under, first_bytes, KeyPrefix, Ascending, ByteKeys, AllStorable}
use Rattle.machines.specs.Memory.{newest, held_classes}
use Rattle.machines.specs.Residuals.{alike, any_alike, class_in}
use Rattle.machines.specs.Minimal.{arcs_of}
use Rattle.machines.specs.Numbering.{Rising}
use Rattle.machines.proofs.Lists.{In, each_of}
use Rattle.machines.proofs.FirstBytes.{Over, RisingBytes, rising_bytes}
use Rattle.machines.proofs.ByteStrings.{bytes_behind, prefix_bytes}
use Rattle.machines.proofs.Under.{ascending_under}
use Rattle.machines.proofs.Targets.{each_arc, next_prefix, rising_arcs}
use Rattle.construction.specs.Steps.{aim_last}
use Rattle.construction.specs.Theorems.{ArcsSound, OthersBelow, OpenBelow}
use Rattle.construction.proofs.ClosedPrefixes.{past_same}
use Rattle.construction.proofs.Expected.{first_record, next_records, arc_to}
use Rattle.construction.proofs.Settling.{leading_is, split_bytes}
use Rattle.construction.proofs.ClosedStates.{holds_closed}
use Rattle.construction.proofs.HeldStates.{length_aim, length_arcs}

-- rising numbers below n have room below n
room : (n a : ℕ) (bs : List ℕ) → a < n → Over a bs → RisingBytes bs → Each (λ b. b < n) bs → a + length bs < n
room n a [] l o r h = omega arith
room n a (b ∷ bs) l o r h = omega (arith, o.0, room n b bs h.0 r.0 r.1 h.1)

few_bytes : (n : ℕ) (bs : List ℕ) → RisingBytes bs → Each (λ b. b < n) bs → length bs ≤ n
few_bytes n [] r h = omega arith
few_bytes n (b ∷ bs) r h = omega (arith, room n b bs h.0 r.0 r.1 h.1)

module _ {A : Type 0} where
  aim_each : (Q : ℕ → Type 0) (q : ℕ) (arcs : List (Arc A)) → Each (λ arc. Q arc.byte) arcs → Each (λ arc. Q arc.byte) (aim_last q arcs)
  aim_each Q q [] h = tt
  aim_each Q q (arc ∷ []) h = h
  aim_each Q q (arc ∷ next ∷ arcs) h = (h.0, aim_each Q q (next ∷ arcs) h.1)

  aim_rising : (q : ℕ) (arcs : List (Arc A)) → Rising arcs → Rising (aim_last q arcs)
  aim_rising q [] h = tt
  aim_rising q (arc ∷ []) h = h
  aim_rising q (arc ∷ next ∷ arcs) h = (aim_each (λ b. arc.byte < b) q (next ∷ arcs) h.0, aim_rising q (next ∷ arcs) h.1)

  -- another target keeps the bytes
  pub aim_sound : (q : ℕ) (arcs : List (Arc A)) → ArcsSound arcs → ArcsSound (aim_last q arcs)
  aim_sound q arcs h = record {
    rising = aim_rising q arcs h.rising;
    bytes = aim_each (λ b. b < 256) q arcs h.bytes;
    few = subst (λ n. n ≤ 256) (sym (length_aim q arcs)) h.few;
  }

  others_push : (n : ℕ) (arcs : List (Arc A)) (arc : Arc A) → Each (λ x. x.target < n) arcs → OthersBelow n (arcs ++ (arc ∷ []))
  others_push n [] arc h = tt
  others_push n (b ∷ []) arc h = (h.0, tt)
  others_push n (b ∷ c ∷ arcs) arc h = (h.0, others_push n (c ∷ arcs) arc h.1)

module _ (k : Kind) (P : Pairs k.Ideal) where
  class_small : (u : Key) (cs : List Key) → any_alike k P u cs ≡ true → class_in k P cs u < length cs
  class_small u [] e = absurd (both_ways false refl e)
  class_small u (c ∷ cs) e = go (alike k P u c) e (class_small u cs)
    where
      go : (t : Bool) → (t || any_alike k P u cs) ≡ true → (any_alike k P u cs ≡ true → class_in k P cs u < length cs) → elim t as (λ i. ℕ) [ true ↦ 0 | false ↦ suc (class_in k P cs u) ] < suc (length cs)
      go true f deep = omega arith
      go false f deep = let d = deep f in omega arith

module _ (k : Kind) (laws : Laws k) (P : Pairs k.Ideal) (ascending : Ascending P) where
  next_byte : ByteKeys P → (u : Key) (a : ℕ) → In a (first_bytes (under P u)) → a < 256
  next_byte bytes u a i =
      let n = next_prefix k laws P u a i in
      let b = prefix_bytes P (u ++ (a ∷ [])) bytes n in
      let one = sym (bytes_behind u (a ∷ []) (prefix_bytes P u bytes (a ∷ n.0, n.1, ap (output_of P) (sym (append_assoc u (a ∷ []) n.0)) ∙ n.2))) ∙ b in
      ltb-true a 256 (and_parts (ltb a 256) true one).0

  pub arcs_sound : ByteKeys P → (cs : List Key) (u : Key) → ArcsSound (arcs_of k P cs u (first_bytes (under P u)))
  arcs_sound bytes cs u =
      let r : RisingBytes (first_bytes (under P u)) = rising_bytes (under P u) (ascending_under P u ascending) in
      record {
        rising = rising_arcs k laws P cs u (first_bytes (under P u)) r;
        bytes = each_arc k laws P (λ arc. arc.byte < 256) cs u (first_bytes (under P u)) (next_byte bytes u);
        few = subst (λ n. n ≤ 256) (sym (length_arcs k P cs u (first_bytes (under P u)))) (few_bytes 256 (first_bytes (under P u)) r (each_of _ (first_bytes (under P u)) (next_byte bytes u)));
      }

  pub records_sound : ByteKeys P → (cs : List Key) (u s : Key) → Each (λ o. ArcsSound o.arcs) (first_record k P cs u s ∷ next_records k P cs u s)
  records_sound bytes cs u [] = (arcs_sound bytes cs u, tt)
  records_sound bytes cs u (a ∷ s) = (aim_sound 0 (arcs_of k P cs u (first_bytes (under P u))) (arcs_sound bytes cs u), records_sound bytes cs (u ++ (a ∷ [])) s)

  module _ (storable : AllStorable k P) (w : Key) (newest_is : newest P ≡ some w) where
    abbrev cs : List Key
    cs = held_classes k P

    closed_target : (u : Key) (bs : List ℕ) → Each (λ b. KeyPrefix P (u ++ (b ∷ [])) × (past (u ++ (b ∷ [])) w ≡ none)) bs → Each (λ arc. arc.target < length cs) (arcs_of k P cs u bs)
    closed_target u [] h = tt
    closed_target u (b ∷ bs) h = (class_small k P (u ++ (b ∷ [])) cs (holds_closed k laws P ascending storable w newest_is (u ++ (b ∷ [])) h.0.0 h.0.1), closed_target u bs h.1)

    -- what does not lead on is closed
    pub records_below : (u s : Key) → w ≡ u ++ s → OpenBelow (length cs) (first_record k P cs u s ∷ next_records k P cs u s)
    records_below u [] e =
        let same : w ≡ u = e ∙ append-nil u in
        closed_target u (first_bytes (under P u)) (each_of _ (first_bytes (under P u)) (λ b i. (next_prefix k laws P u b i, ap (past (u ++ (b ∷ []))) same ∙ past_same u b [])))
    records_below u (a ∷ s) e =
        let b = split_bytes k laws P ascending storable w newest_is u a s e in
        let l = leading_is k P cs u b.0 a b.1 in (
          subst (λ as'. 0 < length as') (sym l) (omega (arith, length-append (arcs_of k P cs u b.0) (arc_to k P 0 u a ∷ []))),
          subst (OthersBelow (length cs)) (sym l) (others_push (length cs) (arcs_of k P cs u b.0) (arc_to k P 0 u a) (closed_target u b.0 b.2)),
          records_below (u ++ (a ∷ [])) s (e ∙ sym (append_assoc u (a ∷ []) s)),
        )
