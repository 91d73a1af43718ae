-- The arcs of the minimal machine: by rising bytes, to lower states, and to every state but the last. Assumes ascending keys of bytes and storable outputs.
use Rattle.std.proofs.Common.{◌≡◌, ℕ, zero, suc, ◌<◌, true, eqb, ltb, ◌⊎◌, List, [], ◌∷◌, ◌++◌, map, length, sym, refl, ap, ◌∙◌, subst, inl, inr, append_assoc, arith, ltb-true, eq-eqb}
use mathlib.Core.Option.{some}
use lib.ListN.{length-map}
use Rattle.std.proofs.lemmas.Bool.{or_left, or_right, and_parts}
use Rattle.outputs.specs.Kinds.{Kind, Laws}
use Rattle.machines.specs.Lists.{at, Each}
use Rattle.machines.specs.Keys.{Key}
use Rattle.machines.specs.Machines.{Arc, State, aims, targeted}
use Rattle.machines.specs.Pairs.{Pairs, output_of, under, KeyPrefix, key_prefixes, in_front, first_bytes, Ascending, ByteKeys, AllStorable}
use Rattle.machines.specs.Residuals.{greatest, rests, residual, first_prefixes, class_number}
use Rattle.machines.specs.Minimal.{arcs_of, state_of, minimal}
use Rattle.machines.specs.Realizing.{ByteArcs}
use Rattle.machines.specs.Numbering.{Rising}
use Rattle.machines.proofs.Lists.{In, each_in, at_in, at_unmap, at_below}
use Rattle.machines.proofs.Under.{under_found, ascending_under}
use Rattle.machines.proofs.FirstBytes.{Over, RisingBytes, rising_bytes, all_head}
use Rattle.machines.proofs.Counting.{Lacks}
use Rattle.machines.proofs.Classes.{each_key_prefix, each_first}
use Rattle.machines.proofs.ByteStrings.{bytes_behind, prefix_bytes}
use Rattle.machines.proofs.Postorder.{target_below}
use Rattle.machines.proofs.Membership.{in_key_prefixes, lacks_or_in, lacks_none, in_heads}
use Rattle.machines.proofs.RightAnswers.{arc_of, class_of}
use Rattle.machines.proofs.Walks.{residual_on}
use Rattle.machines.proofs.StartLast.{first_not_empty}
use Rattle.machines.proofs.ClassNumbers.{class_residual, class_at}

-- of the states
aims_in : {A : Type 0} (q : ℕ) (arcs : List (Arc A)) (arc : Arc A) → In arc arcs → arc.target ≡ q → aims q arcs ≡ true
aims_in q [] arc i e = absurd i
aims_in q (x ∷ arcs) arc (inl f) e = or_left (eqb x.target q) (aims q arcs) (eq-eqb x.target q (ap (λ y. y.target) (sym f) ∙ e))
aims_in q (x ∷ arcs) arc (inr i) e = or_right (eqb x.target q) (aims q arcs) (aims_in q arcs arc i e)

targeted_at : {A : Type 0} (q : ℕ) (ss : List (State A)) (j : ℕ) (s : State A) → at ss j ≡ some s → aims q s.arcs ≡ true → targeted q ss ≡ true
targeted_at q [] j s e f = let o : ◌≡◌ {A = ℕ} 0 1 = cc in absurd (omega arith)
targeted_at q (x ∷ ss) zero s e f = let o : x ≡ s = cc in or_left (aims q x.arcs) (targeted q ss) (subst (λ y. aims q y.arcs ≡ true) (sym o) f)
targeted_at q (x ∷ ss) (suc j) s e f = or_right (aims q x.arcs) (targeted q ss) (targeted_at q ss j s e f)

-- a string that is not empty is one byte behind another
last_byte : (v : Key) → (v ≡ [] → ⊥) → (u : Key) × (a : ℕ) × (v ≡ u ++ (a ∷ []))
last_byte [] n = absurd (n refl)
last_byte (b ∷ []) n = ([], b, refl)
last_byte (b ∷ c ∷ v) n =
    let deep = last_byte (c ∷ v) (λ e. let o : ◌≡◌ {A = ℕ} 0 1 = cc in omega arith) in
    (b ∷ deep.0, deep.1, ap {B = Key} (λ l. b ∷ l) deep.2)

module _ (k : Kind) (laws : Laws k) (P : Pairs k.Ideal) where
  -- a state is that of the first prefix of its class, which is a prefix of a key
  pub state_first : (i : ℕ) (s : State k.Ideal) → at (minimal k P).states i ≡ some s → (v : Key) × (at (first_prefixes k P) i ≡ some v) × (state_of k P (first_prefixes k P) v ≡ s)
  state_first i s e = at_unmap (state_of k P (first_prefixes k P)) (first_prefixes k P) i s e

  pub first_is_prefix : (i : ℕ) (v : Key) → at (first_prefixes k P) i ≡ some v → KeyPrefix P v
  first_is_prefix i v e = each_in (KeyPrefix P) (first_prefixes k P) v (each_first k P (KeyPrefix P) [] (key_prefixes P) (each_key_prefix P)) (at_in (first_prefixes k P) i v e)

  pub each_arc : (Q : Arc k.Ideal → Type 0) (cs : List Key) (u : Key) (as' : List ℕ) → ((a : ℕ) → In a as' → Q (arc_of k laws P cs u a)) → Each Q (arcs_of k P cs u as')
  each_arc Q cs u [] f = tt
  each_arc Q cs u (a ∷ as') f = (f a (inl refl), each_arc Q cs u as' (λ b i. f b (inr i)))

  in_arcs : (cs : List Key) (u : Key) (a : ℕ) (as' : List ℕ) → In a as' → In (arc_of k laws P cs u a) (arcs_of k P cs u as')
  in_arcs cs u a [] i = absurd i
  in_arcs cs u a (b ∷ bs) (inl e) = inl (ap (arc_of k laws P cs u) e)
  in_arcs cs u a (b ∷ bs) (inr i) = inr (in_arcs cs u a bs i)

  -- a next byte makes a longer prefix
  pub next_prefix : (v : Key) (a : ℕ) → In a (first_bytes (under P v)) → KeyPrefix P (v ++ (a ∷ []))
  next_prefix v a i =
      let h = in_heads (under P v) a (first_bytes (under P v)) (all_head (under P v)) i in
      (h.0, h.1, ap (output_of P) (append_assoc v (a ∷ []) h.0) ∙ sym (under_found P v (a ∷ h.0)) ∙ h.2)

  -- and a longer prefix has a next byte
  next_byte : (v : Key) (a : ℕ) → KeyPrefix P (v ++ (a ∷ [])) → In a (first_bytes (under P v))
  next_byte v a s = go (lacks_or_in a (first_bytes (under P v)))
    where
      go : In a (first_bytes (under P v)) ⊎ Lacks a (first_bytes (under P v)) → In a (first_bytes (under P v))
      go (inl i) = i
      go (inr l) =
          let n = lacks_none (under P v) a s.0 l in
          let y : output_of (under P v) (a ∷ s.0) ≡ some s.1 = under_found P v (a ∷ s.0) ∙ ap (output_of P) (sym (append_assoc v (a ∷ []) s.0)) ∙ s.2 in
          let o : ◌≡◌ {A = ℕ} 0 1 = cc in absurd (omega arith)

  pub bytes_rests : (c : k.Ideal) (Q : Pairs k.Ideal) → first_bytes (rests k c Q) ≡ first_bytes Q
  bytes_rests c [] = refl
  bytes_rests c (q ∷ Q) = ap (λ l. elim q.0 as (λ v. List ℕ) [ [] ↦ l | b ∷ w ↦ in_front b l ]) (bytes_rests c Q)

  next_byte_alike : (u y : Key) (a : ℕ) → residual k P u ≡ residual k P y → KeyPrefix P (u ++ (a ∷ [])) → In a (first_bytes (under P y))
  next_byte_alike u y a e s = subst (In a) (sym (bytes_rests _ (under P u)) ∙ ap first_bytes e ∙ bytes_rests _ (under P y)) (next_byte u a s)

  pub targets_below : (i : ℕ) (s : State k.Ideal) → at (minimal k P).states i ≡ some s → Each (λ arc. arc.target < i) s.arcs
  targets_below i s e =
      let c = state_first i s e in
      subst (λ t. Each (λ arc. arc.target < i) t.arcs) c.2
      (each_arc (λ arc. arc.target < i) (first_prefixes k P) c.0 (first_bytes (under P c.0))
      (λ a j. let n = next_prefix c.0 a j in target_below k P i c.0 a c.1 (in_key_prefixes P (c.0 ++ (a ∷ [])) n.0 n.1 n.2)))

  pub rising_arcs : (cs : List Key) (u : Key) (bs : List ℕ) → RisingBytes bs → Rising (arcs_of k P cs u bs)
  rising_arcs cs u [] h = tt
  rising_arcs cs u (b ∷ bs) h = (over bs h.0, rising_arcs cs u bs h.1)
    where
      over : (cs' : List ℕ) → Over b cs' → Each (λ later. b < later.byte) (arcs_of k P cs u cs')
      over [] o = tt
      over (c ∷ cs') o = (o.0, over cs' o.1)

  module _ (ascending : Ascending P) where
    pub arcs_rise : (i : ℕ) (s : State k.Ideal) → at (minimal k P).states i ≡ some s → Rising s.arcs
    arcs_rise i s e =
        let c = state_first i s e in
        subst (λ t. Rising t.arcs) c.2 (rising_arcs (first_prefixes k P) c.0 (first_bytes (under P c.0)) (rising_bytes (under P c.0) (ascending_under P c.0 ascending)))

    pub on_bytes : ByteKeys P → ByteArcs (minimal k P).states
    on_bytes bytes = each_state (first_prefixes k P)
      where
        byte : (v : Key) (a : ℕ) → In a (first_bytes (under P v)) → a < 256
        byte v a i =
            let n = next_prefix v a i in
            let b = prefix_bytes P (v ++ (a ∷ [])) bytes n in
            let one = sym (bytes_behind v (a ∷ []) (prefix_bytes P v bytes (a ∷ n.0, n.1, ap (output_of P) (sym (append_assoc v (a ∷ []) n.0)) ∙ n.2))) ∙ b in
            ltb-true a 256 (and_parts (ltb a 256) true one).0

        each_state : (us : List Key) → ByteArcs (map (state_of k P (first_prefixes k P)) us)
        each_state [] = tt
        each_state (u ∷ us) = (each_arc (λ arc. arc.byte < 256) (first_prefixes k P) u (first_bytes (under P u)) (byte u), each_state us)

    module _ (storable : AllStorable k P) (nonempty : 0 < length P) where
      pub all_targeted : (i : ℕ) → suc i < length (minimal k P).states → targeted i (minimal k P).states ≡ true
      all_targeted i h =
          let long : suc i < length (first_prefixes k P) = omega (arith, length-map (first_prefixes k P) (state_of k P (first_prefixes k P))) in
          let f = at_below (first_prefixes k P) i (omega arith) in
          let l = last_byte f.0 (first_not_empty k P nonempty i f.0 f.1 long) in
          led f.0 f.1 l.0 l.1 l.2
        where
          led : (v : Key) → at (first_prefixes k P) i ≡ some v → (u : Key) (a : ℕ) → v ≡ u ++ (a ∷ []) → targeted i (minimal k P).states ≡ true
          led v e u a f =
              let sv : KeyPrefix P (u ++ (a ∷ [])) = subst (KeyPrefix P) f (first_is_prefix i v e) in
              let su : KeyPrefix P u = (a ∷ sv.0, sv.1, ap (output_of P) (sym (append_assoc u (a ∷ []) sv.0)) ∙ sv.2) in
              by u a sv su (sym (class_residual k P (first_prefixes k P) v (u ++ (a ∷ [])) (ap (residual k P) f)) ∙ class_at k P i v e) (class_of k laws P ascending storable u su)
            where
              by : (u : Key) (a : ℕ) → KeyPrefix P (u ++ (a ∷ [])) → KeyPrefix P u → class_number k P (u ++ (a ∷ [])) ≡ i
                  → (y : Key) × (at (minimal k P).states (class_number k P u) ≡ some (state_of k P (first_prefixes k P) y)) × (residual k P u ≡ residual k P y)
                  → targeted i (minimal k P).states ≡ true
              by u a sv su is c =
                  let same : residual k P (u ++ (a ∷ [])) ≡ residual k P (c.0 ++ (a ∷ []))
                  = residual_on k laws P ascending storable u a ∙ ap (λ F. rests k (greatest k (under F (a ∷ []))) (under F (a ∷ []))) c.2 ∙ sym (residual_on k laws P ascending storable c.0 a) in
                  targeted_at i (minimal k P).states (class_number k P u) (state_of k P (first_prefixes k P) c.0) c.1
                  (aims_in i _ (arc_of k laws P (first_prefixes k P) c.0 a) (in_arcs (first_prefixes k P) c.0 a (first_bytes (under P c.0)) (next_byte_alike u c.0 a c.2 sv))
                  (sym (class_residual k P (first_prefixes k P) (u ++ (a ∷ [])) (c.0 ++ (a ∷ [])) same) ∙ is))
