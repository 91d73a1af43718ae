-- The keys accepted from each state of the minimal machine, counted. Assumes ascending keys and storable outputs.
use Rattle.std.proofs.Common.{◌≡◌, ℕ, suc, ◌+◌, ◌<◌, List, [], ◌∷◌, ◌++◌, map, length, get_or, sym, refl, ap, ◌∙◌, subst, ap₂, inl, inr, append-nil, arith}
use mathlib.Core.Option.{Option, none, some}
use Rattle.outputs.specs.Kinds.{Kind, Laws}
use Rattle.machines.specs.Lists.{at}
use Rattle.machines.specs.Keys.{Key}
use Rattle.machines.specs.Machines.{State, end_flag, sum_at}
use Rattle.machines.specs.Pairs.{Pairs, output_of, under, KeyPrefix, first_bytes, Ascending, AllStorable}
use Rattle.machines.specs.Residuals.{greatest_common, rests, first_prefixes, class_number}
use Rattle.machines.specs.Minimal.{arcs_of, rest_some, end_of, minimal, key_counts}
use Rattle.machines.proofs.Lists.{In, get_or_at, at_map, at_unmap}
use Rattle.machines.proofs.Under.{under_found, ascending_under}
use Rattle.machines.proofs.KeyCounts.{under_under, sum_under, counts}
use Rattle.machines.proofs.RightAnswers.{class_first}
use Rattle.machines.proofs.Targets.{state_first, first_is_prefix, next_prefix}

length_rests : (k : Kind) (c : k.Ideal) (Q : Pairs k.Ideal) → length (rests k c Q) ≡ length Q
length_rests k c [] = refl
length_rests k c (q ∷ Q) = ap suc (length_rests k c Q)

flag_rest : (k : Kind) (c : k.Ideal) (o : Option k.Ideal) → end_flag (rest_some k c o) ≡ end_flag o
flag_rest k c none = refl
flag_rest k c (some z) = refl

found_some : {A : Type 0} (Q : Pairs A) (w : Key) (z : A) → output_of Q w ≡ some z → 0 < length Q
found_some [] w z e = let o : ◌≡◌ {A = ℕ} 0 1 = cc in absurd (omega arith)
found_some (q ∷ Q) w z e = omega arith

module _ (k : Kind) (laws : Laws k) (P : Pairs k.Ideal) (ascending : Ascending P) (storable : AllStorable k P) where
  -- the class of a prefix accepts as many keys as go on behind the prefix
  pub counted : (u : Key) → KeyPrefix P u → at (key_counts k P) (class_number k P u) ≡ some (length (under P u))
  counted u s =
      let c = class_first k laws P ascending storable u s in
      at_map (λ v. length (under P v)) (first_prefixes k P) (class_number k P u) c.0 c.1
      ∙ ap {B = Option ℕ} some (sym (length_rests k _ (under P c.0)) ∙ ap length (sym c.2) ∙ length_rests k _ (under P u))

  pub end_counted : (v : Key) → end_flag (end_of k P v) ≡ end_flag (output_of (under P v) [])
  end_counted v = flag_rest k (greatest_common k P v) (output_of P v) ∙ ap end_flag (ap (output_of P) (sym (append-nil v)) ∙ sym (under_found P v []))

  -- the count behind an arc
  pub arc_counted : (v : Key) (a : ℕ) → In a (first_bytes (under P v)) → get_or (key_counts k P) (class_number k P (v ++ (a ∷ []))) 0 ≡ length (under (under P v) (a ∷ []))
  arc_counted v a i =
      get_or_at (key_counts k P) (class_number k P (v ++ (a ∷ []))) _ 0 (counted (v ++ (a ∷ [])) (next_prefix k laws P v a i))
      ∙ ap length (sym (under_under P v a ascending))

  sum_counted : (v : Key) (bs : List ℕ) → ((a : ℕ) → In a bs → In a (first_bytes (under P v))) → sum_at (key_counts k P) (arcs_of k P (first_prefixes k P) v bs) ≡ sum_under (under P v) bs
  sum_counted v [] f = refl
  sum_counted v (b ∷ bs) f = ap₂ ◌+◌ (arc_counted v b (f b (inl refl))) (sum_counted v bs (λ a i. f a (inr i)))

  pub state_counted : (i : ℕ) (s : State k.Ideal) → at (minimal k P).states i ≡ some s → at (key_counts k P) i ≡ some (end_flag s.end + sum_at (key_counts k P) s.arcs)
  state_counted i s e =
      let v = state_first k laws P i s e in
      at_map (λ u. length (under P u)) (first_prefixes k P) i v.0 v.1
      ∙ ap {B = Option ℕ} some
      (counts (under P v.0) (ascending_under P v.0 ascending)
      ∙ ap₂ ◌+◌ (sym (end_counted v.0)) (sym (sum_counted v.0 (first_bytes (under P v.0)) (λ a j. j))))
      ∙ ap {B = Option ℕ} (λ t. some (end_flag t.end + sum_at (key_counts k P) t.arcs)) v.2

  whole_under : (Q : Pairs k.Ideal) → length (under Q []) ≡ length Q
  whole_under [] = refl
  whole_under (q ∷ Q) = ap suc (whole_under Q)

  pub all_counted : KeyPrefix P [] → at (key_counts k P) (minimal k P).start ≡ some (length P)
  all_counted nonempty = counted [] nonempty ∙ ap {B = Option ℕ} some (whole_under P)

  pub count_some : (i n : ℕ) → at (key_counts k P) i ≡ some n → 0 < n
  count_some i n e =
      let v = unmap (first_prefixes k P) i e in
      let t = first_is_prefix k laws P i v.0 v.1 in
      subst (λ m. 0 < m) v.2 (found_some (under P v.0) t.0 t.1 (under_found P v.0 t.0 ∙ t.2))
    where
      unmap : (us : List Key) (j : ℕ) → at (map (λ u. length (under P u)) us) j ≡ some n → (v : Key) × (at us j ≡ some v) × (length (under P v) ≡ n)
      unmap us j f = at_unmap (λ u. length (under P u)) us j n f
