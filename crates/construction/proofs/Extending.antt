-- The records of what is new in a key. Assumes the laws of a kind.
use Rattle.std.proofs.Common.{◌≡◌, ℕ, suc, ◌-◌, true, false, List, [], ◌∷◌, ◌++◌, length, sym, refl, ap, ◌∙◌, ap₂, append-nil, arith, eq-eqb}
use mathlib.Core.Option.{Option, none, some}
use Rattle.outputs.specs.Kinds.{Kind, Laws}
use Rattle.machines.specs.Keys.{Key}
use Rattle.machines.specs.Machines.{Arc}
use Rattle.machines.specs.Pairs.{Pairs, output_of, under, first_bytes}
use Rattle.machines.specs.Residuals.{greatest, greatest_common}
use Rattle.machines.specs.Minimal.{arcs_of, rest_some, end_of}
use Rattle.machines.proofs.Under.{under_found}
use Rattle.machines.proofs.Walks.{under_under}
use Rattle.construction.specs.Records.{Open, blank}
use Rattle.construction.specs.Steps.{aim_last, extend}
use Rattle.construction.proofs.Commons.{rest_self}
use Rattle.construction.proofs.Expected.{first_record, next_records, open_equal}
use Rattle.construction.proofs.Settling.{leading_is}

module _ (k : Kind) (laws : Laws k) (P : Pairs k.Ideal) (x : k.Ideal) (cs : List Key) (n : ℕ) (count : length P ≡ suc n) where
  -- only the new pair stands under u, with r to come
  abbrev pub OnlyNew : Key → Key → Type 0
  OnlyNew u r = under P u ≡ (r, x) ∷ []

  pub only_longer : (u : Key) (a : ℕ) (r : Key) → OnlyNew u (a ∷ r) → OnlyNew (u ++ (a ∷ [])) r
  only_longer u a r h = sym (under_under P u (a ∷ [])) ∙ ap (λ Q. under Q (a ∷ [])) h ∙ ap {B = Pairs k.Ideal} (λ t. elim (elim t as (λ i. Option Key) [ true ↦ some r | false ↦ none ]) as (λ i. Pairs k.Ideal) [ none ↦ [] | some v ↦ (v, x) ∷ [] ]) (eq-eqb a a refl)

  only_common : (u r : Key) → OnlyNew u r → greatest_common k P u ≡ x
  only_common u r h = ap (greatest k) h

  only_end : (u r : Key) → OnlyNew u r → end_of k P u ≡ rest_some k x (output_of ((r, x) ∷ []) [])
  only_end u r h =
      ap₂ (rest_some k) (only_common u r h) (ap (output_of P) (sym (append-nil u)) ∙ sym (under_found P u []) ∙ ap (λ Q. output_of Q []) h)

  only_since : (u r : Key) → OnlyNew u r → length P - length (under P u) ≡ n
  only_since u r h = omega (arith, ap length h)

  -- the records of what is new
  pub extend_is : (u r : Key) → OnlyNew u r → extend k n (blank n) r k.empty ≡ first_record k P cs u r ∷ next_records k P cs u r
  extend_is u [] h =
      ap {B = List (Open k.Ideal)} (λ o. o ∷ []) (open_equal k (some k.empty) (end_of k P u) [] (arcs_of k P cs u (first_bytes (under P u))) n (length P - length (under P u))
      (ap {B = Option k.Ideal} some (sym (rest_self laws x)) ∙ sym (only_end u [] h)) (ap (λ Q. arcs_of k P cs u (first_bytes Q)) (sym h)) (sym (only_since u [] h)))
  extend_is u (a ∷ r) h =
      let bytes : first_bytes (under P u) ≡ a ∷ [] = ap first_bytes h in
      let put_out : k.rest (greatest_common k P u) (greatest_common k P (u ++ (a ∷ []))) ≡ k.empty
      = ap₂ k.rest (only_common u (a ∷ r) h) (only_common (u ++ (a ∷ [])) r (only_longer u a r h)) ∙ rest_self laws x in
      ap₂ {C = List (Open k.Ideal)} (λ o os. o ∷ os)
      (open_equal k none (end_of k P u) (record { byte = a; target = 0; output = k.empty } ∷ []) (aim_last 0 (arcs_of k P cs u (first_bytes (under P u)))) n (length P - length (under P u))
      (sym (only_end u (a ∷ r) h))
      (ap {B = List (Arc k.Ideal)} (λ y. record { byte = a; target = 0; output = y } ∷ []) (sym put_out) ∙ sym (leading_is k P cs u [] a bytes))
      (sym (only_since u (a ∷ r) h)))
      (extend_is (u ++ (a ∷ [])) r (only_longer u a r h))
