-- Prefixes that lead a transducer to one state are alike, if it realizes the pairs. Assumes that the keys ascend and are of bytes.
use Rattle.std.proofs.Common.{◌≡◌, ℕ, true, false, ◌++◌, sym, ap, ◌∙◌, inl, inr}
use mathlib.Core.Option.{none, some}
use Rattle.std.proofs.lemmas.Bool.{cases_Bool}
use Rattle.outputs.specs.Kinds.{Kind, Laws}
use Rattle.outputs.specs.Texts.{all_bytes}
use Rattle.machines.specs.Keys.{Key}
use Rattle.machines.specs.Machines.{Machine, join_some, answer_from, reach}
use Rattle.machines.specs.Pairs.{Pairs, output_of, under, Ascending, ByteKeys}
use Rattle.machines.specs.Residuals.{greatest, rests, residual}
use Rattle.machines.specs.Minimal.{rest_some}
use Rattle.machines.specs.Realizing.{Realizes}
use Rattle.machines.proofs.Order.{ascending_eq}
use Rattle.machines.proofs.PrefixLaws.{AllPrefixed, left_shift, shift_rests}
use Rattle.machines.proofs.ByteStrings.{bytes_behind, found_bytes, other_absent}
use Rattle.machines.proofs.Under.{under_found, ascending_under, ascending_rests, rests_found, rest_join_some, answer_on, all_from, prefix_some}

module _ (k : Kind) (laws : Laws k) (P : Pairs k.Ideal) (ascending : Ascending P) (bytes : ByteKeys P) (m : Machine k.Ideal) (realizes : Realizes k P m) where
  -- what is found under u is what the state that u leads to puts out from there on
  pub found_on : (u : Key) → all_bytes u ≡ true → (q : ℕ) (x : k.Ideal) → reach k m u ≡ some (q, x) → (w : Key) → all_bytes w ≡ true
      → output_of (under P u) w ≡ join_some k x (answer_from k m.states q w)
  found_on u b q x e w c =
      under_found P u w ∙ sym (realizes (u ++ w) (bytes_behind u w b ∙ c)) ∙ answer_on k laws m.states u m.start q m.start_output x w e

  under_bytes : (u : Key) → all_bytes u ≡ true → (w : Key) (z : k.Ideal) → output_of (under P u) w ≡ some z → all_bytes w ≡ true
  under_bytes u b w z e = sym (bytes_behind u w b) ∙ found_bytes P (u ++ w) z bytes (sym (under_found P u w) ∙ e)

  -- the residual of u is told by what that state puts out
  residual_by_state : (u : Key) → all_bytes u ≡ true → (q : ℕ) (x : k.Ideal) → reach k m u ≡ some (q, x)
      → residual k P u ≡ rests k (greatest k (rests k x (under P u))) (rests k x (under P u))
  residual_by_state u b q x e =
      let all : AllPrefixed k x (under P u)
      = all_from k laws x (under P u) (ascending_under P u ascending) (λ w z s. prefix_some k laws x z _ (sym (found_on u b q x e w (under_bytes u b w z s)) ∙ s)) in
      ap (λ Q. rests k (greatest k Q) Q) (sym (shift_rests laws x (under P u) all)) ∙ left_shift laws x (rests k x (under P u))

  pub one_state_alike : (u v : Key) → all_bytes u ≡ true → all_bytes v ≡ true → (q : ℕ) (x y : k.Ideal) → reach k m u ≡ some (q, x) → reach k m v ≡ some (q, y) → residual k P u ≡ residual k P v
  one_state_alike u v bu bv q x y eu ev =
      let same : rests k x (under P u) ≡ rests k y (under P v)
      = ascending_eq _ _ (ascending_rests k laws x _ (ascending_under P u ascending)) (ascending_rests k laws y _ (ascending_under P v ascending)) equal in
      residual_by_state u bu q x eu ∙ ap (λ F. rests k (greatest k F) F) same ∙ sym (residual_by_state v bv q y ev)
    where
      answers : (w : Key) → all_bytes w ≡ true → (z : k.Ideal) (s : Key) → all_bytes s ≡ true → reach k m s ≡ some (q, z) → output_of (rests k z (under P s)) w ≡ answer_from k m.states q w
      answers w c z s b e = rests_found k laws z (under P s) w ∙ ap (rest_some k z) (found_on s b q z e w c) ∙ rest_join_some k laws z _

      nothing : (w : Key) → all_bytes w ≡ false → (z : k.Ideal) (s : Key) → all_bytes s ≡ true → output_of (rests k z (under P s)) w ≡ none
      nothing w n z s b = rests_found k laws z (under P s) w ∙ ap (rest_some k z) (under_found P s w ∙ other_absent P (s ++ w) bytes (bytes_behind s w b ∙ n))

      equal : (w : Key) → output_of (rests k x (under P u)) w ≡ output_of (rests k y (under P v)) w
      equal w = elim (cases_Bool (all_bytes w)) [
        | inl c ↦ answers w c x u bu eu ∙ sym (answers w c y v bv ev)
        | inr n ↦ nothing w n x u bu ∙ sym (nothing w n y v bv)
      ]
