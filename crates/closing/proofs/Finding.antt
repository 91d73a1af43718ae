-- The number of an equal closed state: what the construction finds by codes is the one state that is equal. Assumes the kind's laws, that all outputs are storable, and that no two closed states are equal.
use Rattle.std.proofs.Common.{◌≡◌, ℕ, zero, suc, ◌+◌, ◌<◌, Bool, true, false, List, [], ◌∷◌, map, length, sym, refl, ap, ◌∙◌, subst, arith}
use mathlib.Core.Option.{Option, none, some}
use Rattle.std.proofs.lemmas.Bool.{false≢true}
use Rattle.outputs.specs.Kinds.{Kind, Laws}
use Rattle.machines.specs.Lists.{Each}
use Rattle.machines.specs.Machines.{State as Node}
use Rattle.construction.proofs.Comparing.{same_state_self, same_state_equal}
use Rattle.machines.specs.Storing.{StateStorable}
use Rattle.construction.specs.Records.{Open, state_of, same_state, number_from, number_of}
use Rattle.records.specs.declared.record.Arc.{Arc}
use Rattle.records.specs.declared.record.State.{State}
use Rattle.records.specs.Holding.{arcs_of, open_record}
use Rattle.records.proofs.Storing.{stored_open}
use Rattle.records.specs.Registering.{state_at}

module _ (k : Kind) (laws : Laws k) (s : Node k.Ideal) (ss : StateStorable k s) where
  missing_from : (j : ℕ) (ts : List (Node k.Ideal)) → Each (StateStorable k) ts → ((q : ℕ) → q < length ts → s ≡ state_at ts q → ⊥) → number_from k j s ts ≡ none
  missing_from j [] st other = refl
  missing_from j (t ∷ ts) st other = go (same_state k s t) refl (missing_from (suc j) ts st.1 (λ q h. other (suc q) (omega arith)))
    where
      go : (b : Bool) → same_state k s t ≡ b → number_from k (suc j) s ts ≡ none → ◌≡◌ {A = Option ℕ} (elim b [ true ↦ some j | false ↦ number_from k (suc j) s ts ]) none
      go true e later = absurd (other 0 (omega arith) (same_state_equal k laws s t ss st.0 e))
      go false e later = later

  -- no state is equal
  pub number_missing : (ts : List (Node k.Ideal)) → Each (StateStorable k) ts → ((q : ℕ) → q < length ts → s ≡ state_at ts q → ⊥) → number_of k s ts ≡ none
  number_missing ts st other = missing_from 0 ts st other

  found_from : (j r : ℕ) (ts : List (Node k.Ideal)) (q : ℕ) → Each (StateStorable k) ts → ((p p' : ℕ) → p < p' → p' < length ts → state_at ts p ≡ state_at ts p' → ⊥) → q < length ts → s ≡ state_at ts q → r ≡ j + q → number_from k j s ts ≡ some r
  found_from j r [] q st distinct h e w = absurd (omega arith)
  found_from j r (t ∷ ts) zero st distinct h e w = go (same_state k s t) refl
    where
      go : (b : Bool) → same_state k s t ≡ b → ◌≡◌ {A = Option ℕ} (elim b [ true ↦ some j | false ↦ number_from k (suc j) s ts ]) (some r)
      go true f = let o : j ≡ r = omega arith in ap {B = Option ℕ} (λ n. some n) o
      go false f = absurd (false≢true (sym f ∙ subst (λ x. same_state k s x ≡ true) e (same_state_self k s)))
  found_from j r (t ∷ ts) (suc q) st distinct h e w =
      go (same_state k s t) refl (found_from (suc j) r ts q st.1 (λ p p' l m. distinct (suc p) (suc p') (omega arith) (omega arith)) (omega arith) e (omega arith))
    where
      go : (b : Bool) → same_state k s t ≡ b → number_from k (suc j) s ts ≡ some r → ◌≡◌ {A = Option ℕ} (elim b [ true ↦ some j | false ↦ number_from k (suc j) s ts ]) (some r)
      go true f later = absurd (distinct 0 (suc q) (omega arith) h (sym (same_state_equal k laws s t ss st.0 f) ∙ e))
      go false f later = later

  -- state q is equal, and no other is
  pub number_found : (ts : List (Node k.Ideal)) (q : ℕ) → Each (StateStorable k) ts → ((p p' : ℕ) → p < p' → p' < length ts → state_at ts p ≡ state_at ts p' → ⊥) → q < length ts → s ≡ state_at ts q → number_of k s ts ≡ some q
  number_found ts q st distinct h e = found_from 0 q ts q st distinct h e (omega arith)

-- the newest open record, by what it stands for
pub stored_top : (k : Kind) {O : Type 0} (mean : O → k.Ideal) (stored : (x : O) → k.storable (mean x) ≡ true) (as' : List (Arc O)) (ss : List (State O)) (o : Open k.Ideal) (os : List (Open k.Ideal)) → map (open_record mean (arcs_of mean as')) ss ≡ o ∷ os → StateStorable k (state_of o)
stored_top k mean stored as' [] o os e = let z : ◌≡◌ {A = ℕ} 0 1 = cc in absurd (omega arith)
stored_top k mean stored as' (s ∷ ss) o os e = let w : open_record mean (arcs_of mean as') s ≡ o = cc in subst (λ (x : Open k.Ideal). StateStorable k (state_of x)) w (stored_open k mean stored as' s)
