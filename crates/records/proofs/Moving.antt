-- The memory stays sound while its closed part stays as it is. Assumes nothing.
use Rattle.std.proofs.Common.{◌≡◌, ℕ, ◌<◌, ◌≤◌, List, map, length, get_or, sym, ap, subst, arith}
use Rattle.stacks.specs.declared.stack.Stacks.{Stacks}
use Rattle.stacks.specs.Stacks.{lows, highs, capacity}
use Rattle.register.specs.Slots.{used}
use Rattle.records.specs.declared.record.Arc.{Arc}
use Rattle.records.specs.declared.record.State.{State}
use Rattle.records.specs.declared.memory.Core.{Core}
use Rattle.records.specs.Lying.{Sound, Laid, Since, Packed}
use Rattle.records.specs.Holding.{arcs_of, closed_state, counts, closed}
use Rattle.records.specs.Registering.{Register, Registered}

-- what is closed stands for the same
module _ {O I : Type 0} (mean : O → I) (b : Core O) {states : List (State O)} {arcs : List (Arc O)} (same_states : states ≡ lows b.states) (same_arcs : arcs ≡ highs b.arcs) where
  pub closed_still : record { states = map (closed_state mean (arcs_of mean arcs)) states; counts = counts mean states } ≡ closed mean b
  closed_still = λ i. record { states = map (closed_state mean (arcs_of mean (same_arcs i))) (same_states i); counts = counts mean (same_states i) }

  pub registered_still : (digested : I → ℕ) {slots : List ℕ} → slots ≡ b.slots.now → Registered digested mean b → Register digested slots (map (closed_state mean (arcs_of mean arcs)) states)
  registered_still digested same_slots r = subst (λ ts. Register digested ts (map (closed_state mean (arcs_of mean arcs)) states)) (sym same_slots) (subst (Register digested b.slots.now) (sym (ap (λ x. x.states) closed_still)) r)

-- A memory is sound whose closed part is that of a sound one.
module _ {O : Type 0} (b : Core O) (states : Stacks (State O)) (arcs : Stacks (Arc O)) (slots : List ℕ) (same_slots : slots ≡ b.slots.now) (same_states : lows states ≡ lows b.states) (same_arcs : highs arcs ≡ highs b.arcs) (sc : capacity states ≡ capacity b.states) (ac : capacity arcs ≡ capacity b.arcs) where
  packed_still : Packed 0 (length (highs arcs)) (lows states)
  packed_still = subst (λ (xs : List (Arc O)). Packed 0 (length xs) (lows states)) (sym same_arcs) (subst (Packed 0 (length (highs b.arcs))) (sym same_states) b.sound.packed)

  known_still : (i : ℕ) → get_or slots i 0 ≤ length (lows states)
  known_still i = let n = ap length same_states in let t = ap (λ (xs : List ℕ). get_or xs i 0) same_slots in omega (arith, b.sound.known i)

  pub moved : {pairs : ℕ} → Laid (length (lows arcs)) (highs states) → Since pairs (highs states) → pairs < 1048576 → Sound states arcs slots pairs
  moved l s p = record {
    few = omega (arith, b.sound.few);
    arcfew = omega (arith, b.sound.arcfew);
    slotroom = let t = ap length same_slots in omega (arith, b.sound.slotroom);
    laid = l;
    since = s;
    packed = packed_still;
    known = known_still;
    used = let n = ap length same_states in let t = ap used same_slots in omega (arith, b.sound.used);
    paired = p;
  }
