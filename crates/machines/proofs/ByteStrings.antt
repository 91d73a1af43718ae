-- Keys of bytes: only byte strings are found among them. Assumes nothing.
use Rattle.std.proofs.Common.{◌≡◌, ℕ, Bool, true, false, ◌&&◌, ltb, [], ◌∷◌, ◌++◌, refl, subst, ap₂, arith}
use mathlib.Core.Option.{Option, none, some}
use borrow.Author.Tests.{both_ways}
use Rattle.std.proofs.lemmas.Bool.{and_parts}
use Rattle.outputs.specs.Texts.{all_bytes}
use Rattle.machines.specs.Lists.{Each}
use Rattle.machines.specs.Keys.{Key, same_key}
use Rattle.machines.specs.Pairs.{Pairs, output_of, KeyPrefix, ByteKeys}
use Rattle.machines.proofs.Order.{same_key_true}

pub bytes_behind : (u w : Key) → all_bytes u ≡ true → all_bytes (u ++ w) ≡ all_bytes w
bytes_behind [] w h = refl
bytes_behind (a ∷ u) w h = let p = and_parts (ltb a 256) (all_bytes u) h in ap₂ ◌&&◌ p.0 (bytes_behind u w p.1)

pub bytes_in_front : (u w : Key) → all_bytes (u ++ w) ≡ true → all_bytes u ≡ true
bytes_in_front [] w h = refl
bytes_in_front (a ∷ u) w h = let p = and_parts (ltb a 256) (all_bytes (u ++ w)) h in ap₂ ◌&&◌ p.0 (bytes_in_front u w p.1)

module _ {A : Type 0} where
  -- what holds of every key holds of what is found
  pub found_each : (Q : Key → Type 0) (P : Pairs A) (w : Key) (z : A) → Each (λ p. Q p.0) P → output_of P w ≡ some z → Q w
  found_each Q [] w z b e = let o : ◌≡◌ {A = ℕ} 0 1 = cc in absurd (omega arith)
  found_each Q (p ∷ P) w z b e = go (same_key p.0 w) refl e (found_each Q P w z b.1)
    where
      go : (t : Bool) → same_key p.0 w ≡ t → ◌≡◌ {A = Option A} (elim t [ true ↦ some p.1 | false ↦ output_of P w ]) (some z) → (output_of P w ≡ some z → Q w) → Q w
      go true s f deep = subst Q (same_key_true p.0 w s) b.0
      go false s f deep = deep f

  pub found_bytes : (P : Pairs A) (w : Key) (z : A) → ByteKeys P → output_of P w ≡ some z → all_bytes w ≡ true
  found_bytes P w z b e = found_each (λ v. all_bytes v ≡ true) P w z b e

  pub prefix_bytes : (P : Pairs A) (u : Key) → ByteKeys P → KeyPrefix P u → all_bytes u ≡ true
  prefix_bytes P u b s = bytes_in_front u s.0 (found_bytes P (u ++ s.0) s.1 b s.2)

  pub other_absent : (P : Pairs A) (w : Key) → ByteKeys P → all_bytes w ≡ false → output_of P w ≡ none
  other_absent P w b n = go (output_of P w) refl
    where
      go : (o : Option A) → output_of P w ≡ o → o ≡ none
      go none e = refl
      go (some z) e = absurd (both_ways (all_bytes w) n (found_bytes P w z b e))
