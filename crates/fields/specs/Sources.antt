-- The bits of a store: what is said of a field that runs past the end is the same from every place within.
use Rattle.std.specs.Prelude.{◌≡◌, ℕ, ◌/◌, ◌≤◌, max, List, length}
use Rattle.std.proofs.Common.{ap, arith}
use Rattle.outputs.specs.Bits.{spread}
use Rattle.outputs.specs.TextLaws.{length_spread}
use Rattle.stores.specs.declared.Refusal.{Refusal}
use Rattle.stores.specs.declared.Refusal.TheVariants.{Missing}
use Rattle.fields.specs.Reads.{missing}

pub missing_steady : (bytes : List ℕ) (p q : ℕ) → p ≤ length (spread bytes) → q ≤ length (spread bytes) → missing p bytes ≡ missing q bytes
missing_steady bytes p q h k =
    let same : max (p / 8) (length bytes) ≡ max (q / 8) (length bytes) = omega (arith, length_spread bytes) in
    ap {A = ℕ} {B = Refusal} (λ n. Missing n) same
