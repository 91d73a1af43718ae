-- What the type of a slice of bytes says of its list. Assumes nothing.
use Rattle.std.proofs.Common.{◌≡◌, ℕ, suc, true, ◌&&◌, List, [], ◌∷◌, get_or, refl, ap₂, arith, w8, Fits, lt-ltb}
use Rattle.outputs.specs.Texts.{all_bytes}

pub slice_octets : (w : List ℕ) → ((i : ℕ) → Fits w8 (get_or w i 0)) → all_bytes w ≡ true
slice_octets [] h = refl
slice_octets (a ∷ w) h = ap₂ ◌&&◌ (lt-ltb a 256 (omega (arith, h 0))) (slice_octets w (λ i. h (suc i)))
