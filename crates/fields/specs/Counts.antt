-- Bits counted, up to the greatest number of 64 bits.
use Rattle.std.specs.Prelude.{◌≡◌, ℕ, ◌+◌, ◌^◌, ◌<◌, min, Bool, List, [], ◌++◌, length}
use Rattle.std.proofs.Common.{arith, length-append}

abbrev pub Counted : ℕ → List Bool → ℕ → Type 0
Counted n row m = m ≡ min (n + length row) 18446744073709551615

pub counted_nothing : (n : ℕ) → n < 2 ^ 64 → Counted n [] n
counted_nothing n h = omega arith

pub counted_more : (n m l : ℕ) (row more : List Bool) → Counted n row m → Counted m more l → Counted n (row ++ more) l
counted_more n m l row more a b = omega (arith, length-append row more)
