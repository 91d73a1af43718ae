-- The steps of reading a text: its length, then its bytes. Assumes nothing.
use Rattle.std.specs.Prelude.{◌≡◌, ℕ, zero, suc, ◌+◌, ◌-◌, ◌*◌, ◌^◌, ◌<◌, ◌≤◌, Bool, true, false, List, [], ◌∷◌, ◌++◌, length, take, drop, replicate, Ok, Err, Result}
use Rattle.outputs.specs.Bits.{value}
use Rattle.outputs.specs.Kinds.{got, begun, no_code}
use Rattle.outputs.specs.Texts.{all_bytes, longest, read_upto}
use Rattle.outputs.specs.declared.source.Unread.{Unread}
use Rattle.outputs.specs.declared.source.Unread.TheVariants.{Cut, NoCode}

-- the least length that begins with these bits
abbrev pub least_length : List Bool → ℕ
least_length row = value (row ++ replicate (5 - length row) false)

-- the next n bytes of a row of bits
abbrev pub octets : ℕ → List Bool → List ℕ
octets zero row = []
octets (suc n) row = value (take 8 row) ∷ octets n (drop 8 row)

-- what reading a length at a place answers
abbrev pub Length : {E : Type 0} → List Bool → ℕ → E → Result ℕ (Unread E) → Type 0
Length all place short (Ok n) = (n ≤ longest) × (place + 5 ≤ length all) × (length all < 2 ^ 32) × (read_upto 5 longest (drop place all) ≡ got n (drop 5 (drop place all)))
Length all place short (Err (Cut e)) = (e ≡ short) × (read_upto 5 longest (drop place all) ≡ begun)
Length all place short (Err NoCode) = read_upto 5 longest (drop place all) ≡ no_code

-- what reading so many bytes at a place answers
abbrev pub Octets : {E : Type 0} → List Bool → ℕ → ℕ → E → Result (List ℕ) E → Type 0
Octets all place n short (Ok bytes) = (place + 8 * n ≤ length all) × (take n bytes ≡ octets n (drop place all)) × (all_bytes bytes ≡ true) × (length bytes ≡ longest)
Octets all place n short (Err e) = (length all < place + 8 * n) × (e ≡ short)
