-- The whole bytes of a row given to a store in turn. Assumes nothing.
use Rattle.std.proofs.Common.{◌≡◌, ℕ, ◌+◌, ◌-◌, ◌*◌, ◌/◌, ◌%◌, ◌^◌, ◌≤◌, List, [], ◌∷◌, ◌++◌, length, sym, ap, ◌∙◌, subst, add-one}
use Rattle.outputs.specs.Bits.{bits}
use Rattle.outputs.specs.TextReading.{octets}
use Rattle.outputs.specs.BitRows.{length_bits}
use Rattle.outputs.proofs.TextReads.{octets_more}
use Rattle.fields.specs.Rows.{whole}
use Rattle.fields.specs.Packs.{Outcome, Gave}
use Rattle.fields.specs.PackLaws.{gave_more}
use Rattle.fields.proofs.RowBits.{byte_of}

-- one byte more of a row
pub gave_turn : (room room' count i row byte : ℕ) (bytes bytes' bytes'' : List ℕ) (outcome outcome' outcome'' : Outcome) → 8 * i + 8 ≤ count → room' ≡ room →
    byte ≡ row / 2 ^ (count - 8 * i - 8) % 256 →
    Gave room bytes outcome (octets i (bits count row)) bytes' outcome' → Gave room' bytes' outcome' (byte ∷ []) bytes'' outcome'' →
    Gave room bytes outcome (octets (i + 1) (bits count row)) bytes'' outcome''
gave_turn room room' count i row byte bytes bytes' bytes'' outcome outcome' outcome'' h k e a b =
    let more : octets (i + 1) (bits count row) ≡ octets i (bits count row) ++ byte ∷ [] =
    ap (λ (z : ℕ). octets z (bits count row)) (add-one i) ∙ octets_more i (bits count row)
    ∙ ap (λ (z : ℕ). octets i (bits count row) ++ z ∷ []) (byte_of count i row h ∙ sym e) in
    subst (λ (z : List ℕ). Gave room bytes outcome z bytes'' outcome'') (sym more)
    (gave_more room bytes bytes' bytes'' (octets i (bits count row)) (byte ∷ []) outcome outcome' outcome'' a
    (subst (λ (z : ℕ). Gave z bytes' outcome' (byte ∷ []) bytes'' outcome'') k b))

-- all of them
pub gave_all : (room count i row : ℕ) (bytes bytes' : List ℕ) (outcome outcome' : Outcome) → i ≡ count / 8 →
    Gave room bytes outcome (octets i (bits count row)) bytes' outcome' → Gave room bytes outcome (whole (bits count row)) bytes' outcome'
gave_all room count i row bytes bytes' outcome outcome' e a =
    let k : i ≡ length (bits count row) / 8 = e ∙ ap (λ (z : ℕ). z / 8) (sym (length_bits count row)) in
    subst (λ (z : ℕ). Gave room bytes outcome (octets z (bits count row)) bytes' outcome') k a
