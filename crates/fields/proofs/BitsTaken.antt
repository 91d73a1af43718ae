-- A number's bits put behind those that wait: what goes out, and what waits then. Assumes nothing.
use Rattle.std.proofs.Common.{◌≡◌, ℕ, ◌+◌, ◌*◌, ◌%◌, ◌^◌, ◌<◌, ◌≤◌, min, Bool, List, ◌++◌, sym, refl, ap, ◌∙◌, subst, ap₂, arith}
use Rattle.std.proofs.lemmas.Nat.{shl_whole, one_shl}
use Rattle.outputs.specs.Bits.{bits}
use Rattle.fields.specs.Rows.{whole, left}
use Rattle.fields.specs.Packs.{Outcome, Gave, Packs, pending}
use Rattle.fields.proofs.RowBits.{bits_low, bits_joined, left_of}

pending_bits : (filled partial : ℕ) → pending filled partial ≡ bits (filled % 8) partial
unfolding bits
pending_bits filled partial = refl

-- `% (1 << w)`, as a remainder
low_bits : (v w : ℕ) → w ≤ 32 → v % ((1 * 2 ^ w) % 18446744073709551616) ≡ v % 2 ^ w
low_bits v w h = ap (λ (z : ℕ). v % z) (one_shl w 64 (omega arith))

-- the shifted bits and the number's lowest ones, as the code adds them up
row_is : (partial value w a b : ℕ) → w ≤ 32 → partial < 256 → a ≡ partial → b ≡ value →
    (a * 2 ^ w) % 18446744073709551616 + b % ((1 * 2 ^ w) % 18446744073709551616) ≡ partial * 2 ^ w + value % 2 ^ w
row_is partial value w a b h small e k =
    let high : (a * 2 ^ w) % 18446744073709551616 ≡ partial * 2 ^ w = ap (λ (z : ℕ). (z * 2 ^ w) % 18446744073709551616) e ∙ shl_whole partial 8 w 64 small (omega arith) in
    let low : b % ((1 * 2 ^ w) % 18446744073709551616) ≡ value % 2 ^ w = low_bits b w h ∙ ap (λ (z : ℕ). z % 2 ^ w) k in
    ap₂ {A = ℕ} {B = ℕ} {C = ℕ} (λ x y. x + y) high low

pub packs_bits : (room room' : ℕ) (bytes bytes' : List ℕ) (outcome outcome' : Outcome) (filled partial value width w a b row : ℕ) →
    w ≡ min width 32 → partial < 256 → a ≡ partial → b ≡ value → row ≡ (a * 2 ^ w) % 18446744073709551616 + b % ((1 * 2 ^ w) % 18446744073709551616) →
    room' ≡ room → Gave room bytes outcome (whole (bits (filled % 8 + w) row)) bytes' outcome' →
    Packs room bytes outcome (pending filled partial) (bits (min width 32) value) room' bytes' outcome' (pending ((filled % 8 + w) % 8) (row % 256))
packs_bits room room' bytes bytes' outcome outcome' filled partial value width w a b row e small ea eb er er' gave =
    let n : ℕ = filled % 8 + w in
    let narrow : w ≤ 32 = omega arith in
    let rows : bits n row ≡ pending filled partial ++ bits (min width 32) value =
    bits_joined (filled % 8) w partial value row (er ∙ row_is partial value w a b narrow small ea eb)
    ∙ ap (λ (z : List Bool). z ++ bits w value) (sym (pending_bits filled partial)) ∙ ap (λ (z : ℕ). pending filled partial ++ bits z value) e in
    let twice : n % 8 % 8 ≡ n % 8 = omega arith in
    record {
      capacity = er';
      given = subst (λ (z : List Bool). Gave room bytes outcome (whole z) bytes' outcome') rows gave;
      waiting = pending_bits (n % 8) (row % 256) ∙ ap (λ (z : ℕ). bits z (row % 256)) twice ∙ bits_low (n % 8) 8 row (omega arith) ∙ sym (left_of n row) ∙ ap left rows;
    }
