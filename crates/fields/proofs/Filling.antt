-- The bytes of a row of bits whose last byte is filled with zeros. Assumes nothing.
use Rattle.std.proofs.Common.{◌≡◌, ℕ, zero, suc, ◌+◌, ◌-◌, ◌*◌, ◌/◌, ◌%◌, ◌<◌, ◌≤◌, min, Bool, List, [], ◌∷◌, ◌++◌, length, take, drop, Ok, sym, refl, ap, ◌∙◌, subst, arith, length-append, length-drop}
use Rattle.std.proofs.lemmas.List.{drop-drop, drop_all}
use Rattle.outputs.specs.Bits.{bits, value, packed, filling}
use Rattle.outputs.specs.TextReading.{octets}
use Rattle.outputs.specs.BitRows.{length_bits}
use Rattle.fields.specs.Rows.{whole, left}
use Rattle.fields.specs.Packs.{Outcome, Gave, Packs, Finishes, pending}
use Rattle.fields.specs.PackLaws.{gave_more, few_pending}

-- the first byte of a row
packed_byte : (row : List Bool) → 8 ≤ length row → packed row ≡ value (take 8 row) ∷ packed (drop 8 row)
packed_byte (a ∷ b ∷ c ∷ d ∷ e ∷ f ∷ g ∷ h ∷ row) l = refl
packed_byte [] l = absurd (omega arith)
packed_byte (a ∷ []) l = absurd (omega arith)
packed_byte (a ∷ b ∷ []) l = absurd (omega arith)
packed_byte (a ∷ b ∷ c ∷ []) l = absurd (omega arith)
packed_byte (a ∷ b ∷ c ∷ d ∷ []) l = absurd (omega arith)
packed_byte (a ∷ b ∷ c ∷ d ∷ e ∷ []) l = absurd (omega arith)
packed_byte (a ∷ b ∷ c ∷ d ∷ e ∷ f ∷ []) l = absurd (omega arith)
packed_byte (a ∷ b ∷ c ∷ d ∷ e ∷ f ∷ g ∷ []) l = absurd (omega arith)

packed_bytes : (n : ℕ) (row : List Bool) → 8 * n ≤ length row → packed row ≡ octets n row ++ packed (drop (8 * n) row)
packed_bytes zero row h = refl
packed_bytes (suc n) row h =
    let d : 8 + 8 * n ≡ 8 * suc n = omega arith in
    packed_byte row (omega arith)
    ∙ ap (λ (z : List ℕ). value (take 8 row) ∷ z) (packed_bytes n (drop 8 row) (omega (arith, length-drop 8 row))
    ∙ ap (λ (z : List Bool). octets n (drop 8 row) ++ packed z) (drop-drop (8 * n) 8 row ∙ ap (λ (z : ℕ). drop z row) d))

-- the whole bytes, and then the bits that are left
pub packed_parts : (row : List Bool) → packed row ≡ whole row ++ packed (left row)
packed_parts row = packed_bytes (length row / 8) row (omega arith)

-- what is left, filled with zeros
pub packed_filled : (row : List Bool) → length row < 8 → whole (row ++ bits (filling (length row)) 0) ≡ packed row
unfolding bits
packed_filled [] l = refl
packed_filled (a ∷ []) l = ap (λ (z : ℕ). z ∷ []) (omega arith)
packed_filled (a ∷ b ∷ []) l = ap (λ (z : ℕ). z ∷ []) (omega arith)
packed_filled (a ∷ b ∷ c ∷ []) l = ap (λ (z : ℕ). z ∷ []) (omega arith)
packed_filled (a ∷ b ∷ c ∷ d ∷ []) l = ap (λ (z : ℕ). z ∷ []) (omega arith)
packed_filled (a ∷ b ∷ c ∷ d ∷ e ∷ []) l = ap (λ (z : ℕ). z ∷ []) (omega arith)
packed_filled (a ∷ b ∷ c ∷ d ∷ e ∷ f ∷ []) l = ap (λ (z : ℕ). z ∷ []) (omega arith)
packed_filled (a ∷ b ∷ c ∷ d ∷ e ∷ f ∷ g ∷ []) l = ap (λ (z : ℕ). z ∷ []) (omega arith)
packed_filled (a ∷ b ∷ c ∷ d ∷ e ∷ f ∷ g ∷ h ∷ row) l = absurd (omega arith)

-- a packer that took the zero bits of its last byte is finished
pub finishes : (room room' : ℕ) (bytes bytes' : List ℕ) (outcome outcome' : Outcome) (filled partial with : ℕ) (waits' : List Bool) →
    Packs room bytes outcome (pending filled partial) (bits (min ((8 - filled % 8) % 8) 32) with) room' bytes' outcome' waits' → with ≡ 0 →
    Finishes room bytes outcome (pending filled partial) bytes' outcome'
finishes room room' bytes bytes' outcome outcome' filled partial with waits' p zeros room⁰ bytes⁰ outcome⁰ waits row before =
    let rest : List Bool = pending filled partial in
    let n : length rest ≡ filled % 8 = few_pending filled partial in
    let spare : min ((8 - filled % 8) % 8) 32 ≡ filling (length rest) = omega arith in
    let last : whole (rest ++ bits (min ((8 - filled % 8) % 8) 32) with) ≡ packed rest =
    ap (λ (z : ℕ). whole (rest ++ bits z with)) spare ∙ ap (λ (z : ℕ). whole (rest ++ bits (filling (length rest)) z)) zeros ∙ packed_filled rest (omega arith) in
    let all : whole (waits ++ row) ++ packed rest ≡ packed (waits ++ row) = ap (λ (z : List Bool). whole (waits ++ row) ++ packed z) before.waiting ∙ sym (packed_parts (waits ++ row)) in
    subst (λ (z : List ℕ). Gave room⁰ bytes⁰ outcome⁰ z bytes' outcome') all
    (gave_more room⁰ bytes⁰ bytes bytes' (whole (waits ++ row)) (packed rest) outcome⁰ outcome outcome' before.given
    (subst (λ (z : ℕ). Gave z bytes outcome (packed rest) bytes' outcome') before.capacity
    (subst (λ (z : List ℕ). Gave room bytes outcome z bytes' outcome') last p.given)))

-- and no bit waits then
pub none_waits : (filled partial with : ℕ) (waits' : List Bool) → waits' ≡ left (pending filled partial ++ bits (min ((8 - filled % 8) % 8) 32) with) → waits' ≡ []
none_waits filled partial with waits' e =
    let spare : ℕ = min ((8 - filled % 8) % 8) 32 in
    let row : List Bool = pending filled partial ++ bits spare with in
    let full : length row ≤ 8 * (length row / 8) = omega (arith, length-append (pending filled partial) (bits spare with), few_pending filled partial, length_bits spare with) in
    e ∙ drop_all (8 * (length row / 8)) row full

-- a packer that began with no bits and no refusal, took a row and was finished has given exactly the row's bytes
pub finished_run : (room room⁰ room' : ℕ) (bytes bytes⁰ bytes' bytes'' : List ℕ) (outcome⁰ outcome' outcome'' : Outcome) (waits⁰ waits' row : List Bool) →
    room⁰ ≡ room → bytes⁰ ≡ bytes → outcome⁰ ≡ Ok tt → waits⁰ ≡ [] → Packs room⁰ bytes⁰ outcome⁰ waits⁰ row room' bytes' outcome' waits' →
    Finishes room' bytes' outcome' waits' bytes'' outcome'' → Gave room bytes (Ok tt) (packed row) bytes'' outcome''
finished_run room room⁰ room' bytes bytes⁰ bytes' bytes'' outcome⁰ outcome' outcome'' waits⁰ waits' row eroom ebytes eoutcome ewaits packs done =
    subst (λ (z : ℕ). Gave z bytes (Ok tt) (packed row) bytes'' outcome'') eroom
    (subst (λ (z : List ℕ). Gave room⁰ z (Ok tt) (packed row) bytes'' outcome'') ebytes
    (subst (λ (z : Outcome). Gave room⁰ bytes⁰ z (packed row) bytes'' outcome'') eoutcome
    (subst (λ (z : List Bool). Gave room⁰ bytes⁰ outcome⁰ (packed (z ++ row)) bytes'' outcome'') ewaits
    (done room⁰ bytes⁰ outcome⁰ waits⁰ row packs))))
