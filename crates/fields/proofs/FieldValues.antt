-- A field of bits, from the whole bytes that hold it. Assumes nothing.
use Rattle.std.proofs.Common.{◌≡◌, ℕ, zero, suc, ◌+◌, ◌-◌, ◌*◌, ◌/◌, ◌%◌, ◌^◌, ◌<◌, ◌≤◌, Bool, List, [], ◌∷◌, ◌++◌, length, get_or, take, drop, Ok, Err, sym, refl, ap, ◌∙◌, subst, ap₂, arith, length-drop, length-take, pow_mono}
use Rattle.std.proofs.lemmas.List.{take-append-drop, drop-append-le, take-append-le, drop-drop, get_or-drop, length-take-le}
use Rattle.std.proofs.lemmas.Nat.{pow_pos, one_shl, mod_below}
use Rattle.stores.specs.declared.Refusal.{Refusal}
use Rattle.outputs.specs.Bits.{bits, value, spread}
use Rattle.outputs.specs.Fields.{Field, field_width}
use Rattle.outputs.specs.BitRows.{length_bits, value_bits, value_below}
use Rattle.outputs.specs.TextBytes.{spread_more}
use Rattle.outputs.specs.TextLaws.{length_spread, spread_append}
use Rattle.fields.specs.declared.reading.Window.{Window}
use Rattle.fields.specs.Reads.{Gathered, Windowed, missing}
use Rattle.fields.proofs.RowValues.{value_append, value_part}

drop_none : (n : ℕ) → drop {A = Bool} n [] ≡ []
drop_none zero = refl
drop_none (suc n) = refl

pub drop_spread : (n : ℕ) (bytes : List ℕ) → drop (8 * n) (spread bytes) ≡ spread (drop n bytes)
drop_spread zero bytes = refl
drop_spread (suc n) [] = drop_none (8 * suc n)
drop_spread (suc n) (b ∷ bytes) =
    let k : 8 * suc n ≡ 8 + 8 * n = omega arith in
    let first : drop 8 (bits 8 b ++ spread bytes) ≡ spread bytes =
    drop-append-le 8 (bits 8 b) (spread bytes) (omega (arith, length_bits 8 b)) ∙ ap (λ (z : List Bool). z ++ spread bytes) (gone (bits 8 b) (length_bits 8 b)) in
    ap (λ (z : ℕ). drop z (bits 8 b ++ spread bytes)) k ∙ sym (drop-drop (8 * n) 8 (bits 8 b ++ spread bytes)) ∙ ap (drop (8 * n)) first ∙ drop_spread n bytes
  where
    gone : (row : List Bool) → length row ≡ 8 → drop 8 row ≡ []
    gone row e = ap (λ (z : ℕ). drop z row) (sym e) ∙ all_gone row
      where
        all_gone : (xs : List Bool) → drop (length xs) xs ≡ []
        all_gone [] = refl
        all_gone (x ∷ xs) = all_gone xs

-- one byte more
value_more : (bytes : List ℕ) (k b : ℕ) → k < length bytes → b ≡ get_or bytes k 0 → b < 256 →
    value (spread (take (k + 1) bytes)) ≡ value (spread (take k bytes)) * 256 + b
value_more bytes k b l e small =
    ap value (spread_more bytes k l ∙ ap (λ (z : ℕ). spread (take k bytes) ++ bits 8 z) (sym e))
    ∙ value_append (spread (take k bytes)) (bits 8 b)
    ∙ ap (λ (z : ℕ). value (spread (take k bytes)) * 2 ^ z + value (bits 8 b)) (length_bits 8 b)
    ∙ ap (λ (z : ℕ). value (spread (take k bytes)) * 256 + z) (value_bits 8 b small)

pub gather_none : (bytes : List ℕ) (first : ℕ) → 0 ≡ value (spread (take 0 (drop first bytes)))
gather_none bytes first = refl

pub gather_more : (bytes : List ℕ) (first i v b : ℕ) → first + i < length bytes → b ≡ get_or bytes (first + i) 0 → b < 256 → v ≡ value (spread (take i (drop first bytes))) →
    v * 256 + b ≡ value (spread (take (i + 1) (drop first bytes)))
gather_more bytes first i v b l e small is =
    let g : b ≡ get_or (drop first bytes) i 0 = e ∙ sym (get_or-drop first bytes i 0) in
    ap (λ (z : ℕ). z * 256 + b) is ∙ sym (value_more (drop first bytes) i b (omega (arith, length-drop first bytes)) g small)

-- so many bytes make a number of so many bits
pub gather_below : (bytes : List ℕ) (k v : ℕ) → k ≤ 5 → v ≡ value (spread (take k bytes)) → v < 2 ^ 40
gather_below bytes k v h is =
    let l : length (spread (take k bytes)) ≤ 40 = omega (arith, length_spread (take k bytes), length-take k bytes) in
    let q : 2 ^ length (spread (take k bytes)) ≤ 2 ^ 40 = pow_mono l in
    omega (arith, is, value_below (spread (take k bytes)), q)

-- the field at a place, from the number of its bytes
pub field_value : (bytes : List ℕ) (p w count v : ℕ) → 0 < w → count ≡ (p % 8 + w + 7) / 8 → p / 8 + count ≤ length bytes →
    v ≡ value (spread (take count (drop (p / 8) bytes))) →
    value (take w (drop p (spread bytes))) ≡ (v / 2 ^ (count * 8 - (p % 8 + w))) % 2 ^ w
field_value bytes p w count v some h l is =
    let f : ℕ = p / 8 in
    let o : ℕ = p % 8 in
    let row : List Bool = spread (take count (drop f bytes)) in
    let q : p ≡ 8 * f + o = omega arith in
    let d : drop p (spread bytes) ≡ drop o (spread (drop f bytes)) =
    ap (λ (z : ℕ). drop z (spread bytes)) q ∙ sym (drop-drop o (8 * f) (spread bytes)) ∙ ap (drop o) (drop_spread f bytes) in
    let n : length (take count (drop f bytes)) ≡ count = length-take-le count (drop f bytes) (omega (arith, length-drop f bytes)) in
    let m : length row ≡ 8 * count = length_spread (take count (drop f bytes)) ∙ ap (λ (z : ℕ). 8 * z) n in
    let parts : spread (drop f bytes) ≡ row ++ spread (drop count (drop f bytes)) =
    ap spread (sym (take-append-drop count (drop f bytes))) ∙ spread_append (take count (drop f bytes)) (drop count (drop f bytes)) in
    let t : drop o (spread (drop f bytes)) ≡ drop o row ++ spread (drop count (drop f bytes)) = ap (drop o) parts ∙ drop-append-le o row _ (omega arith) in
    let long : length (drop o row) ≡ 8 * count - o = length-drop o row ∙ ap (λ (z : ℕ). z - o) m in
    let u : take w (drop p (spread bytes)) ≡ take w (drop o row) = ap (take w) (d ∙ t) ∙ take-append-le w (drop o row) _ (omega arith) in
    ap value u ∙ value_part row o w (count * 8 - (o + w)) (omega arith) ∙ ap (λ (z : ℕ). z / 2 ^ (count * 8 - (o + w)) % 2 ^ w) (sym is)

-- the window on a field whose bytes are there
pub window_there : (bytes : List ℕ) (p width w : ℕ) (window : Window) → w ≡ field_width width → length bytes ≤ 16777216 →
    window.spare ≡ (p % 8 + w + 7) / 8 * 8 - (p % 8 + w) → window.size ≡ (1 * 2 ^ w) % 18446744073709551616 → Gathered bytes (p / 8) ((p % 8 + w + 7) / 8) (Ok window.row) →
    Windowed (spread bytes) p (field_width width) (missing p bytes) (Ok window)
window_there bytes p width w window e short espare esize (l, is) =
    let count : ℕ = (p % 8 + w + 7) / 8 in
    let narrow : w ≤ 32 = omega arith in
    let inside : p / 8 + count ≤ length bytes = omega arith in
    let size : window.size ≡ 2 ^ w = esize ∙ one_shl w 64 (omega arith) in
    let number : window.row / 2 ^ window.spare % window.size ≡ window.row / 2 ^ (count * 8 - (p % 8 + w)) % 2 ^ w =
    ap₂ {A = ℕ} {B = ℕ} {C = ℕ} (λ s m. window.row / 2 ^ s % m) espare size in
    let below : window.row / 2 ^ window.spare % window.size < 2 ^ w =
    subst (λ (z : ℕ). z < 2 ^ w) (sym number) (mod_below (window.row / 2 ^ (count * 8 - (p % 8 + w))) (2 ^ w) (pow_pos w)) in
    let most : 2 ^ w ≤ 2 ^ 32 = pow_mono narrow in (
      omega arith,
      omega (arith, pow_pos w),
      omega (arith, below, most),
      subst (λ (z : ℕ). Field (spread bytes) p z (missing p bytes) (Ok (window.row / 2 ^ window.spare % window.size))) e (
        omega (arith, length_spread bytes),
        omega (arith, length_spread bytes),
        number ∙ sym (field_value bytes p w count window.row (omega arith) refl inside is),
        below,
      ),
    )

-- and of one whose bytes are not
pub window_lacks : (bytes : List ℕ) (p width w : ℕ) (refusal : Refusal) → w ≡ field_width width → Gathered bytes (p / 8) ((p % 8 + w + 7) / 8) (Err refusal) →
    Windowed (spread bytes) p (field_width width) (missing p bytes) (Err refusal)
window_lacks bytes p width w refusal e (l, is) = (omega (arith, length_spread bytes), is)
