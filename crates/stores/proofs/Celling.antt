-- Bytes of cells, read and written one by one. Assumes nothing of the cells but that they hold their bytes in turn.
use Rattle.std.proofs.Common.{◌≡◌, Bool, true, false, ◌&&◌, nat_le, refl, inl, inr, le-leb, leb-true, ℕ, zero, suc, ◌+◌, ◌-◌, ◌*◌, ◌/◌, ◌%◌, ◌<◌, ◌≤◌, List, [], ◌∷◌, ◌++◌, length, get_or, set, sym, ap, ap₂, ◌∙◌, arith, length-append}
use Rattle.std.proofs.Math.Nat.{mul_comm, mul-suc, suc-mul}
use Rattle.std.proofs.lemmas.Nat.{div-add-mod', div_below, mod_below, le-div, mul-le}
use Rattle.std.proofs.lemmas.Bool.{and_parts, and_from, cases_lt}
use borrow.Author.Tests.{lt-leb}
use Rattle.std.proofs.lemmas.List.{get_or_append_left, get_or-append-add, set-append_left, set-append_right}
use Rattle.stores.specs.Cells.{InTurn}
use Rattle.stores.specs.Memories.{fits}

pub all_long : {X : Type 0} {size : ℕ} {span : ℕ → ℕ} {one : X → List ℕ} {all : List X → List ℕ} → InTurn size span one all →
    (cells : List X) → length (all cells) ≡ span (length cells)
all_long {size = size} h [] = ap length h.none ∙ sym (h.spans 0 ∙ omega arith)
all_long {size = size} {one = one} {all = all} h (cell ∷ cells) =
    omega (arith, ap length (h.more cell cells), length-append (one cell) (all cells), h.long cell, all_long h cells, h.spans (length cells), h.spans (suc (length cells)), mul-suc size (length cells))

-- byte r of cell q
byte_at : {X : Type 0} {size : ℕ} {span : ℕ → ℕ} {one : X → List ℕ} {all : List X → List ℕ} → InTurn size span one all →
    (cells : List X) (q r : ℕ) (d : X) → q < length cells → r < size → get_or (all cells) (q * size + r) 0 ≡ get_or (one (get_or cells q d)) r 0
byte_at h [] q r d l k = absurd (omega arith)
byte_at {size = size} {one = one} {all = all} h (cell ∷ cells) zero r d l k =
    let e : 0 * size + r ≡ r = omega arith in
    ap₂ (λ (xs : List ℕ) (i : ℕ). get_or xs i 0) (h.more cell cells) e ∙ get_or_append_left (one cell) (all cells) 0 r (rw h.long k)
byte_at {size = size} {one = one} {all = all} h (cell ∷ cells) (suc q) r d l k =
    let e : suc q * size + r ≡ length (one cell) + (q * size + r) = omega (arith, h.long cell, suc-mul q size) in
    ap₂ (λ (xs : List ℕ) (i : ℕ). get_or xs i 0) (h.more cell cells) e
    ∙ get_or-append-add (one cell) (all cells) (q * size + r) 0
    ∙ byte_at h cells q r d (omega arith) k

-- a cell in place of cell q whose bytes differ in byte r alone
byte_set : {X : Type 0} {size : ℕ} {span : ℕ → ℕ} {one : X → List ℕ} {all : List X → List ℕ} → InTurn size span one all →
    (cells : List X) (q r byte : ℕ) (d cell' : X) → q < length cells → r < size → one cell' ≡ set (one (get_or cells q d)) r byte →
    all (set cells q cell') ≡ set (all cells) (q * size + r) byte
byte_set h [] q r byte d cell' l k s = absurd (omega arith)
byte_set {size = size} {one = one} {all = all} h (cell ∷ cells) zero r byte d cell' l k s =
    let e : 0 * size + r ≡ r = omega arith in
    h.more cell' cells
    ∙ ap (λ (xs : List ℕ). xs ++ all cells) s
    ∙ sym (ap₂ (λ (xs : List ℕ) (i : ℕ). set xs i byte) (h.more cell cells) e ∙ set-append_left (one cell) (all cells) r byte (rw h.long k))
byte_set {size = size} {one = one} {all = all} h (cell ∷ cells) (suc q) r byte d cell' l k s =
    let e : (suc q * size + r) - size ≡ q * size + r = omega (arith, suc-mul q size) in
    h.more cell (set cells q cell')
    ∙ ap (λ (xs : List ℕ). one cell ++ xs) (byte_set h cells q r byte d cell' (omega arith) k s)
    ∙ sym (ap (λ (xs : List ℕ). set xs (suc q * size + r) byte) (h.more cell cells)
    ∙ set-append_right (one cell) (all cells) size (suc q * size + r) byte (h.long cell) (omega (arith, suc-mul q size))
    ∙ ap (λ (i : ℕ). one cell ++ set (all cells) i byte) e)

-- the cell that holds a byte is there
pub cell_there : {X : Type 0} {size : ℕ} {span : ℕ → ℕ} {one : X → List ℕ} {all : List X → List ℕ} → InTurn size span one all →
    (cells : List X) (i n : ℕ) → n ≡ size → i < length (all cells) → i / n < length cells
cell_there {size = size} h cells i n e l =
    rw e (div_below i size (length cells) h.some (omega (arith, l, all_long h cells, h.spans (length cells), mul_comm size (length cells))))

pub read_byte : {X : Type 0} {size : ℕ} {span : ℕ → ℕ} {one : X → List ℕ} {all : List X → List ℕ} → InTurn size span one all →
    (cells : List X) (i : ℕ) (d : X) → i < length (all cells) → get_or (one (get_or cells (i / size) d)) (i % size) 0 ≡ get_or (all cells) i 0
read_byte {size = size} {all = all} h cells i d l =
    sym (byte_at h cells (i / size) (i % size) d (cell_there h cells i size refl l) (mod_below i size h.some))
    ∙ ap (λ (k : ℕ). get_or (all cells) k 0) (div-add-mod' i size)

pub written_byte : {X : Type 0} {size : ℕ} {span : ℕ → ℕ} {one : X → List ℕ} {all : List X → List ℕ} → InTurn size span one all →
    (cells : List X) (i byte : ℕ) (d cell' : X) → i < length (all cells) → one cell' ≡ set (one (get_or cells (i / size) d)) (i % size) byte →
    all (set cells (i / size) cell') ≡ set (all cells) i byte
written_byte {size = size} {all = all} h cells i byte d cell' l s =
    byte_set h cells (i / size) (i % size) byte d cell' (cell_there h cells i size refl l) (mod_below i size h.some) s
    ∙ ap (λ (k : ℕ). set (all cells) k byte) (div-add-mod' i size)

-- so many cells hold too many bytes
pub too_many : {X : Type 0} {size : ℕ} {span : ℕ → ℕ} {one : X → List ℕ} {all : List X → List ℕ} → InTurn size span one all →
    (n used : ℕ) → 16777216 / size < n → fits (span n) used ≡ false
too_many {size = size} {span = span} h n used t = ap (λ b. b && nat_le used (span n)) (lt-leb (span n) 16777216 many)
  where
    many : 16777216 < span n
    many = elim (cases_lt 16777216 (n * size)) [
      | inl l ↦ omega (arith, l, h.spans n, mul_comm size n)
      | inr l ↦ absurd (omega (arith, le-div n 16777216 size h.some l, t))
    ]

-- too many are said to be used
pub too_few : {X : Type 0} {size : ℕ} {span : ℕ → ℕ} {one : X → List ℕ} {all : List X → List ℕ} → InTurn size span one all →
    (n used : ℕ) → size * n < used → fits (span n) used ≡ false
too_few {span = span} h n used t = go (nat_le (span n) 16777216) (lt-leb used (span n) (omega (arith, t, h.spans n)))
  where
    go : (a : Bool) → nat_le used (span n) ≡ false → (a && nat_le used (span n)) ≡ false
    go true e = e
    go false e = refl

pub can_be_store : {X : Type 0} {size : ℕ} {span : ℕ → ℕ} {one : X → List ℕ} {all : List X → List ℕ} → InTurn size span one all →
    (n used : ℕ) → n ≤ 16777216 / size → used ≤ size * n → fits (span n) used ≡ true
can_be_store {size = size} {span = span} h n used t u =
    and_from (nat_le (span n) 16777216) (nat_le used (span n))
    (le-leb (span n) 16777216 (omega (arith, mul-le n size (16777216 / size) size t (omega arith), div-add-mod' 16777216 size, h.spans n, mul_comm size n)))
    (le-leb used (span n) (omega (arith, u, h.spans n)))

pub fits_within : (bytes used : ℕ) → fits bytes used ≡ true → (bytes ≤ 16777216) × (used ≤ bytes)
fits_within bytes used f = let p = and_parts (nat_le bytes 16777216) (nat_le used bytes) f in (leb-true bytes 16777216 p.0, leb-true used bytes p.1)
