-- The code of texts, and the laws of texts. Assumes nothing.
use Rattle.std.specs.Prelude.{◌≡◌, ℕ, zero, suc, ◌+◌, ◌-◌, ◌*◌, ◌^◌, ◌<◌, ◌≤◌, Bool, true, false, cond, List, [], ◌∷◌, ◌++◌, length, take, drop, replicate, ◌≢◌, nat_le, nat_lt, refl}
use Rattle.std.proofs.Common.{sym, ap, ap₂, ◌∙◌, subst, arith, lit<, length-append, leb-true, leb-false, lt-ltb, ltb-true}
use mathlib.Core.List.{append_assoc, append-nil, append_cancel_left, append-eq-nil_iff, is_set}
use Rattle.std.proofs.Math.Nat.{ℕ_set}
use Rattle.std.proofs.lemmas.List.{length-replicate, nil_from_length}
use Rattle.std.proofs.lemmas.Bool.{cond-true, and_parts, and_from, both_ways}
use Rattle.outputs.specs.Bits.{bits, bit, value, value_on, spread}
use Rattle.outputs.specs.Kinds.{Laws, Reading, got, begun, no_code, read_field}
use Rattle.outputs.specs.Texts.{texts, all_bytes, read_upto, read_bytes, read_text}
use Rattle.outputs.specs.BitRows.{length_bits, value_bits, bits_value, field_code, field_got, field_begun, field_not_no}
use Rattle.outputs.specs.Codes.{Coded, in_turn}
use Rattle.outputs.specs.TextParts.{shared_left, shared_right, shared_greatest, after_is, after_else, parts}

pub field_coded : (w : ℕ) → Coded (λ n. nat_lt n (2 ^ w) ≡ true) (bits w) (read_field w)
field_coded w = record {
  on_code = field_code w;
  if_got = field_got w;
  if_begun = field_begun w;
  if_no_code = λ bs r x g more e. field_not_no w bs r;
}

field_short : (w : ℕ) (bs : List Bool) → read_field w bs ≡ begun → length bs < w
field_short w bs = go (nat_lt (length bs) w) refl
  where
    go : (t : Bool) → nat_lt (length bs) w ≡ t → cond t begun (got (value (take w bs)) (drop w bs)) ≡ begun → length bs < w
    go true e r = ltb-true (length bs) w e
    go false e r = let z : ◌≡◌ {A = ℕ} 0 1 = cc in absurd (omega arith)

pub value_on_append : (a : ℕ) (bs t : List Bool) → value_on a (bs ++ t) ≡ value_on (value_on a bs) t
value_on_append a [] t = refl
value_on_append a (b ∷ bs) t = value_on_append (2 * a + bit b) bs t

-- zeros are the least that can stand there
zeros_least : (a c : ℕ) (t : List Bool) → a ≤ c → value_on a (replicate (length t) false) ≤ value_on c t
zeros_least a c [] h = h
zeros_least a c (b ∷ t) h = zeros_least (2 * a + 0) (2 * c + bit b) t (omega arith)

module _ (w most : ℕ) (fits : most < 2 ^ w) where
  good_fits : (n : ℕ) → nat_le n most ≡ true → nat_lt n (2 ^ w) ≡ true
  good_fits n g = lt-ltb n (2 ^ w) (omega (arith, leb-true n most g))

  filled : List Bool → List Bool
  filled bs = bs ++ replicate (w - length bs) false

  abbrev limited : List Bool → Reading ℕ → Reading ℕ
  limited bs r = elim r [
    | got n more ↦ cond (nat_le n most) (got n more) no_code
    | begun ↦ cond (nat_le (value (bs ++ replicate (w - length bs) false)) most) begun no_code
    | no_code ↦ no_code
  ]

  pub upto_coded : Coded (λ n. nat_le n most ≡ true) (bits w) (read_upto w most)
  upto_coded = record { on_code = on_code; if_got = λ bs x more e. if_got bs x more (read_field w bs) refl e; if_begun = λ bs e. if_begun bs (read_field w bs) refl e; if_no_code = λ bs e. if_no_code bs (read_field w bs) refl e }
    where
      on_code : (n : ℕ) → nat_le n most ≡ true → (more : List Bool) → read_upto w most (bits w n ++ more) ≡ got n more
      on_code n g more = ap (limited (bits w n ++ more)) (field_code w n (good_fits n g) more) ∙ cond-true (nat_le n most) (got n more) no_code g

      if_got : (bs : List Bool) (x : ℕ) (more : List Bool) (r : Reading ℕ) → read_field w bs ≡ r → limited bs r ≡ got x more → (nat_le x most ≡ true) × (bs ≡ bits w x ++ more)
      if_got bs x more (got n m) er e = go (nat_le n most) refl e
        where
          go : (t : Bool) → nat_le n most ≡ t → cond t (got n m) no_code ≡ got x more → (nat_le x most ≡ true) × (bs ≡ bits w x ++ more)
          go true s f =
              let en : n ≡ x = cc in
              let em : m ≡ more = cc in
              (subst (λ y. nat_le y most ≡ true) en s, (field_got w bs n m er).1 ∙ ap₂ (λ y l. bits w y ++ l) en em)
          go false s f = let z : ◌≡◌ {A = ℕ} 0 1 = cc in absurd (omega arith)
      if_got bs x more begun er e = go (nat_le (value (bs ++ replicate (w - length bs) false)) most) e
        where
          go : (t : Bool) → cond {A = Reading ℕ} t begun no_code ≡ got x more → (nat_le x most ≡ true) × (bs ≡ bits w x ++ more)
          go true f = let z : ◌≡◌ {A = ℕ} 0 1 = cc in absurd (omega arith)
          go false f = let z : ◌≡◌ {A = ℕ} 0 1 = cc in absurd (omega arith)
      if_got bs x more no_code er e = let z : ◌≡◌ {A = ℕ} 0 1 = cc in absurd (omega arith)

      if_begun : (bs : List Bool) (r : Reading ℕ) → read_field w bs ≡ r → limited bs r ≡ begun → (x : ℕ) × (nat_le x most ≡ true) × ((more : List Bool) × (bs ++ more ≡ bits w x))
      if_begun bs (got n m) er e = go (nat_le n most) e
        where
          go : (t : Bool) → cond t (got n m) no_code ≡ begun → (x : ℕ) × (nat_le x most ≡ true) × ((more : List Bool) × (bs ++ more ≡ bits w x))
          go true f = let z : ◌≡◌ {A = ℕ} 0 1 = cc in absurd (omega arith)
          go false f = let z : ◌≡◌ {A = ℕ} 0 1 = cc in absurd (omega arith)
      if_begun bs begun er e = go (nat_le (value (bs ++ replicate (w - length bs) false)) most) refl e
        where
          row : List Bool
          row = replicate (w - length bs) false

          long : length (bs ++ row) ≡ w
          long = length-append bs row ∙ ap (λ n. length bs + n) (length-replicate (w - length bs) false) ∙ omega (arith, field_short w bs er)

          go : (t : Bool) → nat_le (value (bs ++ row)) most ≡ t → cond {A = Reading ℕ} t begun no_code ≡ begun → (x : ℕ) × (nat_le x most ≡ true) × ((more : List Bool) × (bs ++ more ≡ bits w x))
          go true s f = (value (bs ++ row), s, (row, sym (bits_value (bs ++ row)) ∙ ap (λ n. bits n (value (bs ++ row))) long))
          go false s f = let z : ◌≡◌ {A = ℕ} 0 1 = cc in absurd (omega arith)
      if_begun bs no_code er e = let z : ◌≡◌ {A = ℕ} 0 1 = cc in absurd (omega arith)

      if_no_code : (bs : List Bool) (r : Reading ℕ) → read_field w bs ≡ r → limited bs r ≡ no_code → (x : ℕ) → nat_le x most ≡ true → (more : List Bool) → bs ++ more ≢ bits w x
      if_no_code bs (got n m) er e x g more s = go (nat_le n most) refl e
        where
          go : (t : Bool) → nat_le n most ≡ t → cond t (got n m) no_code ≢ no_code
          go true t f = let z : ◌≡◌ {A = ℕ} 0 1 = cc in absurd (omega arith)
          go false t f =
              let p = field_got w bs n m er in
              let rows : bits w n ++ (m ++ more) ≡ bits w x ++ [] = sym (append_assoc (bits w n) m more) ∙ ap (λ l. l ++ more) (sym p.1) ∙ s ∙ sym (append-nil (bits w x)) in
              let same : got n (m ++ more) ≡ got x [] = sym (field_code w n p.0 (m ++ more)) ∙ ap (read_field w) rows ∙ field_code w x (good_fits x g) [] in
              let nx : n ≡ x = cc in
              both_ways (nat_le x most) (subst (λ y. nat_le y most ≡ false) nx t) g
      if_no_code bs begun er e x g more s = go (nat_le (value (bs ++ replicate (w - length bs) false)) most) refl e
        where
          go : (t : Bool) → nat_le (value (bs ++ replicate (w - length bs) false)) most ≡ t → cond {A = Reading ℕ} t begun no_code ≡ no_code → ⊥
          go true t f = let z : ◌≡◌ {A = ℕ} 0 1 = cc in absurd (omega arith)
          go false t f =
              let l : length more ≡ w - length bs = omega (arith, length-append bs more, ap length s, length_bits w x) in
              let v : value (bs ++ more) ≡ x = ap value s ∙ value_bits w x (ltb-true x (2 ^ w) (good_fits x g)) in
              omega (
                arith,
                leb-true x most g,
                leb-false _ most t,
                v,
                value_on_append 0 bs more,
                value_on_append 0 bs (replicate (w - length bs) false),
                ap (λ n. value_on (value bs) (replicate n false)) l,
                zeros_least (value bs) (value bs) more (omega arith),
              )
      if_no_code bs no_code er e x g more s = field_not_no w bs er

abbrev Bytes : ℕ → List ℕ → Type 0
Bytes n x = (length x ≡ n) × (all_bytes x ≡ true)

zeros : (n : ℕ) → (x : List ℕ) × Bytes n x
zeros zero = ([], (refl, refl))
zeros (suc n) = let z = zeros n in (0 ∷ z.0, (ap suc z.1.0, z.1.1))

pub bytes_coded : (n : ℕ) → Coded (Bytes n) spread (read_bytes n)
bytes_coded zero = record {
  on_code = λ x g more. ap (λ y. got y (spread x ++ more)) (sym (nil_from_length x g.0)) ∙ ap (λ y. got x (spread y ++ more)) (nil_from_length x g.0);
  if_got = λ bs x more e. let ex : [] ≡ x = cc in let em : bs ≡ more = cc in (subst (Bytes 0) ex (refl, refl), em ∙ ap (λ y. spread y ++ more) ex);
  if_begun = λ bs e. let z : ◌≡◌ {A = ℕ} 0 1 = cc in absurd (omega arith);
  if_no_code = λ bs e x g more s. let z : ◌≡◌ {A = ℕ} 0 1 = cc in absurd (omega arith);
}
bytes_coded (suc n) =
    in_turn {D = List ℕ} (λ a x. a ∷ x) (field_coded 8) (λ a. bytes_coded n) (λ a g. zeros n) (Bytes (suc n)) spread
    (λ a x ga gx. ((ap suc gx.0, and_from (nat_lt a 256) (all_bytes x) ga gx.1), refl))
    back
  where
    back : (d : List ℕ) → Bytes (suc n) d → (a : ℕ) × (x : List ℕ) × (nat_lt a 256 ≡ true) × Bytes n x × (a ∷ x ≡ d)
    back [] g = absurd (omega (arith, g.0))
    back (a ∷ x) g = let p = and_parts (nat_lt a 256) (all_bytes x) g.1 in (a, x, p.0, (omega (arith, g.0), p.1), refl)

pub text_coded : Coded (λ x. texts.storable x ≡ true) texts.code read_text
text_coded =
    in_turn (λ n x. x) (upto_coded 5 24 (lit< tt)) bytes_coded (λ n g. zeros n) (λ x. texts.storable x ≡ true) texts.code
    (λ n x gn gx. (and_from (nat_le (length x) 24) (all_bytes x) (subst (λ m. nat_le m 24 ≡ true) (sym gx.0) gn) gx.1, ap (λ m. bits 5 m ++ spread x) gx.0))
    (λ x g. let p = and_parts (nat_le (length x) 24) (all_bytes x) g in (length x, x, p.0, (refl, p.1), refl))

pub length_spread : (x : List ℕ) → length (spread x) ≡ 8 * length x
length_spread [] = refl
length_spread (a ∷ x) = omega (arith, length-append (bits 8 a) (spread x), length_bits 8 a, length_spread x)

pub spread_append : (x y : List ℕ) → spread (x ++ y) ≡ spread x ++ spread y
spread_append [] y = refl
spread_append (a ∷ x) y = ap (λ l. bits 8 a ++ l) (spread_append x y) ∙ sym (append_assoc (bits 8 a) (spread x) (spread y))

pub texts_lawful : Laws texts
texts_lawful = record {
  set = is_set ℕ_set;
  associative = append_assoc;
  neutral_left = λ x. refl;
  neutral_right = append-nil;
  left_cancel = append_cancel_left;
  empty_parts = λ x y e. append-eq-nil_iff.0 e;
  common_of_left = shared_left;
  common_of_right = shared_right;
  common_greatest = shared_greatest;
  empty_storable = refl;
  parts_storable = parts;
  code_short = λ x s. omega (arith, length-append (bits 5 (length x)) (spread x), length_bits 5 (length x), length_spread x, leb-true (length x) 24 (and_parts (nat_le (length x) 24) (all_bytes x) s).0);
  read_code = text_coded.on_code;
  read_got = text_coded.if_got;
  read_begun = text_coded.if_begun;
  read_no_code = text_coded.if_no_code;
  rest_of_join = after_is;
  rest_else_empty = after_else;
  number_fits = lit< tt;
}
