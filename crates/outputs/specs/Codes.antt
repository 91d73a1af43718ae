-- Codes one after the other: what reading them in turn gives. Assumes nothing.
use Rattle.std.specs.Prelude.{◌≡◌, ℕ, Bool, ◌⊎◌, List, [], ◌∷◌, ◌++◌, ◌≢◌, refl}
use Rattle.std.proofs.Common.{sym, ap, ap₂, ◌∙◌, subst, append_assoc, inl, inr, arith}
use Rattle.outputs.specs.Kinds.{Reading, got, begun, no_code, and_then}

-- `read` reads exactly the codes of good outputs, and else tells whether the bits begin one
pub record Coded {A : Type 0} (good : A → Type 0) (code : A → List Bool) (read : List Bool → Reading A) : Type 0 where
  pub on_code : (x : A) → good x → (more : List Bool) → read (code x ++ more) ≡ got x more
  pub if_got : (bs : List Bool) (x : A) (more : List Bool) → read bs ≡ got x more → good x × (bs ≡ code x ++ more)
  pub if_begun : (bs : List Bool) → read bs ≡ begun → (x : A) × good x × ((more : List Bool) × (bs ++ more ≡ code x))
  pub if_no_code : (bs : List Bool) → read bs ≡ no_code → (x : A) → good x → (more : List Bool) → bs ++ more ≢ code x

-- of two ways to part a row, one parts the other's front
parted : (b m c d : List Bool) → b ++ m ≡ c ++ d → ((t : List Bool) × (b ++ t ≡ c)) ⊎ ((s : List Bool) × (b ≡ c ++ s))
parted [] m c d e = inl (c, refl)
parted (x ∷ b) m [] d e = inr (x ∷ b, refl)
parted (x ∷ b) m (y ∷ c) d e =
    let h : x ≡ y = cc in
    let t : b ++ m ≡ c ++ d = cc in
    elim (parted b m c d t) [
      | inl p ↦ inl (p.0, ap₂ {C = List Bool} (λ z l. z ∷ l) h p.1)
      | inr p ↦ inr (p.0, ap₂ {C = List Bool} (λ z l. z ∷ l) h p.1)
    ]

module _ {A B D : Type 0} (make : A → B → D)
    {good_a : A → Type 0} {code_a : A → List Bool} {read_a : List Bool → Reading A} (ca : Coded good_a code_a read_a)
    {good_b : A → B → Type 0} {code_b : B → List Bool} {read_b : A → List Bool → Reading B} (cb : (a : A) → Coded (good_b a) code_b (read_b a))
    (some_b : (a : A) → good_a a → (b : B) × good_b a b)
    (good_d : D → Type 0) (code_d : D → List Bool)
    (made : (a : A) (b : B) → good_a a → good_b a b → good_d (make a b) × (code_d (make a b) ≡ code_a a ++ code_b b))
    (parts : (d : D) → good_d d → (a : A) × (b : B) × good_a a × good_b a b × (make a b ≡ d)) where
  abbrev behind : A → List Bool → Reading D
  behind a more = and_then (read_b a more) (λ b more'. got (make a b) more')

  code_parts : (d : D) (g : good_d d) → code_d d ≡ code_a (parts d g).0 ++ code_b (parts d g).1
  code_parts d g = let p = parts d g in ap code_d (sym p.4) ∙ (made p.0 p.1 p.2 p.3).1

  pub in_turn : Coded good_d code_d (λ bs. and_then (read_a bs) behind)
  in_turn = record { on_code = on_code; if_got = if_got; if_begun = if_begun; if_no_code = if_no_code }
    where
      on_code : (d : D) → good_d d → (more : List Bool) → and_then (read_a (code_d d ++ more)) behind ≡ got d more
      on_code d g more =
          let p = parts d g in
          ap (λ c. and_then (read_a (c ++ more)) behind) (code_parts d g)
          ∙ ap (λ c. and_then (read_a c) behind) (append_assoc (code_a p.0) (code_b p.1) more)
          ∙ ap (λ r. and_then r behind) (ca.on_code p.0 p.2 (code_b p.1 ++ more))
          ∙ ap (λ r. and_then r (λ b more'. got (make p.0 b) more')) ((cb p.0).on_code p.1 p.3 more)
          ∙ ap (λ z. got z more) p.4

      got_2 : (bs : List Bool) (d : D) (more : List Bool) (a : A) (m : List Bool) → read_a bs ≡ got a m → (r : Reading B) → read_b a m ≡ r → and_then r (λ b more'. got (make a b) more') ≡ got d more → good_d d × (bs ≡ code_d d ++ more)
      got_2 bs d more a m ea (got b m') eb e =
          let pa = ca.if_got bs a m ea in
          let pb = (cb a).if_got m b m' eb in
          let k = made a b pa.0 pb.0 in
          let ed : make a b ≡ d = cc in
          let em : m' ≡ more = cc in (
            subst good_d ed k.0,
            pa.1 ∙ ap (λ l. code_a a ++ l) pb.1 ∙ sym (append_assoc (code_a a) (code_b b) m') ∙ ap₂ ◌++◌ (sym k.1 ∙ ap code_d ed) em,
          )
      got_2 bs d more a m ea begun eb e = let z : ◌≡◌ {A = ℕ} 0 1 = cc in absurd (omega arith)
      got_2 bs d more a m ea no_code eb e = let z : ◌≡◌ {A = ℕ} 0 1 = cc in absurd (omega arith)

      got_1 : (bs : List Bool) (d : D) (more : List Bool) (r : Reading A) → read_a bs ≡ r → and_then r behind ≡ got d more → good_d d × (bs ≡ code_d d ++ more)
      got_1 bs d more (got a m) ea e = got_2 bs d more a m ea (read_b a m) refl e
      got_1 bs d more begun ea e = let z : ◌≡◌ {A = ℕ} 0 1 = cc in absurd (omega arith)
      got_1 bs d more no_code ea e = let z : ◌≡◌ {A = ℕ} 0 1 = cc in absurd (omega arith)

      if_got : (bs : List Bool) (d : D) (more : List Bool) → and_then (read_a bs) behind ≡ got d more → good_d d × (bs ≡ code_d d ++ more)
      if_got bs d more e = got_1 bs d more (read_a bs) refl e

      begun_2 : (bs : List Bool) (a : A) (m : List Bool) → read_a bs ≡ got a m → (r : Reading B) → read_b a m ≡ r → and_then r (λ b more'. got (make a b) more') ≡ begun → (d : D) × good_d d × ((more : List Bool) × (bs ++ more ≡ code_d d))
      begun_2 bs a m ea (got b m') eb e = let z : ◌≡◌ {A = ℕ} 0 1 = cc in absurd (omega arith)
      begun_2 bs a m ea begun eb e =
          let pa = ca.if_got bs a m ea in
          let pb = (cb a).if_begun m eb in
          let k = made a pb.0 pa.0 pb.1 in
          (make a pb.0, k.0, (pb.2.0, ap (λ l. l ++ pb.2.0) pa.1 ∙ append_assoc (code_a a) m pb.2.0 ∙ ap (λ l. code_a a ++ l) pb.2.1 ∙ sym k.1))
      begun_2 bs a m ea no_code eb e = let z : ◌≡◌ {A = ℕ} 0 1 = cc in absurd (omega arith)

      begun_1 : (bs : List Bool) (r : Reading A) → read_a bs ≡ r → and_then r behind ≡ begun → (d : D) × good_d d × ((more : List Bool) × (bs ++ more ≡ code_d d))
      begun_1 bs (got a m) ea e = begun_2 bs a m ea (read_b a m) refl e
      begun_1 bs begun ea e =
          let pa = ca.if_begun bs ea in
          let b = some_b pa.0 pa.1 in
          let k = made pa.0 b.0 pa.1 b.1 in
          (make pa.0 b.0, k.0, (pa.2.0 ++ code_b b.0, sym (append_assoc bs pa.2.0 (code_b b.0)) ∙ ap (λ l. l ++ code_b b.0) pa.2.1 ∙ sym k.1))
      begun_1 bs no_code ea e = let z : ◌≡◌ {A = ℕ} 0 1 = cc in absurd (omega arith)

      if_begun : (bs : List Bool) → and_then (read_a bs) behind ≡ begun → (d : D) × good_d d × ((more : List Bool) × (bs ++ more ≡ code_d d))
      if_begun bs e = begun_1 bs (read_a bs) refl e

      none_2 : (bs : List Bool) (a : A) (m : List Bool) → read_a bs ≡ got a m → (r : Reading B) → read_b a m ≡ r → and_then r (λ b more'. got (make a b) more') ≡ no_code → (d : D) → good_d d → (more : List Bool) → bs ++ more ≢ code_d d
      none_2 bs a m ea (got b m') eb e d g more s = let z : ◌≡◌ {A = ℕ} 0 1 = cc in absurd (omega arith)
      none_2 bs a m ea begun eb e d g more s = let z : ◌≡◌ {A = ℕ} 0 1 = cc in absurd (omega arith)
      none_2 bs a m ea no_code eb e d g more s =
          let pa = ca.if_got bs a m ea in
          let p = parts d g in
          let rows : code_a a ++ (m ++ more) ≡ code_a p.0 ++ code_b p.1 = sym (append_assoc (code_a a) m more) ∙ ap (λ l. l ++ more) (sym pa.1) ∙ s ∙ code_parts d g in
          let same : got a (m ++ more) ≡ got p.0 (code_b p.1) = sym (ca.on_code a pa.0 (m ++ more)) ∙ ap read_a rows ∙ ca.on_code p.0 p.2 (code_b p.1) in
          let sa : p.0 ≡ a = cc in
          let sm : m ++ more ≡ code_b p.1 = cc in
          (cb a).if_no_code m eb p.1 (subst (λ y. good_b y p.1) sa p.3) more sm

      none_1 : (bs : List Bool) (r : Reading A) → read_a bs ≡ r → and_then r behind ≡ no_code → (d : D) → good_d d → (more : List Bool) → bs ++ more ≢ code_d d
      none_1 bs (got a m) ea e d g more s = none_2 bs a m ea (read_b a m) refl e d g more s
      none_1 bs begun ea e d g more s = let z : ◌≡◌ {A = ℕ} 0 1 = cc in absurd (omega arith)
      none_1 bs no_code ea e d g more s =
          let p = parts d g in
          elim (parted bs more (code_a p.0) (code_b p.1) (s ∙ code_parts d g)) [
            | inl f ↦ ca.if_no_code bs ea p.0 p.2 f.0 f.1
            | inr f ↦
                let h : read_a bs ≡ got p.0 f.0 = ap read_a f.1 ∙ ca.on_code p.0 p.2 f.0 in
                let z : ◌≡◌ {A = ℕ} 0 1 = cc in absurd (omega arith)
          ]

      if_no_code : (bs : List Bool) → and_then (read_a bs) behind ≡ no_code → (d : D) → good_d d → (more : List Bool) → bs ++ more ≢ code_d d
      if_no_code bs e = none_1 bs (read_a bs) refl e
