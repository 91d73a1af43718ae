-- Bytes of a text in an array: what is written over them, and how far two strings agree. Assumes nothing.
use Rattle.std.specs.Prelude.{◌≡◌, ℕ, zero, suc, ◌+◌, ◌<◌, ◌≤◌, Bool, true, false, cond, ◌&&◌, leb, List, [], ◌∷◌, ◌++◌, length, take, drop, ◌==◌, ◌≢◌, nat_eq, nat_le, nat_lt, slice_index, slice_set, refl}
use Rattle.std.proofs.Common.{sym, ap, ap₂, ◌∙◌, append_assoc, append-nil, arith, add_assoc, length-append, length-take-le, lt-ltb, eq-eqb, ne_eqb, eqb-true}
use Rattle.std.proofs.lemmas.Bool.{and_parts, and_from, cond-true, cond-false, eqb-false}
use Rattle.std.proofs.lemmas.List.{take_more, take_more_set, drop_more, drop_all, take_all, nil_from_length}
use Rattle.outputs.specs.Texts.{texts, all_bytes, shared, after}
use Rattle.outputs.specs.Bits.{bits, spread}
use Rattle.outputs.specs.Joins.{Tells}
use Rattle.outputs.specs.TextParts.{shared_right}

pub all_bytes_set : (xs : List ℕ) (i v : ℕ) → all_bytes xs ≡ true → v < 256 → all_bytes (slice_set xs i v) ≡ true
all_bytes_set [] i v h f = refl
all_bytes_set (x ∷ xs) zero v h f = and_from (nat_lt v 256) (all_bytes xs) (lt-ltb v 256 f) (and_parts (nat_lt x 256) (all_bytes xs) h).1
all_bytes_set (x ∷ xs) (suc i) v h f =
    let p = and_parts (nat_lt x 256) (all_bytes xs) h in
    and_from (nat_lt x 256) (all_bytes (slice_set xs i v)) p.0 (all_bytes_set xs i v p.1 f)

pub all_bytes_take : (n : ℕ) (xs : List ℕ) → all_bytes xs ≡ true → all_bytes (take n xs) ≡ true
all_bytes_take zero xs h = refl
all_bytes_take (suc n) [] h = refl
all_bytes_take (suc n) (x ∷ xs) h =
    let p = and_parts (nat_lt x 256) (all_bytes xs) h in
    and_from (nat_lt x 256) (all_bytes (take n xs)) p.0 (all_bytes_take n xs p.1)

pub all_bytes_join : (xs ys : List ℕ) → all_bytes xs ≡ true → all_bytes ys ≡ true → all_bytes (xs ++ ys) ≡ true
all_bytes_join [] ys h g = g
all_bytes_join (x ∷ xs) ys h g =
    let p = and_parts (nat_lt x 256) (all_bytes xs) h in
    and_from (nat_lt x 256) (all_bytes (xs ++ ys)) p.0 (all_bytes_join xs ys p.1 g)

-- one byte more is written at place + i
pub written_more : (bytes front from : List ℕ) (place i : ℕ) → i < length from → place + i < length bytes → take (place + i) bytes ≡ front ++ take i from
    → take (place + (i + 1)) (slice_set bytes (place + i) (slice_index from i)) ≡ front ++ take (i + 1) from
written_more bytes front from place i h g e =
    ap (λ n. take n (slice_set bytes (place + i) (slice_index from i))) (sym (add_assoc place i 1))
    ∙ take_more_set bytes (place + i) (slice_index from i) g
    ∙ ap (λ l. l ++ slice_index from i ∷ []) e
    ∙ append_assoc front (take i from) (slice_index from i ∷ [])
    ∙ ap (λ l. front ++ l) (sym (take_more from i 0 h))

-- What two strings share is what they share up to n and what they share from there on.
abbrev pub Agree : List ℕ → List ℕ → ℕ → Type 0
Agree a b n = shared a b ≡ take n a ++ shared (drop n a) (drop n b)

pub agree_more : (a b : List ℕ) (n : ℕ) → n < length a → n < length b → slice_index a n ≡ slice_index b n → Agree a b n → Agree a b (n + 1)
agree_more a b n ha hb same e =
    e
    ∙ ap (λ l. take n a ++ l)
    (ap₂ shared (drop_more a n 0 ha) (drop_more b n 0 hb)
    ∙ cond-true (slice_index a n == slice_index b n) (slice_index a n ∷ shared (drop (n + 1) a) (drop (n + 1) b)) [] (eq-eqb _ _ same))
    ∙ sym (append_assoc (take n a) (slice_index a n ∷ []) (shared (drop (n + 1) a) (drop (n + 1) b)))
    ∙ ap (λ l. l ++ shared (drop (n + 1) a) (drop (n + 1) b)) (sym (take_more a n 0 ha))

shared_nothing : (a : List ℕ) → shared a [] ≡ []
shared_nothing [] = refl
shared_nothing (x ∷ a) = refl

agree_stops : (a b : List ℕ) (n : ℕ) → shared (drop n a) (drop n b) ≡ [] → Agree a b n → take n a ≡ shared a b
agree_stops a b n s e = sym (e ∙ ap (λ l. take n a ++ l) s ∙ append-nil (take n a))

pub agree_first_ends : (a b : List ℕ) (n : ℕ) → length a ≤ n → Agree a b n → take n a ≡ shared a b
agree_first_ends a b n h e = agree_stops a b n (ap (λ l. shared l (drop n b)) (drop_all n a h)) e

pub agree_second_ends : (a b : List ℕ) (n : ℕ) → length b ≤ n → Agree a b n → take n a ≡ shared a b
agree_second_ends a b n h e = agree_stops a b n (ap (λ l. shared (drop n a) l) (drop_all n b h) ∙ shared_nothing (drop n a)) e

pub agree_differ : (a b : List ℕ) (n : ℕ) → n < length a → n < length b → (slice_index a n ≢ slice_index b n) → Agree a b n → take n a ≡ shared a b
agree_differ a b n ha hb other e =
    agree_stops a b n
    (ap₂ shared (drop_more a n 0 ha) (drop_more b n 0 hb) ∙ cond-false (slice_index a n == slice_index b n) (slice_index a n ∷ shared (drop (n + 1) a) (drop (n + 1) b)) [] (ne_eqb _ _ other)) e

-- a string of which all is shared is a prefix
pub after_shared : (x z : List ℕ) → shared x z ≡ x → after x z ≡ drop (length x) z
after_shared [] z e = refl
after_shared (a ∷ x) [] e = refl
after_shared (a ∷ x) (b ∷ z) e = go (a == b) (after_shared x z) e
  where
    go : (t : Bool) → (shared x z ≡ x → after x z ≡ drop (length x) z) → cond t (a ∷ shared x z) [] ≡ a ∷ x → cond t (after x z) [] ≡ drop (length x) z
    go true deep f = let g : shared x z ≡ x = cc in deep g
    go false deep f = let o : ◌≡◌ {A = ℕ} 0 1 = cc in absurd (omega arith)

-- of a string of which not all is shared, nothing follows
pub after_else_shared : (x z : List ℕ) → length (shared x z) < length x → after x z ≡ []
after_else_shared [] z h = absurd (omega arith)
after_else_shared (a ∷ x) [] h = refl
after_else_shared (a ∷ x) (b ∷ z) h = go (a == b) (after_else_shared x z) h
  where
    go : (t : Bool) → (length (shared x z) < length x → after x z ≡ []) → length (cond t (a ∷ shared x z) []) < suc (length x) → cond t (after x z) [] ≡ []
    go true deep l = deep (omega arith)
    go false deep l = refl

shared_self : (a : List ℕ) → shared a a ≡ a
shared_self [] = refl
shared_self (x ∷ a) = cond-true (x == x) (x ∷ shared a a) [] (eq-eqb x x refl) ∙ ap (λ l. x ∷ l) (shared_self a)

-- two strings of one length are equal exactly if they share all of it
pub same_length_same : (a b : List ℕ) (n : ℕ) → take n a ≡ shared a b → n ≤ length a → length a ≡ length b → Tells a b (n == length a)
same_length_same a b n e h long = record { equal = equal; different = different }
  where
    equal : nat_eq n (length a) ≡ true → a ≡ b
    equal t =
        let whole : a ≡ shared a b = sym (take_all n a (omega (arith, eqb-true n (length a) t))) ∙ e in
        let p = shared_right a b in
        let none_left : p.0 ≡ [] = nil_from_length p.0 (omega (arith, length-append (shared a b) p.0, ap length p.1, ap length whole)) in
        whole ∙ sym (append-nil (shared a b)) ∙ ap (λ l. shared a b ++ l) (sym none_left) ∙ p.1

    different : nat_eq n (length a) ≡ false → a ≢ b
    different t same =
        let whole : take n a ≡ a = e ∙ ap (shared a) (sym same) ∙ shared_self a in
        eqb-false n (length a) t (sym (length-take-le n a h) ∙ ap length whole)

pub length_differs : (a b : List ℕ) → (length a ≢ length b) → Tells a b false
length_differs a b other = record { equal = λ t. let o : ◌≡◌ {A = ℕ} 0 1 = cc in absurd (omega arith); different = λ t same. other (ap length same) }

and_true : (x y : Bool) → y ≡ true → (x && y) ≡ x
and_true true y e = e
and_true false y e = refl

-- of texts, a join is storable exactly if it is short enough
pub join_storable : (a b : List ℕ) (m n : ℕ) → all_bytes a ≡ true → all_bytes b ≡ true → length a ≡ m → length b ≡ n → nat_le (m + n) 24 ≡ texts.storable (a ++ b)
join_storable a b m n ha hb la lb =
    ap (λ l. leb l 24) (ap₂ (λ x y. x + y) (sym la) (sym lb) ∙ sym (length-append a b))
    ∙ sym (and_true (nat_le (length (a ++ b)) 24) (all_bytes (a ++ b)) (all_bytes_join a b ha hb))

-- what a code's bytes are, one byte more
pub spread_more : (xs : List ℕ) (i : ℕ) → i < length xs → spread (take (i + 1) xs) ≡ spread (take i xs) ++ bits 8 (slice_index xs i)
spread_more xs i h = ap spread (take_more xs i 0 h) ∙ spread_push (take i xs) (slice_index xs i)
  where
    spread_push : (ys : List ℕ) (y : ℕ) → spread (ys ++ y ∷ []) ≡ spread ys ++ bits 8 y
    spread_push [] y = append-nil (bits 8 y)
    spread_push (z ∷ ys) y = ap (λ l. bits 8 z ++ l) (spread_push ys y) ∙ sym (append_assoc (bits 8 z) (spread ys) (bits 8 y))
