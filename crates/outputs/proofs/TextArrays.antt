-- The array of a text: what it holds once bytes were put behind the text's own, and that equal texts are equal fields. Assumes nothing.
use Rattle.std.proofs.Common.{◌≡◌, ℕ, zero, suc, ◌+◌, ◌-◌, ◌<◌, ◌≤◌, Bool, true, false, cond, eqb, List, [], ◌∷◌, ◌++◌, length, get_or, take, drop, replicate, sym, ap, ap₂, ◌∙◌, refl, arith, lt-ltb, length-drop, length-append, length-take-le, take-append-drop}
use borrow.Rule.Slice.PartMut.{put_mid}
use Rattle.std.specs.List.{prefix_len, zip}
use Rattle.std.proofs.lemmas.Bool.{and_parts, and_from}
use Rattle.std.proofs.lemmas.List.{drop-drop, drop-replicate}
use Rattle.std.proofs.lemmas.Slice.{drop-put_mid}
use Rattle.outputs.specs.Texts.{all_bytes, shared}
use Rattle.outputs.specs.TextBytes.{all_bytes_join, all_bytes_take}

pub all_bytes_fit : (xs : List ℕ) → ((i : ℕ) → get_or xs i 0 < 256) → all_bytes xs ≡ true
all_bytes_fit [] h = refl
all_bytes_fit (x ∷ xs) h = and_from _ (all_bytes xs) (lt-ltb x 256 (h 0)) (all_bytes_fit xs (λ i. h (suc i)))

all_bytes_drop : (n : ℕ) (xs : List ℕ) → all_bytes xs ≡ true → all_bytes (drop n xs) ≡ true
all_bytes_drop zero xs h = h
all_bytes_drop (suc n) [] h = refl
all_bytes_drop (suc n) (x ∷ xs) h = all_bytes_drop n xs (and_parts _ (all_bytes xs) h).1

-- bytes put over a part of an array of bytes
pub put_whole : (a k : ℕ) (xs ys : List ℕ) → all_bytes xs ≡ true → all_bytes ys ≡ true → all_bytes (put_mid a k xs ys) ≡ true
put_whole a k xs ys h g =
    all_bytes_join (take a xs) _ (all_bytes_take a xs h)
    (all_bytes_join ys _ g (all_bytes_drop k (drop a xs) (all_bytes_drop a xs h)))

pub put_long : (a k : ℕ) (xs ys : List ℕ) → a + k ≤ length xs → length ys ≡ k → length (put_mid a k xs ys) ≡ length xs
put_long a k xs ys h l =
    omega (arith, length-append (take a xs) (ys ++ drop k (drop a xs)), length-append ys (drop k (drop a xs)), length-take-le a xs (omega arith), length-drop k (drop a xs), length-drop a xs, l)

-- the zeros behind it stay
pub put_spare : (a k n e : ℕ) (xs ys : List ℕ) → e ≡ a + k → a + k ≤ length xs → length ys ≡ k → drop a xs ≡ replicate (n - a) 0 → drop e (put_mid a k xs ys) ≡ replicate (n - e) 0
put_spare a k n e xs ys q h l zeros =
    drop-put_mid a k xs ys e (omega arith) (omega arith) l
    ∙ ap (λ m. drop m xs) (q ∙ omega arith)
    ∙ sym (drop-drop k a xs)
    ∙ ap (drop k) zeros
    ∙ drop-replicate k (n - a) 0
    ∙ ap (λ m. replicate m 0) (omega (arith, q))

-- arrays of so many bytes and zeros are equal if these bytes are
pub arrays_same : (xs ys : List ℕ) (m n : ℕ) → m ≡ n → take m xs ≡ take n ys → drop m xs ≡ replicate (24 - m) 0 → drop n ys ≡ replicate (24 - n) 0 → xs ≡ ys
arrays_same xs ys m n l same zeros zeros' =
    sym (take-append-drop m xs)
    ∙ ap₂ ◌++◌ same (zeros ∙ ap (λ k. replicate (24 - k) 0) l ∙ sym zeros')
    ∙ take-append-drop n ys

-- what two strings share is the bytes up to the first pair that differs
pub shared_prefix : (a b : List ℕ) → take (prefix_len (λ (p : ℕ × ℕ). eqb p.0 p.1) (zip a b)) a ≡ shared a b
shared_prefix [] b = refl
shared_prefix (x ∷ a) [] = refl
shared_prefix (x ∷ a) (y ∷ b) = go (eqb x y) (shared_prefix a b)
  where
    go : (t : Bool) → take (prefix_len (λ (p : ℕ × ℕ). eqb p.0 p.1) (zip a b)) a ≡ shared a b
        → take (cond t (1 + prefix_len (λ (p : ℕ × ℕ). eqb p.0 p.1) (zip a b)) 0) (x ∷ a) ≡ cond t (x ∷ shared a b) []
    go true e = let more : 1 + prefix_len (λ (p : ℕ × ℕ). eqb p.0 p.1) (zip a b) ≡ suc (prefix_len (λ (p : ℕ × ℕ). eqb p.0 p.1) (zip a b)) = omega arith in ap (λ k. take k (x ∷ a)) more ∙ ap (λ l. x ∷ l) e
    go false e = refl
