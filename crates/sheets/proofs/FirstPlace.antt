-- A list cut at the first place of a byte is what stands before, the byte and what stands behind. Assumes that the byte stands there.
use Rattle.std.proofs.Common.{◌≡◌, ℕ, ◌+◌, ◌-◌, ◌<◌, ◌≤◌, List, ◌∷◌, ◌++◌, length, get_or, take, drop, sym, ap, ◌∙◌, arith, length-drop}
use Rattle.std.proofs.lemmas.List.{take-append-drop, drop_more, take_all, length-take-le, get_or-take}
use Rattle.sheets.specs.Lines.{Cuts}

pub cut_there : (byte : ℕ) (line : List ℕ) (place : ℕ)
    → place < length line
    → get_or line place 0 ≡ byte
    → ((k : ℕ) → k < place → get_or line k 0 ≡ byte → ⊥)
    → Cuts byte line (take (place - 0) line) (take (length line - (place + 1)) (drop (place + 1) line))
cut_there byte line place l h before =
    let z : place - 0 ≡ place = omega arith in
    let n : length (drop (place + 1) line) ≤ length line - (place + 1) = simp length-drop (omega arith) in
    let t : take (length line - (place + 1)) (drop (place + 1) line) ≡ drop (place + 1) line = take_all _ _ n in
    let w : line ≡ take place line ++ byte ∷ drop (place + 1) line =
    sym (take-append-drop place line)
    ∙ ap (λ (xs : List ℕ). take place line ++ xs) (drop_more line place 0 l ∙ ap (λ (b : ℕ). b ∷ drop (place + 1) line) h) in
    let e : length (take place line) ≡ place = length-take-le place line (omega arith) in
    record {
      whole = rw (z, t) w;
      first = rw z (λ k m same. before k (omega (arith, e)) (sym (get_or-take place line k 0 (omega (arith, e))) ∙ same));
    }
