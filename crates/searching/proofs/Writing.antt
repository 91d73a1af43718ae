-- A string in a buffer, written from its end on. Assumes nothing.
use Rattle.std.proofs.Common.{◌≡◌, ℕ, suc, ◌+◌, ◌<◌, List, [], ◌∷◌, ◌++◌, length, get_or, take, drop, set, sym, ap, ◌∙◌, append_assoc, arith, take-append-drop, length-take-le, take-suc}
use lib.Seq.{set_at}
use Rattle.searching.specs.Searches.{written}

pub written_none : (d : ℕ) (b : List ℕ) → b ≡ written d [] b
written_none d b =
    let z : d + 0 ≡ d = omega arith in
    sym (take-append-drop d b) ∙ ap (λ (n : ℕ). take d b ++ drop n b) (sym z)

-- a byte in front of what is written
pub written_more : (d a : ℕ) (w b : List ℕ) → d < length b → set (written (d + 1) w b) d a ≡ written d (a ∷ w) b
written_more d a w b l =
    let one : d + 1 ≡ suc d = omega arith in
    let end : d + 1 + length w ≡ d + suc (length w) = omega arith in
    let rest : List ℕ = w ++ drop (d + suc (length w)) b in
    ap (λ (n : ℕ). set (take (d + 1) b ++ (w ++ drop n b)) d a) end
    ∙ ap (λ (n : ℕ). set (take n b ++ rest) d a) one
    ∙ ap (λ (t : List ℕ). set (t ++ rest) d a) (take-suc b d 0 l)
    ∙ ap (λ (t : List ℕ). set t d a) (append_assoc (take d b) (get_or b d 0 ∷ []) rest)
    ∙ set_at (take d b) (get_or b d 0) rest a d (length-take-le d b (omega arith))
