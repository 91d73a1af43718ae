-- A number for a byte string, by which equal texts are found quickly. Assumes nothing.
use Rattle.std.specs.Prelude.{ℕ, ◌+◌, ◌*◌, ◌%◌, ◌^◌, List, [], ◌∷◌}

-- what is gathered so far, h, with the bytes that follow, in 64 bits
abbrev pub digest_from : ℕ → List ℕ → ℕ
digest_from h [] = h
digest_from h (a ∷ x) = digest_from ((h * 31 % 2 ^ 64 + a) % 2 ^ 64) x
