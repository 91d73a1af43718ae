-- The bytes of words of 32 bits, the most significant byte first.
use Rattle.std.specs.Prelude.{◌≡◌, ℕ, ◌*◌, ◌/◌, ◌%◌, List, [], ◌∷◌, ◌++◌, length, refl}
use Rattle.std.proofs.Common.{arith}

abbrev pub word_bytes : ℕ → List ℕ
word_bytes word = word / 16777216 % 256 ∷ word / 65536 % 256 ∷ word / 256 % 256 ∷ word % 256 ∷ []

unfoldable pub bytes_of : List ℕ → List ℕ
bytes_of [] = []
bytes_of (word ∷ words) = word_bytes word ++ bytes_of words

pub length_bytes_of : (words : List ℕ) → length (bytes_of words) ≡ 4 * length words
unfolding bytes_of
length_bytes_of [] = refl
length_bytes_of (word ∷ words) = omega (arith, length_bytes_of words)
