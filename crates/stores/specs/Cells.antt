-- The bytes of cells, one cell behind the other: what every kind of cells shows, and that bytes and words show it.
use Rattle.std.specs.Prelude.{◌≡◌, ℕ, ◌*◌, ◌<◌, List, [], ◌∷◌, ◌++◌, length, refl}
use Rattle.std.proofs.Common.{arith}
use Rattle.stores.specs.Words.{word_bytes, bytes_of}

pub record InTurn {X : Type 0} (size : ℕ) (span : ℕ → ℕ) (one : X → List ℕ) (all : List X → List ℕ) : Type 0 where
  -- a cell holds at least one byte
  pub some : 0 < size
  pub long : (cell : X) → length (one cell) ≡ size
  pub spans : (n : ℕ) → span n ≡ size * n
  pub none : all [] ≡ []
  pub more : (cell : X) (cells : List X) → all (cell ∷ cells) ≡ one cell ++ all cells

pub bytes_in_turn : InTurn 1 (λ n. n) (λ (byte : ℕ). byte ∷ []) (λ bytes. bytes)
bytes_in_turn = record { some = omega arith; long = λ cell. refl; spans = λ n. omega arith; none = refl; more = λ cell cells. refl }

pub words_in_turn : InTurn 4 (λ n. 4 * n) word_bytes bytes_of
unfolding bytes_of
words_in_turn = record { some = omega arith; long = λ cell. refl; spans = λ n. refl; none = refl; more = λ cell cells. refl }
