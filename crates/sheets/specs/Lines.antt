-- How a line is cut at the first place of a byte.
use Rattle.std.specs.Prelude.{◌≡◌, ℕ, ◌<◌, List, ◌∷◌, ◌++◌, length, ◌≢◌, slice_index}

-- No byte of the list is this one.
abbrev pub Lacks : ℕ → List ℕ → Type 0
Lacks byte bytes = (k : ℕ) → k < length bytes → slice_index bytes k ≢ byte

-- The line is the key, the byte and the field, and the key lacks the byte.
pub record Cuts (byte : ℕ) (line key field : List ℕ) : Type 0 where
  pub whole : line ≡ key ++ byte ∷ field
  pub first : Lacks byte key
