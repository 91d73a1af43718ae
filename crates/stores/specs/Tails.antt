-- The bytes of a store from a place on; a place past the count is the count.
use Rattle.std.specs.Prelude.{ℕ, min, List, length, drop}

abbrev pub start : ℕ → List ℕ → ℕ
start place bytes = min place (length bytes)

abbrev pub tail : ℕ → List ℕ → List ℕ
tail place bytes = drop (start place bytes) bytes
