-- What packing bits into bytes and spreading bytes to bits undo. Assumes nothing.
use Rattle.std.specs.Prelude.{◌≡◌, ℕ, ◌+◌, ◌/◌, ◌%◌, ◌<◌, Bool, false, List, ◌++◌, length, replicate}
use Rattle.outputs.specs.Bits.{spread, filling, packed}
use Rattle.machines.specs.Lists.{Each}

pub record Packing : Type 0 where
  -- the bits of a row's bytes are the row and the filling
  pub spread_back : (row : List Bool) → spread (packed row) ≡ row ++ replicate (filling (length row)) false
  -- the bytes of some bytes' bits are those bytes
  pub packed_back : (bytes : List ℕ) → Each (λ byte. byte < 256) bytes → packed (spread bytes) ≡ bytes
  -- they are bytes, and as many as the bits need
  pub all_bytes : (row : List Bool) → Each (λ byte. byte < 256) (packed row)
  pub size : (row : List Bool) → length (packed row) ≡ (length row + 7) / 8
  -- whole bytes are packed by themselves
  pub in_turn : (row more : List Bool) → length row % 8 ≡ 0 → packed (row ++ more) ≡ packed row ++ packed more
