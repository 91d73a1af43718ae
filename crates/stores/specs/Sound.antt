-- What every store keeps: its bytes within its capacity, and that within 16,777,216.
use Rattle.std.specs.Prelude.{ℕ, ◌-◌, ◌*◌, ◌≤◌, List, length, take, drop}
use Rattle.std.proofs.Common.{arith, length-take, length-drop}
use Rattle.stores.specs.Words.{bytes_of}

pub record Sound (bytes : List ℕ) (room : ℕ) : Type 0 where
  pub within : length bytes ≤ room
  pub limit : room ≤ 16777216

pub short_of : (bytes : List ℕ) (room : ℕ) → Sound bytes room → length bytes ≤ 16777216
short_of bytes room sound = omega arith

pub sound_taken : (used room : ℕ) (memory : List ℕ) → (used ≤ room) × (room ≤ length memory) × (room ≤ 16777216) → Sound (take used memory) room
sound_taken used room memory ok = record { within = rw (length-take used memory) (omega arith); limit = ok.2 }

pub sound_words : (used room : ℕ) (memory : List ℕ) → (used ≤ room) × (room ≤ 4 * length memory) × (room ≤ 16777216) → Sound (take used (bytes_of memory)) room
sound_words used room memory ok = record { within = rw (length-take used (bytes_of memory)) (omega arith); limit = ok.2 }

pub sound_dropped : (place room : ℕ) (bytes : List ℕ) → Sound bytes room → Sound (drop place bytes) (room - place)
sound_dropped place room bytes sound = record { within = rw (length-drop place bytes) (omega arith); limit = omega arith }

-- a store that cannot grow
pub sound_full : (bytes : List ℕ) → length bytes ≤ 16777216 → Sound bytes (length bytes)
sound_full bytes short = record { within = omega arith; limit = short }
