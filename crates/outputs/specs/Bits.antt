-- Rows of bits, the most significant first, and the bytes that hold them. Assumes nothing.
use Rattle.std.specs.Prelude.{ℕ, zero, suc, ◌+◌, ◌-◌, ◌*◌, ◌/◌, ◌%◌, ◌^◌, Bool, true, false, cond, not, ◌&&◌, List, [], ◌∷◌, ◌++◌, ◌==◌}

-- the lowest `width` bits of n, the most significant first, in front of more
abbrev pub bits_before : ℕ → ℕ → List Bool → List Bool
bits_before zero n more = more
bits_before (suc width) n more = bits_before width (n / 2) ((n % 2 == 1) ∷ more)

-- the lowest `width` bits of n, the most significant first
unfoldable pub bits : ℕ → ℕ → List Bool
bits width n = bits_before width n []

abbrev pub bit : Bool → ℕ
bit true = 1
bit false = 0

-- the number that a row of bits writes behind those that wrote n
abbrev pub value_on : ℕ → List Bool → ℕ
value_on n [] = n
value_on n (b ∷ row) = value_on (2 * n + bit b) row

-- the number that a row of bits writes
abbrev pub value : List Bool → ℕ
value row = value_on 0 row

abbrev pub same_bits : List Bool → List Bool → Bool
same_bits [] [] = true
same_bits [] (c ∷ cs) = false
same_bits (b ∷ bs) [] = false
same_bits (true ∷ bs) (c ∷ cs) = c && same_bits bs cs
same_bits (false ∷ bs) (c ∷ cs) = not c && same_bits bs cs

-- the bits of a row of bytes
abbrev pub spread : List ℕ → List Bool
spread [] = []
spread (byte ∷ bytes) = bits 8 byte ++ spread bytes

-- how many zero bits fill the last byte once so many bits are written
abbrev pub filling : ℕ → ℕ
filling used = (8 - used % 8) % 8

-- the bytes of a row of bits, `byte` begun and `left` bits wanting in it; a last byte that is not full ends in zeros
abbrev pub bytes_from : ℕ → ℕ → List Bool → List ℕ
bytes_from byte zero row = []
bytes_from byte (suc zero) [] = byte * 2 ∷ []
bytes_from byte (suc zero) (b ∷ row) = (2 * byte + bit b) ∷ bytes_from 0 8 row
bytes_from byte (suc (suc n)) [] = cond (n == 6) [] (byte * 2 ^ suc (suc n) ∷ [])
bytes_from byte (suc (suc n)) (b ∷ row) = bytes_from (2 * byte + bit b) (suc n) row

-- the bytes of a row of bits; a last byte that is not full ends in zeros
abbrev pub packed : List Bool → List ℕ
packed row = bytes_from 0 8 row
