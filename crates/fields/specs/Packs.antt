-- What a packer does with a row of bits: whole bytes go to its store as far as there is room, and what is left waits.
use Rattle.std.specs.Prelude.{◌≡◌, ℕ, ◌%◌, Bool, cond, List, [], ◌++◌, length, take, Ok, Err, Result, nat_lt}
use Rattle.outputs.specs.Bits.{bits_before, packed}
use Rattle.stores.specs.declared.Refusal.{Refusal}
use Rattle.stores.specs.declared.Refusal.TheVariants.{Full}
use Rattle.fields.specs.Rows.{whole, left}

-- what a store has said so far of the bytes that it was given: its first refusal, if there was one
abbrev pub Outcome : Type 0
Outcome = Result (Unit {0}) Refusal

-- the refusal of the first byte for which there is no room, if there is such a byte
abbrev pub over : ℕ → List ℕ → Outcome
over room bytes = cond (nat_lt room (length bytes)) (Err Full) (Ok tt)

-- a store is given a row of bytes: nothing if it refused before, and else what there is room for
abbrev pub Gave : ℕ → List ℕ → Outcome → List ℕ → List ℕ → Outcome → Type 0
Gave room bytes (Err refusal) row bytes' outcome' = (bytes' ≡ bytes) × (outcome' ≡ Err refusal)
Gave room bytes (Ok _) row bytes' outcome' = (bytes' ≡ take room (bytes ++ row)) × (outcome' ≡ over room (bytes ++ row))

-- the bits that wait for the rest of their byte, the lowest of `partial`
abbrev pub pending : ℕ → ℕ → List Bool
pending filled partial = bits_before (filled % 8) partial []

pub record Packs (room : ℕ) (bytes : List ℕ) (outcome : Outcome) (waits : List Bool) (row : List Bool) (room' : ℕ) (bytes' : List ℕ) (outcome' : Outcome) (waits' : List Bool) : Type 0 where
  pub capacity : room' ≡ room
  pub given : Gave room bytes outcome (whole (waits ++ row)) bytes' outcome'
  pub waiting : waits' ≡ left (waits ++ row)

-- a packer is finished: of the bits that it took, from whatever time on, exactly the bytes are given, the last filled with zeros
abbrev pub Finishes : ℕ → List ℕ → Outcome → List Bool → List ℕ → Outcome → Type 0
Finishes room' bytes' outcome' waits' bytes'' outcome'' =
    (room : ℕ) (bytes : List ℕ) (outcome : Outcome) (waits row : List Bool) →
    Packs room bytes outcome waits row room' bytes' outcome' waits' → Gave room bytes outcome (packed (waits ++ row)) bytes'' outcome''
