-- Reading fields from a row of bits in turn: what a step reads and the place behind it, or a refusal. Assumes nothing.
use Rattle.std.specs.Prelude.{ℕ, ◌+◌, ◌/◌, max, Bool, true, false, List, length, take, drop, nat_le}
use Rattle.std.proofs.Math.Option.{Option, none, some}
use Rattle.outputs.specs.Bits.{value}
use Rattle.outputs.specs.Kinds.{Kind, Reading, got, begun, no_code}

-- A refusal: its number, the bit place of the field at fault, and, of number 16, the place of the first byte that is missing: there the store itself refuses, with 11.
pub record Refusal : Type 0 where
  pub number : ℕ
  pub place : ℕ
  pub missing : Option ℕ

-- What a step reads and the place behind it, or its refusal.
pub data Step (A : Type 0) : Type 0 where
  reads : A → ℕ → Step A
  refuses : Refusal → Step A

-- what is read from a place on
abbrev pub Reader : Type 0 → Type 0
Reader A = ℕ → Step A

-- a step, and then another that depends on what was read
abbrev pub ◌>>=◌ : {A B : Type 0} → Reader A → (A → Reader B) → Reader B
◌>>=◌ r f p = elim (r p) [ reads x p' ↦ f x p' | refuses e ↦ refuses e ]

-- a step, and then another
abbrev pub ◌>>◌ : {A B : Type 0} → Reader A → Reader B → Reader B
◌>>◌ r s p = elim (r p) [ reads x p' ↦ s p' | refuses e ↦ refuses e ]

-- reads nothing and gives x
abbrev pub gives : {A : Type 0} → A → Reader A
gives x p = reads x p

-- the place of the next field
abbrev pub place : Reader ℕ
place p = reads p p

-- a refusal by its number and place
abbrev pub refusal_at : ℕ → ℕ → Refusal
refusal_at number at = record { number = number; place = at; missing = none }

-- refuses with a number at a place if a test finds fault
abbrev pub refuse : ℕ → ℕ → Bool → Reader (Unit {0})
refuse number at true p = refuses (refusal_at number at)
refuse number at false p = reads tt p

module _ (all : List Bool) where
  -- the refusal of a field at p that runs past the end
  abbrev pub cut : ℕ → Refusal
  cut p = record { number = 16; place = p; missing = some (max (p / 8) (length all / 8)) }

  -- the field if it is all there
  abbrev pub field_if : ℕ → ℕ → Bool → Step ℕ
  field_if width p true = reads (value (take width (drop p all))) (p + width)
  field_if width p false = refuses (cut p)

  -- the number that a field of `width` bits holds
  unfoldable pub field : ℕ → Reader ℕ
  field width p = field_if width p (nat_le (p + width) (length all))

  -- what was read off the bits from p on, as a step
  abbrev pub output_if : (k : Kind) → ℕ → Reading k.Ideal → Step k.Ideal
  output_if k p (got x more) = reads x (p + length (k.code x))
  output_if k p begun = refuses (cut p)
  output_if k p no_code = refuses (refusal_at 21 p)

  -- an output by its code
  unfoldable pub output : (k : Kind) → Reader k.Ideal
  output k p = output_if k p (k.read (drop p all))
