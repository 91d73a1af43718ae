-- The numbers of a builder's refusals, and when they are told. Assumes nothing.
use Rattle.std.specs.Prelude.{◌≡◌, ℕ, ◌<◌, Ok, Err, Result}
use Rattle.std.proofs.Math.Option.{none, some}
use Rattle.machines.specs.Memory.{memory_refusal}
use Rattle.adding.specs.declared.refusal.AddRefusal.{AddRefusal}
use Rattle.builder.specs.declared.refusal.MemoryRefusal.{MemoryRefusal}
use Rattle.builder.specs.declared.refusal.MemoryRefusal.TheVariants.{StateMemory, ArcMemory, SlotMemory}
use Rattle.builder.specs.declared.refusal.SealRefusal.{SealRefusal}
use Rattle.builder.specs.declared.refusal.SealRefusal.TheVariants.{NoPair}

abbrev pub memory_number : MemoryRefusal → ℕ
memory_number StateMemory = 2
memory_number ArcMemory = 3
memory_number SlotMemory = 4

abbrev pub seal_number : SealRefusal → ℕ
seal_number NoPair = 10

-- what a memory of so many states, arcs and slots is told
abbrev pub Checks : ℕ → ℕ → ℕ → Result (Unit {0}) MemoryRefusal → Type 0
Checks states arcs slots (Ok u) = memory_refusal states arcs slots ≡ none
Checks states arcs slots (Err e) = memory_refusal states arcs slots ≡ some (memory_number e)

-- what a builder that has taken so many pairs is told
abbrev pub Seals : ℕ → Result (Unit {0}) SealRefusal → Type 0
Seals pairs (Ok u) = 0 < pairs
Seals pairs (Err e) = pairs ≡ 0

-- a fact that holds where a pair is refused
abbrev pub UnlessTaken : Result (Unit {0}) AddRefusal → Type 0 → Type 0
UnlessTaken (Ok u) fact = Unit {0}
UnlessTaken (Err e) fact = fact
