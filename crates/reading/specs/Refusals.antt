-- The numbers of the refusals of the reading calls. Assumes nothing.
use Rattle.std.specs.Prelude.{ℕ}
use Rattle.reading.specs.declared.refusal.ReadRefusal.{ReadRefusal}
use Rattle.reading.specs.declared.refusal.ReadRefusal.TheVariants.{Unstorable}

abbrev pub number : ReadRefusal → ℕ
number Unstorable = 27
