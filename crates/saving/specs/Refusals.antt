-- What save refuses, by number. Assumes nothing.
use Rattle.std.specs.Prelude.{ℕ}
use Rattle.saving.specs.declared.refusal.SaveRefusal.{SaveRefusal}
use Rattle.saving.specs.declared.refusal.SaveRefusal.TheVariants.{NoPairs, NoRoom}

abbrev pub number : SaveRefusal → ℕ
number NoPairs = 10
number NoRoom = 15
