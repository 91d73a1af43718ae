-- What who refuses, by number. Assumes nothing.
use Rattle.std.specs.Prelude.{ℕ}
use Rattle.searching.specs.declared.refusal.WhoRefusal.{WhoRefusal}
use Rattle.searching.specs.declared.refusal.WhoRefusal.TheVariants.{ShortBuffer}

abbrev pub number : WhoRefusal → ℕ
number ShortBuffer = 28
