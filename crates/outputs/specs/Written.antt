-- What taking bits in turn comes to. Assumes nothing.
use Rattle.std.specs.Prelude.{Bool, List, [], ◌++◌}

-- Taking nothing leaves a sink as it is, and bits taken in turn are taken together.
pub record Taking {X : Type 0} (took : X → List Bool → X → Type 0) : Type 0 where
  pub nothing : (s : X) → took s [] s
  pub in_turn : (s t u : X) (xs ys : List Bool) → took s xs t → took t ys u → took s (xs ++ ys) u
