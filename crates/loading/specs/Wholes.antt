-- What code that reads a whole image keeps of it. Assumes nothing.
use Rattle.std.specs.Prelude.{◌≡◌, ℕ, ◌-◌, Bool, List, length}
use Rattle.outputs.specs.Kinds.{Kind}
use Rattle.machines.specs.Machines.{Machine}
use Rattle.images.specs.Steps.{reads}
use Rattle.images.specs.Loads.{head}
use Rattle.loading.specs.declared.head.Head as Code
use Rattle.loading.specs.Heads.{head_of}

-- the head of the image, and the machine that stands behind it
pub record WholeRead {O : Type 0} (k : Kind) (meaning : O → k.Ideal) (all : List Bool) (working : ℕ) (front : Code.Head O) (m : Machine k.Ideal) : Type 0 where
  pub front_read : head k all working 0 ≡ reads (head_of meaning front) front.index
  pub many : length m.states ≡ front.states
  pub start : m.start ≡ front.states - 1
  pub start_output : m.start_output ≡ meaning front.start_output
