-- What a sealed dictionary reports. Assumes nothing.
use Rattle.std.specs.Prelude.{◌≡◌, length}
use Rattle.machines.specs.Machines.{count_arcs}
use Rattle.construction.specs.Records.{Held}
use Rattle.builder.specs.declared.builder.Counts.{Counts}

-- the numbers of closed states and of their arcs
pub record Counted {I : Type 0} (h : Held I) (counts : Counts) : Type 0 where
  pub states : counts.states ≡ length h.closed.states
  pub arcs : counts.arcs ≡ count_arcs h.closed.states
