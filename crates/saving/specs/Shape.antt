-- How the rows of a sealed dictionary lie. Assumes nothing.
use Rattle.std.specs.Prelude.{◌<◌, List, length}
use Rattle.std.specs.Coded.{le_prop}
use Rattle.records.specs.declared.record.Arc.{Arc}
use Rattle.records.specs.declared.record.State.{State}
use Rattle.records.specs.Lying.{Packed, packed_prop}

-- How the states and arcs lie, as they do in the memory of a builder that is sealed.
pub record Shaped {O : Type 0} (states : List (State O)) (arcs : List (Arc O)) : Type 0 where
  pub few_states : length states < 65536
  pub few_arcs : length arcs < 131072
  -- the states' arcs are all arcs, one after the other
  pub packed : Packed 0 (length arcs) states

-- it has one proof at most, as what a type keeps must
pub shaped_prop : {O : Type 0} (states : List (State O)) (arcs : List (Arc O)) → IsProp (Shaped states arcs)
shaped_prop states arcs a b = λ i. record {
  few_states = le_prop a.few_states b.few_states i;
  few_arcs = le_prop a.few_arcs b.few_arcs i;
  packed = packed_prop 0 (length arcs) states a.packed b.packed i;
}
