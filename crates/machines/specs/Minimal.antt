-- The minimal machine of some pairs: a state for each class of prefixes. Assumes nothing.
use Rattle.std.specs.Prelude.{ℕ, List, [], ◌∷◌, ◌++◌, map, length}
use Rattle.std.proofs.Math.Option.{Option, none, some}
use Rattle.outputs.specs.Kinds.{Kind}
use Rattle.machines.specs.Keys.{Key}
use Rattle.machines.specs.Machines.{Arc, State, Machine}
use Rattle.machines.specs.Pairs.{Pairs, output_of, under, first_bytes}
use Rattle.machines.specs.Residuals.{greatest_common, first_prefixes, class_in}

module _ (k : Kind) where
  -- the arcs of prefix u on some bytes, to the classes of the prefixes that are one byte longer
  abbrev pub arcs_of : Pairs k.Ideal → List Key → Key → List ℕ → List (Arc k.Ideal)
  arcs_of P classes u [] = []
  arcs_of P classes u (a ∷ as') =
      let ua : Key = u ++ (a ∷ []) in
      record { byte = a; target = class_in k P classes ua; output = k.rest (greatest_common k P u) (greatest_common k P ua) } ∷ arcs_of P classes u as'

  -- what follows c in an output, if there is one
  abbrev pub rest_some : k.Ideal → Option k.Ideal → Option k.Ideal
  rest_some c none = none
  rest_some c (some z) = some (k.rest c z)

  -- the end output of prefix u: what is left of its own output, if it is a key
  abbrev pub end_of : Pairs k.Ideal → Key → Option k.Ideal
  end_of P u = rest_some (greatest_common k P u) (output_of P u)

  -- the state of prefix u: its end output, and an arc for each next byte
  abbrev pub state_of : Pairs k.Ideal → List Key → Key → State k.Ideal
  state_of P classes u = record { end = end_of P u; arcs = arcs_of P classes u (first_bytes (under P u)) }

  -- the minimal machine: its states are those of the first prefixes of the classes
  abbrev pub minimal : Pairs k.Ideal → Machine k.Ideal
  minimal P =
      let classes : List Key = first_prefixes k P in
      record { start = class_in k P classes []; start_output = greatest_common k P []; states = map (state_of P classes) classes }

  -- the number of keys accepted from each state of the minimal machine
  abbrev pub key_counts : Pairs k.Ideal → List ℕ
  key_counts P = map (λ u. length (under P u)) (first_prefixes k P)
