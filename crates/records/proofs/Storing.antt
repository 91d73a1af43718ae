-- What records stand for is storable. Assumes that all outputs are.
use Rattle.std.proofs.Common.{◌≡◌, ℕ, zero, suc, true, List, [], ◌∷◌, map, take, drop}
use Rattle.std.specs.Prelude.{Some, None, Option as Maybe}
use Rattle.outputs.specs.Kinds.{Kind}
use Rattle.outputs.specs.Meanings.{meant}
use Rattle.machines.specs.Lists.{Each}
use Rattle.machines.specs.Machines.{Arc as Edge}
use Rattle.machines.specs.Storing.{EndStorable, StateStorable}
use Rattle.construction.specs.Records.{state_of}
use Rattle.records.specs.declared.record.Arc.{Arc}
use Rattle.records.specs.declared.record.State.{State}
use Rattle.records.specs.Holding.{arcs_of, end_of, closed_state, open_record}

module _ {X : Type 0} (Q : X → Type 0) where
  each_take : (n : ℕ) (xs : List X) → Each Q xs → Each Q (take n xs)
  each_take zero xs h = tt
  each_take (suc n) [] h = tt
  each_take (suc n) (x ∷ xs) h = (h.0, each_take n xs h.1)

  each_drop : (n : ℕ) (xs : List X) → Each Q xs → Each Q (drop n xs)
  each_drop zero xs h = h
  each_drop (suc n) [] h = tt
  each_drop (suc n) (x ∷ xs) h = each_drop n xs h.1

-- what lies in memory is storable
module _ (k : Kind) {O : Type 0} (mean : O → k.Ideal) (stored : (x : O) → k.storable (mean x) ≡ true) where
  stored_end : (s : State O) → EndStorable k (end_of mean s)
  stored_end s = go s.end
    where
      go : (o : Maybe O) → EndStorable k (meant mean o)
      go None = tt
      go (Some x) = stored x

  abbrev Storable : List (Edge k.Ideal) → Type 0
  Storable es = Each (λ (e : Edge k.Ideal). k.storable e.output ≡ true) es

  stored_arcs : (as' : List (Arc O)) → Storable (arcs_of mean as')
  stored_arcs [] = tt
  stored_arcs (a ∷ as') = (stored a.output, stored_arcs as')

  stored_part : (m n : ℕ) (as' : List (Arc O)) → Storable (take m (drop n (arcs_of mean as')))
  stored_part m n as' = each_take _ m (drop n (arcs_of mean as')) (each_drop _ n (arcs_of mean as') (stored_arcs as'))

  pub stored_open : (as' : List (Arc O)) (s : State O) → StateStorable k (state_of (open_record mean (arcs_of mean as') s))
  stored_open as' s = (stored_end s, stored_part s.count s.first as')

  pub stored_closed : (as' : List (Arc O)) (ss : List (State O)) → Each (StateStorable k) (map (closed_state mean (arcs_of mean as')) ss)
  stored_closed as' [] = tt
  stored_closed as' (s ∷ ss) = ((stored_end s, stored_part s.count _ as'), stored_closed as' ss)
