-- The incremental construction: what a builder holds after some pairs, and the machine that it seals. Assumes nothing.
use Rattle.std.specs.Prelude.{ℕ, zero, suc, ◌-◌, List, [], ◌∷◌, ◌++◌, length, drop}
use Rattle.outputs.specs.Kinds.{Kind}
use Rattle.machines.specs.Keys.{Key, common_length}
use Rattle.machines.specs.Machines.{Machine}
use Rattle.machines.specs.Pairs.{Pairs}
use Rattle.construction.specs.Records.{Open, Closed, Held, state_of, blank, newest_key}
use Rattle.construction.specs.Steps.{settle, push_down, extend, extend_last}

module _ (k : Kind) where
  -- a new builder holds nothing
  abbrev pub nothing_held : Held k.Ideal
  nothing_held = record { closed = record { states = []; counts = [] }; open' = []; start = k.empty; pairs = 0 }

  -- The records that the new key shares are the first `depth` ones and the next; the deeper ones are closed.
  abbrev pub close_beyond : ℕ → Closed k.Ideal → ℕ → Open k.Ideal → List (Open k.Ideal) → Closed k.Ideal × List (Open k.Ideal)
  close_beyond pairs closed zero o more =
      let settled : Closed k.Ideal × Open k.Ideal = settle k pairs closed o more in
      (settled.0, settled.1 ∷ [])
  close_beyond pairs closed (suc depth) o [] = (closed, o ∷ [])
  close_beyond pairs closed (suc depth) o (next ∷ more) =
      let deeper : Closed k.Ideal × List (Open k.Ideal) = close_beyond pairs closed depth next more in
      (deeper.0, o ∷ deeper.1)

  -- outputs are pushed along the records that the new key shares
  abbrev pub push_along : k.Ideal → k.Ideal → List (Open k.Ideal) → List (Open k.Ideal) × k.Ideal
  push_along carry left [] = ([], left)
  push_along carry left (o ∷ more) = push_down k carry left o more

  -- a pair is taken: what is held then
  abbrev pub add : Held k.Ideal → Key → k.Ideal → Held k.Ideal
  add held key output = elim held.open' [
    | [] ↦ record { closed = held.closed; open' = extend k 0 (blank 0) key k.empty; start = output; pairs = suc held.pairs }
    | o ∷ more ↦
        let depth : ℕ = common_length key (newest_key (o ∷ more)) in
        let kept : Closed k.Ideal × List (Open k.Ideal) = close_beyond held.pairs held.closed depth o more in
        let shared : k.Ideal = k.common held.start output in
        let pushed : List (Open k.Ideal) × k.Ideal = push_along (k.rest shared held.start) (k.rest shared output) kept.1 in
        record { closed = kept.0; open' = extend_last k held.pairs pushed.0 (drop depth key) pushed.1; start = shared; pairs = suc held.pairs }
  ]

  -- what is held once these pairs came to a builder that held something
  abbrev pub add_all : Held k.Ideal → Pairs k.Ideal → Held k.Ideal
  add_all held [] = held
  add_all held (p ∷ P) = add_all (add held p.0 p.1) P

  -- what is held after some pairs
  abbrev pub held_after : Pairs k.Ideal → Held k.Ideal
  held_after P = add_all nothing_held P

  -- all records are closed, the one of the empty prefix last and without looking for an equal one
  abbrev pub sealed_states : Held k.Ideal → Closed k.Ideal
  sealed_states held = elim held.open' [
    | [] ↦ held.closed
    | o ∷ more ↦
        let settled : Closed k.Ideal × Open k.Ideal = settle k held.pairs held.closed o more in
        record { states = settled.0.states ++ (state_of settled.1 ∷ []); counts = settled.0.counts ++ ((held.pairs - settled.1.since) ∷ []) }
  ]

  -- the machine that is sealed: its start is the last state
  abbrev pub sealed : Held k.Ideal → Machine k.Ideal
  sealed held = record { start = length (sealed_states held).states - 1; start_output = held.start; states = (sealed_states held).states }
