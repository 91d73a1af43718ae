-- The states of the minimal machine: their numbers, their arcs, their outputs and the keys accepted from each. Assumes nothing.
use Rattle.std.specs.Prelude.{◌≡◌, ℕ, suc, ◌+◌, ◌<◌, ◌≤◌, true, ◌⊎◌, List, [], ◌∷◌, map, length}
use Rattle.std.proofs.Math.Option.{Option, none, some}
use Rattle.outputs.specs.Kinds.{Kind, PrefixOf}
use Rattle.machines.specs.Lists.{at, Each}
use Rattle.machines.specs.Keys.{Key, postorder}
use Rattle.machines.specs.Machines.{Arc, State, end_flag, sum_at, targeted, answer_from}
use Rattle.machines.specs.Counts.{counts_of}
use Rattle.machines.specs.Lengths.{longest_from}
use Rattle.machines.specs.Pairs.{Pairs, KeyPrefix, ShortKeys}
use Rattle.machines.specs.Residuals.{residual, first_prefixes, class_number}
use Rattle.machines.specs.Minimal.{state_of, minimal, key_counts}

-- each string comes before all that follow it
abbrev pub InPostorder : List Key → Type 0
InPostorder [] = Unit {0}
InPostorder (u ∷ us) = Each (λ v. postorder u v ≡ true) us × InPostorder us

-- the bytes of some arcs rise
abbrev pub Rising : {A : Type 0} → List (Arc A) → Type 0
Rising [] = Unit {0}
Rising (arc ∷ arcs) = Each (λ later. arc.byte < later.byte) arcs × Rising arcs

-- x is a prefix of an output, if there is one
abbrev pub PrefixOfSome : (k : Kind) → k.Ideal → Option k.Ideal → Type 0
PrefixOfSome k x none = Unit {0}
PrefixOfSome k x (some z) = PrefixOf k x z

-- a state puts nothing out that could have come earlier: only the empty output is a prefix of its end output and of every arc's output
abbrev pub Onward : (k : Kind) → State k.Ideal → Type 0
Onward k s = (x : k.Ideal) → PrefixOfSome k x s.end → Each (λ arc. PrefixOf k x arc.output) s.arcs → x ≡ k.empty

-- How the states of the minimal machine are numbered, and what holds of each.
pub record Numbering (k : Kind) (P : Pairs k.Ideal) : Type 0 where
  -- states are those of the first prefixes of the classes, and these stand in postorder
  pub by_classes : (minimal k P).states ≡ map (state_of k P (first_prefixes k P)) (first_prefixes k P)
  pub in_postorder : InPostorder (first_prefixes k P)
  -- the class of a prefix has the number of a prefix with the same residual, which no other of the class precedes
  pub first_of_class : (u : Key) → KeyPrefix P u → (v : Key) × (at (first_prefixes k P) (class_number k P u) ≡ some v) × (residual k P u ≡ residual k P v) × ((u ≡ v) ⊎ (postorder v u ≡ true))
  pub start_last : suc (minimal k P).start ≡ length (minimal k P).states
  pub targets_below : (i : ℕ) (s : State k.Ideal) → at (minimal k P).states i ≡ some s → Each (λ arc. arc.target < i) s.arcs
  -- every state but the last is some arc's target
  pub all_targeted : (i : ℕ) → suc i < length (minimal k P).states → targeted i (minimal k P).states ≡ true
  -- no two states are equal
  pub different : (i j : ℕ) (s : State k.Ideal) → at (minimal k P).states i ≡ some s → at (minimal k P).states j ≡ some s → i ≡ j
  pub onward : (i : ℕ) (s : State k.Ideal) → at (minimal k P).states i ≡ some s → Onward k s
  pub arcs_rise : (i : ℕ) (s : State k.Ideal) → at (minimal k P).states i ≡ some s → Rising s.arcs
  -- from a state as many keys are accepted as from its targets, and one more if it has an end output; from the start, all
  pub counts : (i : ℕ) (s : State k.Ideal) → at (minimal k P).states i ≡ some s → at (key_counts k P) i ≡ some (end_flag s.end + sum_at (key_counts k P) s.arcs)
  pub counted : counts_of (minimal k P).states ≡ key_counts k P
  pub counts_some : (i n : ℕ) → at (key_counts k P) i ≡ some n → 0 < n
  pub all_counted : at (key_counts k P) (minimal k P).start ≡ some (length P)
  -- the start accepts no string longer than the keys, and no string of arcs from it is longer
  pub short : ShortKeys P → (w : Key) (z : k.Ideal) → answer_from k (minimal k P).states (minimal k P).start w ≡ some z → length w ≤ 64
  pub shallow : ShortKeys P → longest_from (minimal k P).states (minimal k P).start ≤ 64
