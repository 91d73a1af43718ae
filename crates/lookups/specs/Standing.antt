-- Where the parts of a state's record stand in a row of bits. Assumes nothing.
use Rattle.std.specs.Prelude.{◌≡◌, ℕ, ◌+◌, ◌^◌, ◌<◌, ◌≤◌, Bool, List, [], ◌∷◌, length, take, drop, slice_index}
use Rattle.std.proofs.Math.Option.{Option, none, some}
use Rattle.outputs.specs.Bits.{value}
use Rattle.outputs.specs.Kinds.{Kind, got}
use Rattle.machines.specs.Lists.{at, Each}
use Rattle.machines.specs.Machines.{Arc, State, Machine, end_flag, sum_at}
use Rattle.machines.specs.Counts.{counts_of}
use Rattle.machines.specs.Lengths.{longest_from}
use Rattle.machines.specs.Numbering.{Rising}
use Rattle.images.specs.Images.{end_code}
use Rattle.images.specs.Loads.{entry_place, record_place, keys_at}

-- at a place the kind reads x
abbrev pub OutputStands : (k : Kind) → List Bool → ℕ → k.Ideal → Type 0
OutputStands k all p x = (more : List Bool) × (k.read (drop p all) ≡ got x more)

-- an end output, if there is one
abbrev pub EndStands : (k : Kind) → List Bool → ℕ → Option k.Ideal → Type 0
EndStands k all p none = Unit {0}
EndStands k all p (some x) = OutputStands k all p x

-- an arc: 8 bits with its byte, 16 with its target, and its output
pub record ArcStands (k : Kind) (all : List Bool) (p : ℕ) (arc : Arc k.Ideal) : Type 0 where
  pub within : p + 24 ≤ length all
  pub byte : value (take 8 (drop p all)) ≡ arc.byte
  pub target : value (take 16 (drop (p + 8) all)) ≡ arc.target
  pub output : OutputStands k all (p + 24) arc.output

-- arcs one behind another
abbrev pub RowStands : (k : Kind) → List Bool → ℕ → List (Arc k.Ideal) → Type 0
RowStands k all p [] = Unit {0}
RowStands k all p (arc ∷ arcs) = ArcStands k all p arc × RowStands k all (p + 24 + length (k.code arc.output)) arcs

-- a state's record: end flag, arc count, a key count of 20 bits, the end output and the arcs
pub record StateStands (k : Kind) (all : List Bool) (p : ℕ) (s : State k.Ideal) : Type 0 where
  pub within : p + 30 ≤ length all
  pub flag : value (take 1 (drop p all)) ≡ end_flag s.end
  pub count : value (take 9 (drop (p + 1) all)) ≡ length s.arcs
  pub end : EndStands k all (p + 30) s.end
  pub arcs : RowStands k all (p + 30 + length (end_code k s.end)) s.arcs

-- state q: its entry in the index, its record where the entry says, and what load has tested of it
pub record Indexed (k : Kind) (all : List Bool) (index q : ℕ) (s : State k.Ideal) : Type 0 where
  pub entry : entry_place k all index q + 32 ≤ length all
  pub stands : StateStands k all (record_place k all index q) s
  pub rising : Rising s.arcs
  pub below : Each (λ arc. arc.target < q) s.arcs

-- what the bits have of every state of a machine
pub record Stored (k : Kind) (all : List Bool) (index : ℕ) (m : Machine k.Ideal) : Type 0 where
  pub states : (q : ℕ) (s : State k.Ideal) → at m.states q ≡ some s → Indexed k all index q s
  pub keys : (q : ℕ) → q < length m.states → keys_at k all index q ≡ slice_index (counts_of m.states) q
  -- as many strings are accepted from a state as from its targets, and one more with an end output; they are fewer than 2 ^ 20
  pub counted : (q : ℕ) (s : State k.Ideal) → at m.states q ≡ some s → slice_index (counts_of m.states) q ≡ end_flag s.end + sum_at (counts_of m.states) s.arcs
  pub few_keys : (q : ℕ) (s : State k.Ideal) → at m.states q ≡ some s → slice_index (counts_of m.states) q < 2 ^ 20
  pub short : longest_from m.states m.start ≤ 64
