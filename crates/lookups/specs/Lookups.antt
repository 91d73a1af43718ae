-- What the calls on one state answer, by where its parts stand. Assumes nothing.
use Rattle.std.specs.Prelude.{◌≡◌, ℕ, ◌+◌, Bool, List, [], ◌∷◌, length, Some, None, Option as Maybe}
use Rattle.std.proofs.Math.Option.{Option, none, some}
use Rattle.outputs.specs.Bits.{spread}
use Rattle.outputs.specs.Kinds.{Kind}
use Rattle.machines.specs.Keys.{is_some}
use Rattle.machines.specs.Machines.{Arc, State}
use Rattle.images.specs.Images.{end_code}
use Rattle.loading.specs.declared.held.Loaded.{Loaded}
use Rattle.lookups.specs.declared.rows.Arc as Code
use Rattle.lookups.specs.declared.rows.Row.{Row}
use Rattle.lookups.specs.declared.states.Opened.{Opened}
use Rattle.lookups.specs.Standing.{EndStands, RowStands}

-- the bits of a loaded store
abbrev pub bits_of : {O S : Type 0} → (S → List ℕ) → Loaded O S → List Bool
bits_of bytes loaded = spread (bytes loaded.store)

-- the output that was read, and the place behind it
abbrev pub OutputRead : {O : Type 0} (k : Kind) → (O → k.Ideal) → ℕ → k.Ideal → Maybe (O × ℕ) → Type 0
OutputRead k meaning p x None = ⊥
OutputRead k meaning p x (Some r) = (meaning r.0 ≡ x) × (r.1 ≡ p + length (k.code x))

-- a state that was opened: its end output, and then its arcs, stand at the place
pub record OpenedAs (k : Kind) (all : List Bool) (opened : Opened) (s : State k.Ideal) : Type 0 where
  pub ends : opened.ends ≡ is_some s.end
  pub many : opened.arcs ≡ length s.arcs
  pub end : EndStands k all opened.place s.end
  pub arcs : RowStands k all (opened.place + length (end_code k s.end)) s.arcs

-- a state is opened if it is there
abbrev pub Opens : (k : Kind) → List Bool → Option (State k.Ideal) → Maybe Opened → Type 0
Opens k all none None = Unit {0}
Opens k all none (Some opened) = ⊥
Opens k all (some s) None = ⊥
Opens k all (some s) (Some opened) = OpenedAs k all opened s

-- an arc that was read
pub record SameArc {O : Type 0} (k : Kind) (meaning : O → k.Ideal) (arc : Arc k.Ideal) (read : Code.Arc O) : Type 0 where
  pub byte : read.byte ≡ arc.byte
  pub target : read.target ≡ arc.target
  pub output : meaning read.output ≡ arc.output

-- arcs that are still to be read
pub record RowOf (k : Kind) (all : List Bool) (row : Row) (arcs : List (Arc k.Ideal)) : Type 0 where
  pub many : row.left ≡ length arcs
  pub stands : RowStands k all row.place arcs

-- the first arc of a row, and the row behind it
abbrev pub Next : {O : Type 0} (k : Kind) → (O → k.Ideal) → List Bool → List (Arc k.Ideal) → Maybe (Code.Arc O × Row) → Type 0
Next k meaning all [] None = Unit {0}
Next k meaning all [] (Some r) = ⊥
Next k meaning all (arc ∷ arcs) None = ⊥
Next k meaning all (arc ∷ arcs) (Some r) = SameArc k meaning arc r.0 × RowOf k all r.1 arcs

-- the same by the arc that was read, if one was, and the row that is left
abbrev pub Gives : {O : Type 0} (k : Kind) → (O → k.Ideal) → List Bool → List (Arc k.Ideal) → Maybe (Code.Arc O) → Row → Type 0
Gives {O} k meaning all arcs None rest = Next {O = O} k meaning all arcs None
Gives {O} k meaning all arcs (Some read) rest = Next k meaning all arcs (Some (read, rest))
