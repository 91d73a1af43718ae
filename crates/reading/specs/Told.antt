-- What the reading calls answer, as what is told of a machine. Assumes nothing.
use Rattle.std.specs.Prelude.{◌≡◌, ℕ, Bool, List, Some, None, Ok, Err, Option as Maybe, Result}
use Rattle.std.proofs.Math.Option.{Option, none, some}
use Rattle.outputs.specs.Kinds.{Kind}
use Rattle.machines.specs.Machines.{Arc}
use Rattle.machines.specs.Asked.{Told, gives, absent, unstorable}
use Rattle.lookups.specs.Standing.{ArcStands}
use Rattle.reading.specs.declared.refusal.ReadRefusal.{ReadRefusal}
use Rattle.reading.specs.declared.walking.Reached.{Reached}
use Rattle.reading.specs.declared.ranking.Lower.{Lower}

-- an output, or absent, or refused
abbrev pub told_of : {O A : Type 0} → (O → A) → Result (Maybe O) ReadRefusal → Told A
told_of meaning (Ok None) = absent
told_of meaning (Ok (Some x)) = gives (meaning x)
told_of meaning (Err e) = unstorable

-- an output, or refused
abbrev pub told_join : {O A : Type 0} → (O → A) → Result O ReadRefusal → Told A
told_join meaning (Ok x) = gives (meaning x)
told_join meaning (Err e) = unstorable

-- the state and the output so far, or absent, or refused
abbrev pub told_walk : {O A : Type 0} → (O → A) → Result (Maybe (Reached O)) ReadRefusal → Told (ℕ × A)
told_walk meaning (Ok None) = absent
told_walk meaning (Ok (Some reached)) = gives (reached.state, meaning reached.output)
told_walk meaning (Err e) = unstorable

-- a number, or absent
abbrev pub told_rank : Maybe ℕ → Option ℕ
told_rank None = none
told_rank (Some n) = some n

-- the place of an arc, if there is the arc
abbrev pub Sought : (k : Kind) → List Bool → Option (Arc k.Ideal) → Maybe ℕ → Type 0
Sought k all none None = Unit {0}
Sought k all none (Some p) = ⊥
Sought k all (some arc) None = ⊥
Sought k all (some arc) (Some p) = ArcStands k all p arc

-- the target of an arc with so many lower keys, if there is the arc
abbrev pub Lowered : {A : Type 0} → Option (Arc A) → ℕ → Maybe Lower → Type 0
Lowered none n None = Unit {0}
Lowered none n (Some lower) = ⊥
Lowered (some arc) n None = ⊥
Lowered (some arc) n (Some lower) = (lower.target ≡ arc.target) × (lower.keys ≡ n)
