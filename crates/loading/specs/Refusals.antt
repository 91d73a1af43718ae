-- What load's refusals report: number, bit place and, of 16, the byte that the store lacks. Assumes nothing.
use Rattle.std.proofs.Math.Option.{Option, none, some}
use Rattle.std.specs.Prelude.{ℕ}
use Rattle.outputs.specs.declared.source.Unread.{Unread}
use Rattle.outputs.specs.declared.source.Unread.TheVariants.{Cut as cut_by, NoCode as no_code}
use Rattle.stores.specs.declared.Refusal as Stores
use Rattle.stores.specs.declared.Refusal.TheVariants.{Missing, Full, BadMemory, BadPlace}
use Rattle.images.specs.Steps.{Refusal, refusal_at}
use Rattle.loading.specs.declared.refusal.LoadRefusal.{LoadRefusal}
use Rattle.loading.specs.declared.refusal.LoadRefusal.TheVariants.{Cut, Mark, Kind, Empty, Working, NoCode, Index, Shape, Count, Target, Filling}

-- the byte that a store's refusal names as missing
abbrev pub missing_byte : Stores.Refusal → Option ℕ
missing_byte (Missing i) = some i
missing_byte Full = none
missing_byte BadMemory = none
missing_byte BadPlace = none

-- what a refusal of load reports
abbrev pub reported : LoadRefusal → Refusal
reported (Cut cut) = record { number = 16; place = cut.place; missing = missing_byte cut.refusal }
reported (Mark at) = refusal_at 17 at
reported (Kind at) = refusal_at 18 at
reported (Empty at) = refusal_at 19 at
reported (Working at) = refusal_at 20 at
reported (NoCode at) = refusal_at 21 at
reported (Index at) = refusal_at 22 at
reported (Shape at) = refusal_at 23 at
reported (Count at) = refusal_at 24 at
reported (Target at) = refusal_at 25 at
reported (Filling at) = refusal_at 26 at

-- the refusal of a code at a place that gives no output
abbrev pub unread_at : ℕ → Unread Stores.Refusal → LoadRefusal
unread_at at (cut_by refusal) = Cut (record { place = at; refusal = refusal })
unread_at at no_code = NoCode at
