-- What the calls on outputs answer, by what outputs mean. Assumes nothing.
use Rattle.std.specs.Prelude.{◌≡◌, ℕ, ◌+◌, ◌^◌, ◌<◌, Bool, true, false, cond, length, Ok, Err, Result, ◌≢◌}
use Rattle.outputs.specs.Kinds.{Kind, Reading, got, begun, no_code}
use Rattle.outputs.specs.declared.source.Unread.{Unread}
use Rattle.outputs.specs.declared.source.Unread.TheVariants.{Cut, NoCode}

-- a test that tells whether two things are equal
pub record Tells {A : Type 0} (x y : A) (t : Bool) : Type 0 where
  pub equal : t ≡ true → x ≡ y
  pub different : t ≡ false → x ≢ y

-- the join, and the empty output where that is not storable
abbrev pub join_or_empty : (k : Kind) → k.Ideal → k.Ideal → k.Ideal
join_or_empty k x y = cond (k.storable (k.join x y)) (k.join x y) k.empty

-- What reading an output at a place answers, given what the kind reads off the bits from there on: the output with the place behind its code, or that the source's end cuts a code, or that there is none.
abbrev pub Read : {Y E : Type 0} (k : Kind) → (Y → k.Ideal) → Reading k.Ideal → ℕ → E → Result (Y × ℕ) (Unread E) → Type 0
Read k meaning (got x more) place short (Ok r) = (meaning r.0 ≡ x) × (r.1 ≡ place + length (k.code x)) × (r.1 < 2 ^ 32)
Read k meaning (got x more) place short (Err e) = ⊥
Read k meaning begun place short (Ok r) = ⊥
Read k meaning begun place short (Err e) = e ≡ Cut short
Read k meaning no_code place short (Ok r) = ⊥
Read k meaning no_code place short (Err e) = e ≡ NoCode
