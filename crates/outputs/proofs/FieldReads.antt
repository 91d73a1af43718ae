-- What a kind reads off the bits of a source, from what the source's fields answer. Assumes nothing.
use Rattle.std.proofs.Common.{◌≡◌, ℕ, ◌+◌, ◌<◌, ◌≤◌, Bool, ltb, List, length, take, drop, Result, sym, subst, arith, length-drop, le-ltb, lt-ltb}
use Rattle.std.proofs.lemmas.Bool.{cond-true, cond-false}
use Rattle.outputs.specs.Bits.{value}
use Rattle.outputs.specs.Kinds.{Kind, Reading, got, begun, read_field}
use Rattle.outputs.specs.Joins.{Read}
use Rattle.outputs.specs.declared.source.Unread.{Unread}

-- a field whose bits are all there
pub read_there : (all : List Bool) (p w : ℕ) → p + w ≤ length all → read_field w (drop p all) ≡ got (value (take w (drop p all))) (drop w (drop p all))
read_there all p w h = cond-false (ltb (length (drop p all)) w) begun _ (le-ltb _ w (omega (arith, length-drop p all)))

-- a field that runs past the end
pub read_cut : (all : List Bool) (p w : ℕ) → 0 < w → length all < p + w → read_field w (drop p all) ≡ begun
read_cut all p w some h = cond-true (ltb (length (drop p all)) w) begun _ (lt-ltb _ w (omega (arith, length-drop p all)))

-- an answer by a reading is one by an equal reading
pub by_reading : {Y E : Type 0} (k : Kind) (meaning : Y → k.Ideal) {s t : Reading k.Ideal} (p : ℕ) (short : E) (r : Result (Y × ℕ) (Unread E)) → s ≡ t → Read k meaning t p short r → Read k meaning s p short r
by_reading k meaning p short r e h = subst (λ x. Read k meaning x p short r) (sym e) h
