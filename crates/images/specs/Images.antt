-- The image of a machine, bit by bit, and the image of some pairs. Assumes nothing.
use Rattle.std.specs.Prelude.{ℕ, ◌+◌, ◌*◌, Bool, List, [], ◌∷◌, ◌++◌, length}
use Rattle.std.proofs.Math.Option.{Option, none, some}
use Rattle.outputs.specs.Bits.{bits, packed}
use Rattle.outputs.specs.Kinds.{Kind}
use Rattle.machines.specs.Machines.{Arc, State, Machine, count_arcs, end_flag}
use Rattle.machines.specs.Pairs.{Pairs}
use Rattle.machines.specs.Minimal.{minimal, key_counts}

-- the two bytes with which an image begins: the letters TD
abbrev pub mark : ℕ
mark = 0x5444

-- the places of records that follow one another from a place on
abbrev pub places : ℕ → List (List Bool) → List ℕ
places p [] = []
places p (r ∷ rs) = p ∷ places (p + length r) rs

-- the index: each place in 32 bits
abbrev pub index_bits : List ℕ → List Bool
index_bits [] = []
index_bits (p ∷ ps) = bits 32 p ++ index_bits ps

-- one row of bits behind another
abbrev pub in_turn : List (List Bool) → List Bool
in_turn [] = []
in_turn (r ∷ rs) = r ++ in_turn rs

module _ (k : Kind) where
  -- the code of the end output, if there is one
  abbrev pub end_code : Option k.Ideal → List Bool
  end_code none = []
  end_code (some x) = k.code x

  -- an arc: its byte, its target and the code of its output
  abbrev pub arc_bits : Arc k.Ideal → List Bool
  arc_bits arc = bits 8 arc.byte ++ bits 16 arc.target ++ k.code arc.output

  -- arcs one behind another
  abbrev pub arcs_bits : List (Arc k.Ideal) → List Bool
  arcs_bits [] = []
  arcs_bits (arc ∷ arcs) = arc_bits arc ++ arcs_bits arcs

  -- a state's record: end flag, arc count, the number of keys accepted from it, the end output's code, the arcs
  abbrev pub record_bits : State k.Ideal → ℕ → List Bool
  record_bits s count = bits 1 (end_flag s.end) ++ bits 9 (length s.arcs) ++ bits 20 count ++ end_code s.end ++ arcs_bits s.arcs

  -- the records of some states with their key counts
  abbrev pub records_bits : List (State k.Ideal) → List ℕ → List (List Bool)
  records_bits [] counts = []
  records_bits (s ∷ ss) [] = []
  records_bits (s ∷ ss) (n ∷ ns) = record_bits s n ∷ records_bits ss ns

  -- mark, kind number, states, arcs, keys and the start output
  abbrev pub head_bits : Machine k.Ideal → ℕ → List Bool
  head_bits m keys = bits 16 mark ++ bits 8 k.number ++ bits 16 (length m.states) ++ bits 17 (count_arcs m.states) ++ bits 20 keys ++ k.code m.start_output

  -- head, index and records of a machine with so many keys
  abbrev pub image_bits : Machine k.Ideal → List ℕ → ℕ → List Bool
  image_bits m counts keys =
      let head : List Bool = head_bits m keys in
      let rows : List (List Bool) = records_bits m.states counts in
      head ++ index_bits (places (length head + 32 * length m.states) rows) ++ in_turn rows

  -- the bytes of the image of a machine, with the number of keys accepted from each state, and of all
  abbrev pub image_of : Machine k.Ideal → List ℕ → ℕ → List ℕ
  image_of m counts keys = packed (image_bits m counts keys)

  -- the image of some pairs is that of their minimal machine
  abbrev pub image : Pairs k.Ideal → List ℕ
  image P = image_of (minimal k P) (key_counts k P) (length P)
