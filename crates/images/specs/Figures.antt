-- Figures worked out by hand, as one list and one test of the definitions. Assumes nothing.
use Rattle.std.specs.Prelude.{◌≡◌, ℕ, Bool, true, false, ◌&&◌, List, [], ◌∷◌, length, take, codes, ◌==◌, slice_set}
use Rattle.std.proofs.Math.Option.{Option, none, some}
use Rattle.outputs.specs.Kinds.{Kind, same}
use Rattle.outputs.specs.Numbers.{numbers}
use Rattle.outputs.specs.Texts.{texts}
use Rattle.machines.specs.Lists.{at}
use Rattle.machines.specs.Keys.{same_key}
use Rattle.machines.specs.Machines.{Arc, arc_at, count_arcs}
use Rattle.machines.specs.Pairs.{Pairs}
use Rattle.machines.specs.Minimal.{minimal}
use Rattle.machines.specs.Runs.{told}
use Rattle.images.specs.Images.{image}
use Rattle.images.specs.Steps.{Step, reads, refuses}
use Rattle.images.specs.Loads.{load}
use Rattle.images.specs.RoundTrip.{Within}

-- What a figure says.
pub data Figure : Type 1 where
  -- the bytes of the image of some pairs, or how many they are
  image_is : (k : Kind) → Pairs k.Ideal → List ℕ → Figure
  image_length : (k : Kind) → Pairs k.Ideal → ℕ → Figure
  -- the states and the arcs of the minimal machine
  sizes : (k : Kind) → Pairs k.Ideal → ℕ → ℕ → Figure
  -- the output of the start's arc on a byte
  start_arc : (k : Kind) → Pairs k.Ideal → ℕ → k.Ideal → Figure
  -- what a run of adds is told with room for so many states and arcs
  run_told : (k : Kind) → ℕ → ℕ → Pairs k.Ideal → List (Option ℕ) → Figure
  -- the refusal of load on some bytes: its number, its place and the missing byte
  load_refuses : Kind → List ℕ → ℕ → ℕ → Option ℕ → Figure

-- an arc that is there has this output
abbrev pub arc_output_is : (k : Kind) → Option (Arc k.Ideal) → k.Ideal → Bool
arc_output_is k none x = false
arc_output_is k (some arc) x = same k arc.output x

-- both absent, or equal numbers
abbrev pub same_option : Option ℕ → Option ℕ → Bool
same_option none none = true
same_option none (some p) = false
same_option (some p) none = false
same_option (some p) (some q) = p == q

-- the same one after another
abbrev pub same_options : List (Option ℕ) → List (Option ℕ) → Bool
same_options [] [] = true
same_options [] (q ∷ qs) = false
same_options (p ∷ ps) [] = false
same_options (p ∷ ps) (q ∷ qs) = same_option p q && same_options ps qs

-- a refusal with this number, place and missing byte
abbrev pub refuses_with : {A : Type 0} → ℕ → ℕ → Option ℕ → Step A → Bool
refuses_with n p missing (reads m q) = false
refuses_with n p missing (refuses e) = n == e.number && p == e.place && same_option missing e.missing

-- the definitions say what the figure says
abbrev pub holds : Figure → Bool
holds (image_is k P bytes) = same_key (image k P) bytes
holds (image_length k P n) = length (image k P) == n
holds (sizes k P n m) = length (minimal k P).states == n && count_arcs (minimal k P).states == m
holds (start_arc k P a x) = arc_output_is k (arc_at (at (minimal k P).states (minimal k P).start) a) x
holds (run_told k states arcs es answers) = same_options (told k states arcs [] es) answers
holds (load_refuses k bytes n p missing) = refuses_with n p missing (load k 65535 bytes)

-- every figure of a list holds
abbrev pub all_hold : List Figure → Bool
all_hold [] = true
all_hold (f ∷ fs) = holds f && all_hold fs

-- the image of the empty key with the output 7
abbrev pub smallest : List ℕ
smallest =
    0x54 ∷ 0x44 ∷ 0x01 ∷ 0x00 ∷ 0x01 ∷ 0x00 ∷ 0x00 ∷ 0x00 ∷ 0x00 ∷ 0x08 ∷ 0x00 ∷ 0x00 ∷ 0x00
    ∷ 0x38 ∷ 0x00 ∷ 0x00 ∷ 0x04 ∷ 0x6C ∷ 0x00 ∷ 0x00 ∷ 0x00 ∷ 0x20 ∷ 0x00 ∷ 0x00 ∷ 0x00 ∷ 0x00 ∷ []

-- the list
abbrev pub figures : List Figure
figures =
    image_is numbers (([], 7) ∷ []) smallest
    ∷ sizes numbers ((codes "A", 5) ∷ []) 2 1
    ∷ image_length numbers ((codes "A", 5) ∷ []) 41
    ∷ sizes numbers ((codes "A", 5) ∷ (codes "B", 7) ∷ []) 2 2
    ∷ start_arc numbers ((codes "A", 5) ∷ (codes "B", 7) ∷ []) 66 2
    ∷ sizes texts ((codes "P1", codes "toe") ∷ (codes "P2", codes "top") ∷ []) 3 3
    ∷ sizes numbers ((codes "a", 1) ∷ (codes "ab", 3) ∷ []) 3 2
    ∷ sizes numbers ((codes "ax", 0) ∷ (codes "bx", 4) ∷ []) 3 3
    ∷ start_arc numbers ((codes "ax", 0) ∷ (codes "bx", 4) ∷ []) 98 4
    ∷ run_told numbers 3 9 ((codes "ab", 0) ∷ (codes "b", 0) ∷ []) (none ∷ some 8 ∷ [])
    ∷ run_told numbers 4 9 ((codes "ab", 0) ∷ (codes "b", 0) ∷ []) (none ∷ none ∷ [])
    ∷ load_refuses numbers (take 25 smallest) 16 171 (some 25)
    ∷ load_refuses numbers (slice_set smallest 25 1) 26 203 none
    ∷ []

-- the test
abbrev pub FiguresHold : Type 0
FiguresHold = all_hold figures ≡ true

-- the limits that the theorems on images ask for are met by two pairs
abbrev pub TwoWithin : Type 0
TwoWithin = Within numbers ((codes "A", 5) ∷ (codes "B", 7) ∷ [])
