-- The head reads back field by field; too few working bytes are refused behind it. Assumes the laws of a kind.
use Rattle.std.proofs.Common.{◌≡◌, ℕ, ◌+◌, ◌<◌, ◌≤◌, Bool, not, eqb, ltb, List, ◌++◌, length, take, drop, refl, ◌∙◌, arith, lit<, length-append, le-ltb, lt-ltb, eq-eqb, ne_eqb}
use Rattle.std.proofs.lemmas.Bool.{not_from_true}
use Rattle.outputs.specs.Bits.{bits, value}
use Rattle.outputs.specs.Kinds.{Kind, Laws}
use Rattle.outputs.specs.BitRows.{length_bits}
use Rattle.machines.specs.Machines.{Machine, count_arcs}
use Rattle.images.specs.Images.{mark, head_bits}
use Rattle.images.specs.Steps.{refusal_at, reads, refuses, Reader, ◌>>=◌, ◌>>◌, gives, place, refuse, field, output}
use Rattle.images.specs.Loads.{Head, head}
use Rattle.images.specs.Fits.{Fit}
use Rattle.images.proofs.Standing.{Stands, stands_front, stands_behind, stands_at, then_reads, then_tests, then_refuses, fault, value_there, field_reads, output_reads}

-- The fields of the head, each where it stands.
pub record Fields (k : Kind) (all : List Bool) (m : Machine k.Ideal) (keys : ℕ) : Type 0 where
  pub marked : Stands all 0 (bits 16 mark)
  pub kind : Stands all 16 (bits 8 k.number)
  pub states : Stands all 24 (bits 16 (length m.states))
  pub arcs : Stands all 40 (bits 17 (count_arcs m.states))
  pub keys_there : Stands all 57 (bits 20 keys)
  pub output_there : Stands all 77 (k.code m.start_output)

pub fields_of : (k : Kind) (all : List Bool) (m : Machine k.Ideal) (keys : ℕ) → Stands all 0 (head_bits k m keys) → Fields k all m keys
fields_of k all m keys s =
    let a = bits 16 mark in
    let b = bits 8 k.number in
    let c = bits 16 (length m.states) in
    let d = bits 17 (count_arcs m.states) in
    let e = bits 20 keys in
    let f = k.code m.start_output in
    let s5 : Stands all 0 (a ++ b ++ c ++ d ++ e) = stands_front (a ++ b ++ c ++ d ++ e) f s in
    let s4 : Stands all 0 (a ++ b ++ c ++ d) = stands_front (a ++ b ++ c ++ d) e s5 in
    let s3 : Stands all 0 (a ++ b ++ c) = stands_front (a ++ b ++ c) d s4 in
    let s2 : Stands all 0 (a ++ b) = stands_front (a ++ b) c s3 in
    let l1 : length a ≡ 16 = length_bits 16 mark in
    let l2 : length (a ++ b) ≡ 24 = omega (arith, length-append a b, length_bits 8 k.number) in
    let l3 : length (a ++ b ++ c) ≡ 40 = omega (arith, length-append (a ++ b) c, length_bits 16 (length m.states)) in
    let l4 : length (a ++ b ++ c ++ d) ≡ 57 = omega (arith, length-append (a ++ b ++ c) d, length_bits 17 (count_arcs m.states)) in
    let l5 : length (a ++ b ++ c ++ d ++ e) ≡ 77 = omega (arith, length-append (a ++ b ++ c ++ d) e, length_bits 20 keys) in
    record {
      marked = stands_front a b s2;
      kind = stands_at (omega arith) (stands_behind a b s2);
      states = stands_at (omega arith) (stands_behind (a ++ b) c s3);
      arcs = stands_at (omega arith) (stands_behind (a ++ b ++ c) d s4);
      keys_there = stands_at (omega arith) (stands_behind (a ++ b ++ c ++ d) e s5);
      output_there = stands_at (omega arith) (stands_behind (a ++ b ++ c ++ d ++ e) f s);
    }

module _ (k : Kind) (laws : Laws k) (all : List Bool) (m : Machine k.Ideal) (counts : List ℕ) (keys : ℕ) (fit : Fit k m counts keys) (s : Stands all 0 (head_bits k m keys)) where
  -- the head of the machine
  abbrev pub head_of : Head k.Ideal
  head_of = record {
    states = length m.states;
    arcs_place = 40;
    arcs = count_arcs m.states;
    keys_place = 57;
    keys = keys;
    start_output = m.start_output;
    index = 77 + length (k.code m.start_output);
  }

  -- what is read of the head behind its numbers
  abbrev head_rest : Reader (Head k.Ideal)
  head_rest = do
    start_output ← output all k
    index ← place
    gives (record { states = length m.states; arcs_place = 40; arcs = count_arcs m.states; keys_place = 57; keys = keys; start_output = start_output; index = index })

  numbers_read : (working : ℕ) → head k all working 0 ≡ ◌>>◌ (refuse 20 24 (ltb working (length m.states))) head_rest 77
  numbers_read working =
      let f = fields_of k all m keys s in
      let n = length m.states in
      then_reads (field all 16) _ 0 _ mark (field_reads 16 mark (lit< tt) f.marked)
      ∙ then_reads (field all 8) _ 16 _ k.number (field_reads 8 k.number laws.number_fits f.kind)
      ∙ then_tests 18 16 (not (eqb k.number k.number)) _ 24 (not_from_true _ (eq-eqb k.number k.number refl))
      ∙ then_reads (field all 16) _ 24 _ n (field_reads 16 n (omega (arith, fit.few_states)) f.states)
      ∙ then_reads (field all 17) _ 40 _ (count_arcs m.states) (field_reads 17 (count_arcs m.states) (omega (arith, fit.few_arcs)) f.arcs)
      ∙ then_reads (field all 20) _ 57 _ keys (field_reads 20 keys (omega (arith, fit.few_keys)) f.keys_there)
      ∙ then_tests 19 24 (eqb n 0) _ 77 (ne_eqb n 0 (λ e. omega (arith, fit.some_states)))
      ∙ then_tests 19 57 (eqb keys 0) _ 77 (ne_eqb keys 0 (λ e. omega (arith, fit.some_keys)))

  pub head_reads : (working : ℕ) → length m.states ≤ working → head k all working 0 ≡ reads head_of (77 + length (k.code m.start_output))
  head_reads working enough =
      numbers_read working
      ∙ then_tests 20 24 (ltb working (length m.states)) head_rest 77 (le-ltb working (length m.states) enough)
      ∙ then_reads (output all k) _ 77 _ m.start_output (output_reads k laws m.start_output fit.start_storable (fields_of k all m keys s).output_there)

  pub head_refuses : (working : ℕ) → working < length m.states → head k all working 0 ≡ refuses (refusal_at 20 24)
  head_refuses working short =
      numbers_read working ∙ then_refuses (refuse 20 24 (ltb working (length m.states))) head_rest 77 (refusal_at 20 24) (fault 20 24 _ 77 (lt-ltb working (length m.states) short))

  -- the numbers that stand in the head
  pub states_there : value (take 16 (drop 24 all)) ≡ length m.states
  states_there = value_there 16 (length m.states) (omega (arith, fit.few_states)) (fields_of k all m keys s).states

  pub arcs_there : value (take 17 (drop 40 all)) ≡ count_arcs m.states
  arcs_there = value_there 17 (count_arcs m.states) (omega (arith, fit.few_arcs)) (fields_of k all m keys s).arcs

  pub keys_held : value (take 20 (drop 57 all)) ≡ keys
  keys_held = value_there 20 keys (omega (arith, fit.few_keys)) (fields_of k all m keys s).keys_there
