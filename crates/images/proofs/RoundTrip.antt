-- Load takes every fit machine back from its image. Assumes the laws of a kind.
use Rattle.std.proofs.Common.{◌≡◌, ℕ, zero, suc, ◌+◌, ◌-◌, ◌*◌, ◌^◌, ◌<◌, ◌≤◌, Bool, true, not, eqb, ltb, List, [], ◌++◌, length, get_or, sym, refl, ap, ◌∙◌, subst, append_assoc, zero-add, arith, length-append, pow_pos, le-ltb, eq-eqb}
use mathlib.Core.Option.{some}
use Rattle.std.proofs.lemmas.Bool.{not_from_true}
use Rattle.outputs.specs.Bits.{bits, spread, filling, packed}
use Rattle.outputs.specs.Kinds.{Kind, Laws}
use Rattle.outputs.specs.TextLaws.{spread_append}
use Rattle.machines.specs.Lists.{at, Each}
use Rattle.machines.specs.Machines.{State, Machine, count_arcs, targeted, end_flag, sum_at}
use Rattle.machines.specs.Lengths.{longest_from}
use Rattle.machines.proofs.Lists.{get_or_at, below_at, at_below}
use Rattle.images.specs.Images.{head_bits, records_bits, places, index_bits, in_turn, image_bits, image_of}
use Rattle.images.specs.Steps.{refusal_at, reads, refuses, field}
use Rattle.images.specs.Loads.{head, record_place, keys_at, entries, records, all_targeted, whole, load}
use Rattle.images.specs.Fits.{FitState, Fit}
use Rattle.images.specs.RoundTrip.{LoadsBack}
use Rattle.images.proofs.Packing.{spread_packed, packed_bits, length_packed, zero_bits}
use Rattle.images.proofs.Standing.{Stands, stands_first, stands_front, stands_behind, stands_at, then_reads, then_passes, then_tests, field_reads, then_none}
use Rattle.images.proofs.IndexReads.{length_index, length_places, length_records, entries_read, keys_there, records_read}
use Rattle.images.proofs.ImageLengths.{each_at, places_below, length_head, length_image, image_short}
use Rattle.images.proofs.HeadReads.{head_of, head_reads, head_refuses, states_there, arcs_there, keys_held}

-- every state from q on is some arc's target
targets_read : (k : Kind) (all : List Bool) (index : ℕ) (ss : List (State k.Ideal)) (q n p : ℕ) → ((i : ℕ) → i < q + n → targeted i ss ≡ true) → all_targeted k all index ss q n p ≡ reads tt p
unfolding all_targeted
targets_read k all index ss q zero p h = refl
targets_read k all index ss q (suc n) p h =
    then_tests 25 (record_place k all index q) (not (targeted q ss)) _ p (not_from_true _ (h q (omega arith)))
    ∙ targets_read k all index ss (suc q) n p (λ i l. h i (omega arith))

module _ (k : Kind) (laws : Laws k) (m : Machine k.Ideal) (counts : List ℕ) (keys : ℕ) (fit : Fit k m counts keys) where
  counts_fit : Each (λ n. n < 2 ^ 20) counts
  counts_fit = each_at (λ n. n < 2 ^ 20) counts (λ i n e.
      let s = at_below m.states i (omega (arith, below_at counts i n e, fit.each_counted)) in
      let f = fit.each_fit i s.0 s.1 in
      let total : at counts i ≡ some (end_flag s.0.end + sum_at counts s.0.arcs) = f.counted in
      let same : n ≡ end_flag s.0.end + sum_at counts s.0.arcs = cc in
      omega (arith, f.few_keys))

  module _ (all : List Bool) (there : Stands all 0 (image_bits k m counts keys)) where
    head_there : Stands all 0 (head_bits k m keys)
    head_there =
        let h = head_bits k m keys in
        let rows = records_bits k m.states counts in
        let ps = places (length h + 32 * length m.states) rows in
        stands_front h (index_bits ps) (stands_front (h ++ index_bits ps) (in_turn rows) there)

    whole_reads : (working : ℕ) → length m.states ≤ working → Stands all (length (image_bits k m counts keys)) (bits (filling (length (image_bits k m counts keys))) 0)
        → whole k all working 0 ≡ reads m (length (image_bits k m counts keys) + filling (length (image_bits k m counts keys)))
    whole_reads working enough filled =
        let h = head_bits k m keys in
        let n = length m.states in
        let rows = records_bits k m.states counts in
        let base : ℕ = length h + 32 * n in
        let ps = places base rows in
        let index : ℕ = 77 + length (k.code m.start_output) in
        let used : ℕ = length (image_bits k m counts keys) in
        let at_index : index ≡ length h = sym (length_head k laws m keys) in
        let parts : used ≡ length h + 32 * n + length (in_turn rows) = length_image k laws m counts keys fit.each_counted in
        let small : used < 2 ^ 26 = image_short k laws m counts keys fit in
        let rows_n : length rows ≡ n = length_records k m.states counts fit.each_counted in
        let ps_n : length ps ≡ n = length_places base rows ∙ rows_n in
        let low : Each (λ e. e < 2 ^ 32) ps = places_below (2 ^ 32) base rows (omega arith) in
        let front : Stands all 0 (h ++ index_bits ps) = stands_front (h ++ index_bits ps) (in_turn rows) there in
        let indexed : Stands all index (index_bits ps) = stands_at (omega arith) (stands_behind h (index_bits ps) front) in
        let recorded : Stands all base (in_turn rows) = stands_at (omega (arith, length-append h (index_bits ps), length_index ps)) (stands_behind (h ++ index_bits ps) (in_turn rows) there) in
        let keyed : (i : ℕ) → i < n → keys_at k all index i ≡ get_or counts i 0
        = λ i l. keys_there k laws all m.states counts index base i fit.each_counted counts_fit low l indexed recorded in
        let last : m.start ≡ n - 1 = omega (arith, fit.start_last) in
        let start_keys : keys_at k all index (n - 1) ≡ keys = keyed (n - 1) (omega (arith, fit.some_states)) ∙ ap (λ q. get_or counts q 0) (sym last) ∙ get_or_at counts m.start keys 0 fit.all_counted in
        let entered : entries k all n index ≡ reads tt base
        = ap (λ j. entries k all j index) (sym ps_n) ∙ entries_read k laws all ps index low indexed ∙ ap (λ j. reads tt j) (omega (arith, length_index ps)) in
        let taken : records k all index 0 n [] base ≡ reads m.states used
        = records_read k laws all index counts m.states counts 0 base [] fit.each_counted
        (λ i s e. subst (λ j. FitState k counts j s) (sym (zero-add i)) (fit.each_fit i s e))
        (λ i c e. ap (at counts) (zero-add i) ∙ e)
        (omega (arith, fit.few_states)) (λ i l. keyed i (omega arith)) low (stands_at (omega arith) indexed) recorded
        ∙ ap (λ j. reads m.states j) (sym parts) in
        then_reads (head k all working) _ 0 _ (head_of k laws all m counts keys fit head_there) (head_reads k laws all m counts keys fit head_there working enough)
        ∙ then_passes (entries k all n) _ index _ tt entered
        ∙ then_reads (records k all index 0 n []) _ base _ m.states taken
        ∙ then_tests 24 57 (not (eqb keys (keys_at k all index (n - 1)))) _ used (not_from_true _ (eq-eqb keys _ (sym start_keys)))
        ∙ then_tests 24 40 (not (eqb (count_arcs m.states) (count_arcs m.states))) _ used (not_from_true _ (eq-eqb (count_arcs m.states) _ refl))
        ∙ then_passes (all_targeted k all index m.states 0 (n - 1)) _ used _ tt (targets_read k all index m.states 0 (n - 1) used (λ i l. fit.all_targeted i (omega arith)))
        ∙ then_tests 25 (record_place k all index (n - 1)) (ltb 64 (longest_from m.states (n - 1))) _ used
        (le-ltb 64 (longest_from m.states (n - 1)) (subst (λ q. longest_from m.states q ≤ 64) last fit.short))
        ∙ then_reads (field all (filling used)) _ used _ 0 (field_reads (filling used) 0 (pow_pos (filling used)) filled)
        ∙ ap (λ q. reads (record { start = q; start_output = m.start_output; states = m.states }) (used + filling used)) (sym last)

    whole_refuses : (working : ℕ) → working < length m.states → whole k all working 0 ≡ refuses (refusal_at 20 24)
    whole_refuses working short = then_none (head k all working) _ 0 (refusal_at 20 24) (head_refuses k laws all m counts keys fit head_there working short)

  -- the bits of the image with more bytes behind it
  image_spread : (more : List ℕ) → spread (image_of k m counts keys ++ more) ≡ image_bits k m counts keys ++ (bits (filling (length (image_bits k m counts keys))) 0 ++ spread more)
  image_spread more =
      let row = image_bits k m counts keys in
      spread_append (packed row) more ∙ ap (λ l. l ++ spread more) (spread_packed row ∙ ap (λ l. row ++ l) (sym (zero_bits (filling (length row)))))
      ∙ append_assoc row (bits (filling (length row)) 0) (spread more)

  image_there : (more : List ℕ) → Stands (spread (image_of k m counts keys ++ more)) 0 (image_bits k m counts keys ++ bits (filling (length (image_bits k m counts keys))) 0)
  image_there more =
      let row = image_bits k m counts keys in
      let zeros = bits (filling (length row)) 0 in
      subst (λ all. Stands all 0 (row ++ zeros)) (append_assoc row zeros (spread more) ∙ sym (image_spread more)) (stands_first (row ++ zeros) (spread more))

  pub loads_back : LoadsBack k m counts keys
  unfolding load
  loads_back =
      let row = image_bits k m counts keys in
      let zeros = bits (filling (length row)) 0 in
      let there : (more : List ℕ) → Stands (spread (image_of k m counts keys ++ more)) 0 row = λ more. stands_front row zeros (image_there more) in
      record {
        taken = λ working enough more.
            whole_reads (spread (image_of k m counts keys ++ more)) (there more) working enough (stands_at (zero-add (length row)) (stands_behind row zeros (image_there more)))
            ∙ ap (λ p. reads m p) (sym (packed_bits row));
        refused = λ working short more. whole_refuses (spread (image_of k m counts keys ++ more)) (there more) working short;
        states_held = λ more. states_there k laws (spread (image_of k m counts keys ++ more)) m counts keys fit (head_there (spread (image_of k m counts keys ++ more)) (there more));
        arcs_held = λ more. arcs_there k laws (spread (image_of k m counts keys ++ more)) m counts keys fit (head_there (spread (image_of k m counts keys ++ more)) (there more));
        keys_held = λ more. keys_held k laws (spread (image_of k m counts keys ++ more)) m counts keys fit (head_there (spread (image_of k m counts keys ++ more)) (there more));
        size = length_packed row;
        small = image_short k laws m counts keys fit;
      }
