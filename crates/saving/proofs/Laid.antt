-- What the shape of rows says of their states, arcs and records. Assumes that outputs are storable.
use Rattle.std.proofs.Common.{◌≡◌, ℕ, ◌+◌, ◌-◌, ◌*◌, ◌^◌, ◌<◌, ◌≤◌, Bool, true, List, [], ◌∷◌, map, length, drop, sym, refl, ap, ◌∙◌, arith, length-drop, length-take}
use Rattle.std.specs.Prelude.{Some, None, Option as Maybe, is_some}
use Rattle.outputs.specs.Meanings.{meant}
use mir.Val.{bool_byte}
use Rattle.std.proofs.lemmas.List.{length-map}
use Rattle.outputs.specs.Kinds.{Kind, Laws}
use Rattle.machines.specs.Machines.{Arc as Edge, count_arcs, end_flag}
use Rattle.images.specs.Images.{records_bits, head_bits, image_bits, in_turn}
use Rattle.images.proofs.ImageLengths.{records_short, length_head, length_image}
use Rattle.records.specs.declared.record.Arc.{Arc}
use Rattle.records.specs.declared.record.State.{State}
use Rattle.records.specs.Holding.{arc_of, arcs_of, closed_state}
use Rattle.records.specs.Lying.{Packed}
use Rattle.records.proofs.Storing.{stored_closed}
use Rattle.saving.specs.declared.rows.Rows.{Rows}
use Rattle.saving.specs.Standing.{counts_of, record_of, records_of, states_of, machine_of}

-- the end flag as it is written
pub flag_of : {O I : Type 0} (mean : O → I) (o : Maybe O) → bool_byte (is_some o) ≡ end_flag (meant mean o)
flag_of mean None = refl
flag_of mean (Some x) = refl

packed_within : {O : Type 0} (a n : ℕ) (ss : List (State O)) → Packed a n ss → a ≤ n
packed_within a n [] p = omega (arith, p)
packed_within a n (s ∷ ss) p = omega (arith, p.0, packed_within s.first n ss p.1)

-- the arcs of states that are packed, counted
pub packed_arcs : {O I : Type 0} (mean : O → I) (es : List (Edge I)) (a n : ℕ) (ss : List (State O)) → Packed a n ss → n ≤ length es → a + count_arcs (map (closed_state mean es) ss) ≡ n
packed_arcs mean es a n [] p h = omega (arith, p)
packed_arcs mean es a n (s ∷ ss) p h =
    omega (
      arith,
      p.0,
      packed_within s.first n ss p.1,
      packed_arcs mean es s.first n ss p.1 h,
      length-take s.count (drop (length es - s.first) es),
      length-drop (length es - s.first) es,
    )

module _ (k : Kind) {O : Type 0} (mean : O → k.Ideal) where
  -- the records of the states and counts are those of the rows
  pub records_same : (as' : List (Arc O)) (ss : List (State O)) → records_bits k (map (closed_state mean (arcs_of mean as')) ss) (map (λ s. s.keys) ss) ≡ records_of k mean as' ss
  records_same as' [] = refl
  records_same as' (s ∷ ss) = ap (λ (rs : List (List Bool)). record_of k mean as' s ∷ rs) (records_same as' ss)

  pub arcs_counted : (rows : Rows O) → count_arcs (states_of k mean rows) ≡ length rows.arcs.now
  arcs_counted rows =
      let es = arcs_of mean rows.arcs.now in
      let e : length es ≡ length rows.arcs.now = length-map rows.arcs.now (arc_of mean) in
      omega (arith, packed_arcs mean es 0 (length rows.arcs.now) rows.states.now rows.shaped.packed (omega arith))

  module _ (laws : Laws k) (stored : (x : O) → k.storable (mean x) ≡ true) where
    module _ (rows : Rows O) where
      pub image_length : length (image_bits k (machine_of k mean rows) (counts_of rows) rows.keys) ≡
          length (head_bits k (machine_of k mean rows) rows.keys) + 32 * length rows.states.now + length (in_turn (records_of k mean rows.arcs.now rows.states.now))
      image_length =
          omega (
            arith,
            length_image k laws (machine_of k mean rows) (counts_of rows) rows.keys (length-map rows.states.now (λ s. s.keys) ∙ sym (length-map rows.states.now (closed_state mean (arcs_of mean rows.arcs.now)))),
            length-map rows.states.now (closed_state mean (arcs_of mean rows.arcs.now)),
            ap (λ rs. length (in_turn rs)) (records_same rows.arcs.now rows.states.now),
          )

      -- so every place fits an index entry
      pub image_small : length (image_bits k (machine_of k mean rows) (counts_of rows) rows.keys) < 2 ^ 26
      image_small =
          let ss = states_of k mean rows in
          omega (
            arith,
            image_length,
            length_head k laws (machine_of k mean rows) rows.keys,
            laws.code_short (mean rows.start) (stored rows.start),
            records_short k laws ss (counts_of rows) (stored_closed k mean stored rows.arcs.now rows.states.now),
            ap (λ rs. length (in_turn rs)) (records_same rows.arcs.now rows.states.now),
            length-map rows.states.now (closed_state mean (arcs_of mean rows.arcs.now)),
            arcs_counted rows,
            rows.shaped.few_states,
            rows.shaped.few_arcs,
          )

      pub head_small : length (head_bits k (machine_of k mean rows) rows.keys) < 2 ^ 26
      head_small = omega (arith, image_length, image_small)
