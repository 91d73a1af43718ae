-- How long the records and the whole image of a fit machine are, so that every place fits an index entry. Assumes the laws of a kind.
use Rattle.std.proofs.Common.{◌≡◌, ℕ, suc, ◌+◌, ◌*◌, ◌^◌, ◌<◌, ◌≤◌, Bool, true, List, [], ◌∷◌, ◌++◌, length, refl, ◌∙◌, arith, length-append}
use mathlib.Core.Option.{Option, none, some}
use Rattle.outputs.specs.Bits.{bits}
use Rattle.outputs.specs.Kinds.{Kind, Laws}
use Rattle.outputs.specs.BitRows.{length_bits}
use Rattle.machines.specs.Lists.{at, Each}
use Rattle.machines.specs.Machines.{Arc, State, Machine, count_arcs, end_flag}
use Rattle.images.specs.Images.{mark, end_code, arc_bits, arcs_bits, record_bits, records_bits, places, index_bits, in_turn, head_bits, image_bits}
use Rattle.machines.specs.Storing.{EndStorable, StateStorable}
use Rattle.images.specs.Fits.{Fit}
use Rattle.images.proofs.IndexReads.{length_index, length_places, length_records}

-- what holds at every place holds of each
pub each_at : {A : Type 0} (Q : A → Type 0) (xs : List A) → ((i : ℕ) (x : A) → at xs i ≡ some x → Q x) → Each Q xs
each_at Q [] f = tt
each_at Q (x ∷ xs) f = (f 0 x refl, each_at Q xs (λ i y e. f (suc i) y e))

-- the places of records are below what lies behind the last
pub places_below : (b p : ℕ) (rows : List (List Bool)) → p + length (in_turn rows) < b → Each (λ e. e < b) (places p rows)
places_below b p [] h = tt
places_below b p (r ∷ rs) h = (omega arith, places_below b (p + length r) rs (omega (arith, length-append r (in_turn rs))))

module _ (k : Kind) (laws : Laws k) where
  length_end : (e : Option k.Ideal) → EndStorable k e → length (end_code k e) ≤ 256
  length_end none h = omega arith
  length_end (some x) h = laws.code_short x h

  length_arc : (a : Arc k.Ideal) → length (arc_bits k a) ≡ 24 + length (k.code a.output)
  length_arc a =
      length-append (bits 8 a.byte ++ bits 16 a.target) (k.code a.output)
      ∙ omega (arith, length-append (bits 8 a.byte) (bits 16 a.target), length_bits 8 a.byte, length_bits 16 a.target)

  length_arcs : (as' : List (Arc k.Ideal)) → Each (λ arc. k.storable arc.output ≡ true) as' → length (arcs_bits k as') ≤ 280 * length as'
  length_arcs [] h = omega arith
  length_arcs (a ∷ as') h = omega (arith, length-append (arc_bits k a) (arcs_bits k as'), length_arc a, laws.code_short a.output h.0, length_arcs as' h.1)

  pub length_record : (s : State k.Ideal) (n : ℕ) → length (record_bits k s n) ≡ 30 + length (end_code k s.end) + length (arcs_bits k s.arcs)
  length_record s n =
      let f1 = bits 1 (end_flag s.end) in
      let f9 = bits 9 (length s.arcs) in
      let f20 = bits 20 n in
      let code = end_code k s.end in
      omega (
        arith,
        length-append (f1 ++ f9 ++ f20 ++ code) (arcs_bits k s.arcs),
        length-append (f1 ++ f9 ++ f20) code,
        length-append (f1 ++ f9) f20,
        length-append f1 f9,
        length_bits 1 (end_flag s.end),
        length_bits 9 (length s.arcs),
        length_bits 20 n,
      )

  -- an image can hold the outputs of a state
  pub records_short : (ss : List (State k.Ideal)) (ns : List ℕ) → Each (StateStorable k) ss → length (in_turn (records_bits k ss ns)) ≤ 286 * length ss + 280 * count_arcs ss
  records_short [] ns h = omega arith
  records_short (s ∷ ss) [] h = omega arith
  records_short (s ∷ ss) (n ∷ ns) h =
      omega (arith, length-append (record_bits k s n) (in_turn (records_bits k ss ns)), length_record s n, length_end s.end h.0.0, length_arcs s.arcs h.0.1, records_short ss ns h.1)

  pub length_head : (m : Machine k.Ideal) (keys : ℕ) → length (head_bits k m keys) ≡ 77 + length (k.code m.start_output)
  length_head m keys =
      let a = bits 16 mark in
      let b = bits 8 k.number in
      let c = bits 16 (length m.states) in
      let d = bits 17 (count_arcs m.states) in
      let e = bits 20 keys in
      omega (
        arith,
        length-append (a ++ b ++ c ++ d ++ e) (k.code m.start_output),
        length-append (a ++ b ++ c ++ d) e,
        length-append (a ++ b ++ c) d,
        length-append (a ++ b) c,
        length-append a b,
        length_bits 16 mark,
        length_bits 8 k.number,
        length_bits 16 (length m.states),
        length_bits 17 (count_arcs m.states),
        length_bits 20 keys,
      )

  -- the parts of an image, counted
  pub length_image : (m : Machine k.Ideal) (counts : List ℕ) (keys : ℕ) → length counts ≡ length m.states
      → length (image_bits k m counts keys) ≡ length (head_bits k m keys) + 32 * length m.states + length (in_turn (records_bits k m.states counts))
  length_image m counts keys e =
      let h = head_bits k m keys in
      let rows = records_bits k m.states counts in
      let ps = places (length h + 32 * length m.states) rows in
      omega (arith, length-append (h ++ index_bits ps) (in_turn rows), length-append h (index_bits ps), length_index ps, length_places (length h + 32 * length m.states) rows, length_records k m.states counts e)

  module _ (m : Machine k.Ideal) (counts : List ℕ) (keys : ℕ) (fit : Fit k m counts keys) where
    pub states_storable : Each (StateStorable k) m.states
    states_storable = each_at (StateStorable k) m.states (λ i s e. let f = fit.each_fit i s e in (f.end_storable, f.storable))

    -- an image has fewer than 2 ^ 26 bits
    pub image_short : length (image_bits k m counts keys) < 2 ^ 26
    image_short =
        omega (
          arith,
          length_image m counts keys fit.each_counted,
          length_head m keys,
          laws.code_short m.start_output fit.start_storable,
          records_short m.states counts states_storable,
          fit.few_states,
          fit.few_arcs,
        )
