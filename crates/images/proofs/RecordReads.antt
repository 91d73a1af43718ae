-- The arcs of a state, its end output and its record read back where their bits stand. Assumes the laws of a kind.
use Rattle.std.proofs.Common.{◌≡◌, ℕ, suc, ◌+◌, ◌^◌, ◌<◌, ◌≤◌, Bool, true, false, not, ◌&&◌, eqb, ltb, leb, List, [], ◌∷◌, ◌++◌, length, get_or, sym, refl, ap, ◌∙◌, ap₂, inl, inr, append-nil, arith, lit<, length-append, le-ltb, eq-eqb, eqb-true}
use mathlib.Core.Option.{Option, none, some}
use lib.Seq.{append_snoc}
use borrow.Author.Tests.{lt-leb}
use Rattle.std.proofs.lemmas.Bool.{or_from, and_parts, cases_Bool, not_from_true}
use Rattle.outputs.specs.Bits.{bits}
use Rattle.outputs.specs.Kinds.{Kind, Laws}
use Rattle.outputs.specs.BitRows.{length_bits}
use Rattle.machines.specs.Lists.{at, Each}
use Rattle.machines.specs.Machines.{Arc, State, end_flag, sum_at}
use Rattle.machines.specs.Numbering.{Rising}
use Rattle.images.specs.Images.{end_code, arc_bits, arcs_bits, record_bits}
use Rattle.images.specs.Steps.{reads, field, output}
use Rattle.images.specs.Loads.{misshapen, sum_over, entry_place, record_place, keys_at, arc, arcs, end_output, record_at}
use Rattle.machines.specs.Storing.{EndStorable}
use Rattle.images.specs.Fits.{FitState}
use Rattle.images.proofs.Standing.{Stands, stands_front, stands_behind, stands_at, stands_next, then_reads, then_tests, field_reads, output_reads}

-- rising bytes from `least` on, below 256, are few
rising_few : {A : Type 0} (as' : List (Arc A)) (least : ℕ) → least ≤ 256 → Each (λ arc. least ≤ arc.byte) as' → Each (λ arc. arc.byte < 256) as' → Rising as' → least + length as' ≤ 256
rising_few [] least h from below rise = omega arith
rising_few (a ∷ as') least h from below rise =
    omega (arith, from.0, rising_few as' (suc a.byte) below.0 rise.0 below.1 rise.1)

each_least : {A : Type 0} (as' : List (Arc A)) → Each (λ arc. 0 ≤ arc.byte) as'
each_least [] = tt
each_least (a ∷ as') = (omega arith, each_least as')

pub few_arcs : {A : Type 0} (as' : List (Arc A)) → Each (λ arc. arc.byte < 256) as' → Rising as' → length as' ≤ 256
few_arcs as' below rise = omega (arith, rising_few as' 0 (omega arith) (each_least as') below rise)

-- equal sums over the targets, if these are below q
pub sum_is : {A : Type 0} (f : ℕ → ℕ) (counts : List ℕ) (q : ℕ) (as' : List (Arc A)) → Each (λ arc. arc.target < q) as' → ((i : ℕ) → i < q → f i ≡ get_or counts i 0) → sum_over f as' ≡ sum_at counts as'
sum_is f counts q [] below same = refl
sum_is f counts q (a ∷ as') below same = ap₂ ◌+◌ (same a.target below.0) (sum_is f counts q as' below.1 same)

flag_fits : {A : Type 0} (e : Option A) → end_flag e < 2 ^ 1
flag_fits none = lit< tt
flag_fits (some x) = lit< tt

shapely : (count flag : ℕ) → count ≤ 256 → 0 < flag + count → misshapen count flag ≡ false
shapely count flag few way = or_from (ltb 256 count) (eqb count 0 && eqb flag 0) (le-ltb 256 count few) (elim (cases_Bool (eqb count 0 && eqb flag 0)) [
  | inl e ↦ let p = and_parts (eqb count 0) (eqb flag 0) e in absurd (omega (arith, eqb-true count 0 p.0, eqb-true flag 0 p.1))
  | inr e ↦ e
])

module _ (k : Kind) (laws : Laws k) (all : List Bool) where
  pub arc_reads : (q least p : ℕ) (a : Arc k.Ideal) → least ≤ a.byte → a.byte < 256 → a.target < q → q < 2 ^ 16 → k.storable a.output ≡ true
      → Stands all p (arc_bits k a) → arc k all q least p ≡ reads a (p + length (arc_bits k a))
  arc_reads q least p a from fits below few storable s =
      let b = bits 8 a.byte in
      let t = bits 16 a.target in
      let x = k.code a.output in
      let at_b : Stands all p (b ++ t) = stands_front (b ++ t) x s in
      let at_x : Stands all (p + 8 + 16) x = stands_at (omega (arith, length-append b t, length_bits 8 a.byte, length_bits 16 a.target)) (stands_behind (b ++ t) x s) in
      then_reads (field all 8) _ p _ a.byte (field_reads 8 a.byte fits (stands_front b t at_b))
      ∙ then_tests 23 p (ltb a.byte least) _ (p + 8) (le-ltb a.byte least from)
      ∙ then_reads (field all 16) _ (p + 8) _ a.target (field_reads 16 a.target (omega arith) (stands_next 8 a.byte t at_b))
      ∙ then_tests 23 (p + 8) (leb q a.target) _ (p + 8 + 16) (lt-leb q a.target below)
      ∙ then_reads (output all k) _ (p + 8 + 16) _ a.output (output_reads k laws a.output storable at_x)
      ∙ ap (λ n. reads a n) (omega (arith, length-append (b ++ t) x, length-append b t, length_bits 8 a.byte, length_bits 16 a.target))

  pub arcs_reads : (q least p : ℕ) (done as' : List (Arc k.Ideal)) → Each (λ arc. least ≤ arc.byte) as' → Rising as' → Each (λ arc. arc.byte < 256) as'
      → Each (λ arc. arc.target < q) as' → q < 2 ^ 16 → Each (λ arc. k.storable arc.output ≡ true) as'
      → Stands all p (arcs_bits k as') → arcs k all q (length as') least done p ≡ reads (done ++ as') (p + length (arcs_bits k as'))
  unfolding arcs
  arcs_reads q least p done [] from rise fits below few storable s = ap₂ reads (sym (append-nil done)) (omega arith)
  arcs_reads q least p done (a ∷ as') from rise fits below few storable s =
      then_reads (arc k all q least) _ p _ a (arc_reads q least p a from.0 fits.0 below.0 few storable.0 (stands_front (arc_bits k a) (arcs_bits k as') s))
      ∙ arcs_reads q (suc a.byte) (p + length (arc_bits k a)) (done ++ (a ∷ [])) as' rise.0 rise.1 fits.1 below.1 few storable.1 (stands_behind (arc_bits k a) (arcs_bits k as') s)
      ∙ ap₂ reads (append_snoc done a as') (omega (arith, length-append (arc_bits k a) (arcs_bits k as')))

  pub end_reads : (e : Option k.Ideal) (p : ℕ) → EndStorable k e → Stands all p (end_code k e) → end_output k all (end_flag e) p ≡ reads e (p + length (end_code k e))
  unfolding end_output
  end_reads none p h s = ap (λ n. reads none n) (omega arith)
  end_reads (some x) p h s = then_reads (output all k) _ p _ x (output_reads k laws x h s)

  -- the record of state q, whose place the index has, and which has the key counts of lower states
  pub record_reads : (index q p count : ℕ) (counts : List ℕ) (s : State k.Ideal) → FitState k counts q s → at counts q ≡ some count → q < 2 ^ 16
      → record_place k all index q ≡ p → ((i : ℕ) → i < q → keys_at k all index i ≡ get_or counts i 0)
      → Stands all p (record_bits k s count) → record_at k all index q p ≡ reads s (p + length (record_bits k s count))
  record_reads index q p count counts s fit counted few indexed keys there =
      let flag = end_flag s.end in
      let n = length s.arcs in
      let code = end_code k s.end in
      let row = arcs_bits k s.arcs in
      let both : at counts q ≡ some (end_flag s.end + sum_at counts s.arcs) = fit.counted in
      let total : count ≡ end_flag s.end + sum_at counts s.arcs = cc in
      let f1 = bits 1 flag in
      let f9 = bits 9 n in
      let f20 = bits 20 count in
      let lengths : length (f1 ++ f9 ++ f20 ++ code) ≡ 30 + length code
      = omega (arith, length-append (f1 ++ f9 ++ f20) code, length-append (f1 ++ f9) f20, length-append f1 f9, length_bits 1 flag, length_bits 9 n, length_bits 20 count) in
      let at_4 : Stands all p (f1 ++ f9 ++ f20 ++ code) = stands_front (f1 ++ f9 ++ f20 ++ code) row there in
      let at_3 : Stands all p (f1 ++ f9 ++ f20) = stands_front (f1 ++ f9 ++ f20) code at_4 in
      let at_2 : Stands all p (f1 ++ f9) = stands_front (f1 ++ f9) f20 at_3 in
      let at_keys : Stands all (p + 1 + 9) f20 = stands_at (omega (arith, length-append f1 f9, length_bits 1 flag, length_bits 9 n)) (stands_behind (f1 ++ f9) f20 at_3) in
      let at_end : Stands all (p + 1 + 9 + 20) code = stands_at (omega (arith, length-append (f1 ++ f9) f20, length-append f1 f9, length_bits 1 flag, length_bits 9 n, length_bits 20 count)) (stands_behind (f1 ++ f9 ++ f20) code at_4) in
      let at_arcs : Stands all (p + 1 + 9 + 20 + length code) row = stands_at (omega arith) (stands_behind (f1 ++ f9 ++ f20 ++ code) row there) in
      let most : n ≤ 256 = few_arcs s.arcs fit.bytes fit.rising in
      then_tests 22 (entry_place k all index q) (not (eqb (record_place k all index q) p)) _ p (not_from_true _ (eq-eqb _ p indexed))
      ∙ then_reads (field all 1) _ p _ flag (field_reads 1 flag (flag_fits s.end) (stands_front f1 f9 at_2))
      ∙ then_reads (field all 9) _ (p + 1) _ n (field_reads 9 n (omega arith) (stands_next 1 flag f9 at_2))
      ∙ then_tests 23 (p + 1) (misshapen n flag) _ (p + 1 + 9) (shapely n flag most fit.some_way)
      ∙ then_reads (field all 20) _ (p + 1 + 9) _ count (field_reads 20 count (omega (arith, fit.few_keys)) at_keys)
      ∙ then_reads (end_output k all flag) _ (p + 1 + 9 + 20) _ s.end (end_reads s.end (p + 1 + 9 + 20) fit.end_storable at_end)
      ∙ then_reads (arcs k all q n 0 []) _ (p + 1 + 9 + 20 + length code) _ s.arcs
      (arcs_reads q 0 (p + 1 + 9 + 20 + length code) [] s.arcs (each_least s.arcs) fit.rising fit.bytes fit.below few fit.storable at_arcs)
      ∙ then_tests 24 (p + 1 + 9) (not (eqb count (flag + sum_over (keys_at k all index) s.arcs))) _ _
      (not_from_true _ (eq-eqb count _ (total ∙ ap (λ x. flag + x) (sym (sum_is (keys_at k all index) counts q s.arcs fit.below keys)))))
      ∙ ap (λ z. reads s z) (omega (arith, length-append (f1 ++ f9 ++ f20 ++ code) row))
