-- The parts of the records that load read, where they stand. Assumes nothing.
use Rattle.std.proofs.Common.{◌≡◌, ℕ, zero, suc, ◌+◌, ◌*◌, ◌^◌, ◌<◌, ◌≤◌, Bool, true, false, not, eqb, ltb, leb, List, [], ◌∷◌, ◌++◌, length, take, drop, sym, refl, ap, ◌∙◌, subst, ap₂, append-nil, arith, length-drop, length-take-le, drop-drop, take-add, ltb-false, eqb-true, leb-false}
use mathlib.Core.Option.{Option, some}
use lib.Seq.{append_snoc}
use borrow.Author.Tests.{eqb-false}
use Rattle.std.proofs.lemmas.Bool.{not-false}
use Rattle.outputs.specs.Bits.{value}
use Rattle.outputs.specs.Kinds.{Kind}
use Rattle.outputs.specs.BitRows.{value_below}
use Rattle.fields.proofs.RowValues.{value_append}
use Rattle.machines.specs.Lists.{at, Each}
use Rattle.machines.specs.Machines.{Arc, State, end_flag}
use Rattle.machines.specs.Numbering.{Rising}
use Rattle.machines.proofs.Lists.{each_map}
use Rattle.images.specs.Images.{end_code}
use Rattle.images.specs.Steps.{reads, field, output}
use Rattle.images.specs.Loads.{misshapen, sum_over, entry_place, record_place, keys_at, if_flagged, entries, arc, arcs, end_output, record_at, records}
use Rattle.lookups.specs.Standing.{OutputStands, EndStands, ArcStands, RowStands, StateStands}
use Rattle.lookups.proofs.ReadBack.{one_value, one_place, both_read, tested, field_there, output_there}

-- so many bits that are there make a number below the power
pub bits_below : (all : List Bool) (p w : ℕ) → p + w ≤ length all → value (take w (drop p all)) < 2 ^ w
bits_below all p w h =
    let l : length (take w (drop p all)) ≡ w = length-take-le w (drop p all) (omega (arith, length-drop p all)) in
    subst (λ (n : ℕ). value (take w (drop p all)) < 2 ^ n) l (value_below (take w (drop p all)))

-- the flag and the arc count, as one number of ten bits
pub opening_is : (all : List Bool) (p : ℕ) → p + 10 ≤ length all → value (take 10 (drop p all)) ≡ value (take 1 (drop p all)) * 512 + value (take 9 (drop (p + 1) all))
opening_is all p h =
    let d : drop 1 (drop p all) ≡ drop (p + 1) all = drop-drop 1 p all in
    let l : length (take 9 (drop (p + 1) all)) ≡ 9 = length-take-le 9 (drop (p + 1) all) (omega (arith, length-drop (p + 1) all)) in
    ap value (take-add 1 9 (drop p all) ∙ ap (λ (z : List Bool). take 1 (drop p all) ++ take 9 z) d)
    ∙ value_append (take 1 (drop p all)) (take 9 (drop (p + 1) all))
    ∙ ap (λ (n : ℕ). value (take 1 (drop p all)) * 2 ^ n + value (take 9 (drop (p + 1) all))) l

-- an arc of state q that was read
pub record ArcThere (k : Kind) (all : List Bool) (q least p : ℕ) (x : Arc k.Ideal) (e : ℕ) : Type 0 where
  pub stands : ArcStands k all p x
  pub from : least ≤ x.byte
  pub below : x.target < q
  pub next : e ≡ p + 24 + length (k.code x.output)

-- the arcs of state q that were read behind those that were done
pub record RowThere (k : Kind) (all : List Bool) (q n least p : ℕ) (done row : List (Arc k.Ideal)) : Type 0 where
  pub new : List (Arc k.Ideal)
  pub is : row ≡ done ++ new
  pub many : length new ≡ n
  pub stands : RowStands k all p new
  pub rising : Rising new
  pub from : Each (λ arc. least ≤ arc.byte) new
  pub below : Each (λ arc. arc.target < q) new

-- the end output that was read by a flag
pub record EndThere (k : Kind) (all : List Bool) (flag p : ℕ) (o : Option k.Ideal) (e : ℕ) : Type 0 where
  pub flagged : flag ≡ end_flag o
  pub stands : EndStands k all p o
  pub next : e ≡ p + length (end_code k o)

-- the record of state q that was read, where the index says
pub record RecordThere (k : Kind) (all : List Bool) (index q : ℕ) (s : State k.Ideal) : Type 0 where
  pub stands : StateStands k all (record_place k all index q) s
  pub rising : Rising s.arcs
  pub below : Each (λ arc. arc.target < q) s.arcs
  pub keys : keys_at k all index q ≡ end_flag s.end + sum_over (keys_at k all index) s.arcs

-- the records that were read from state q on, behind the states that were done
pub record StatesThere (k : Kind) (all : List Bool) (index q n : ℕ) (done ss : List (State k.Ideal)) : Type 0 where
  pub new : List (State k.Ideal)
  pub is : ss ≡ done ++ new
  pub many : length new ≡ n
  pub each : (i : ℕ) (s : State k.Ideal) → at new i ≡ some s → RecordThere k all index (q + i) s

module _ (k : Kind) (all : List Bool) where
  arc_there : (q least p : ℕ) (x : Arc k.Ideal) (e : ℕ) → arc k all q least p ≡ reads x e → ArcThere k all q least p x e
  arc_there q least p x e h =
      let b = both_read (field all 8) _ p x e h in
      let fb = field_there all 8 p b.first b.behind b.read in
      let t = tested 23 p (ltb b.first least) _ b.behind x e b.after in
      let c = both_read (field all 16) _ b.behind x e t.1 in
      let fc = field_there all 16 b.behind c.first c.behind c.read in
      let u = tested 23 b.behind (leb q c.first) _ c.behind x e c.after in
      let d = both_read (output all k) _ c.behind x e u.1 in
      let fd = output_there k all c.behind d.first d.behind d.read in
      let same : ◌≡◌ {A = Arc k.Ideal} (record { byte = b.first; target = c.first; output = d.first }) x = one_value d.after in
      let end : d.behind ≡ e = one_place d.after in
      let byte : b.first ≡ x.byte = ap (λ (a : Arc k.Ideal). a.byte) same in
      let target : c.first ≡ x.target = ap (λ (a : Arc k.Ideal). a.target) same in
      let out : d.first ≡ x.output = ap (λ (a : Arc k.Ideal). a.output) same in
      let second : b.behind ≡ p + 8 = fb.next in
      let third : c.behind ≡ p + 24 = omega (arith, fc.next, second) in
      record {
        stands = record {
          within = omega (arith, fc.within, second);
          byte = fb.is ∙ byte;
          target = ap (λ (n : ℕ). value (take 16 (drop n all))) (sym second) ∙ fc.is ∙ target;
          output = subst (λ (n : ℕ). OutputStands k all n x.output) third (subst (OutputStands k all c.behind) out fd.0);
        };
        from = subst (λ (n : ℕ). least ≤ n) byte (ltb-false b.first least t.0);
        below = subst (λ (n : ℕ). n < q) target (leb-false q c.first u.0);
        next = sym end ∙ fd.1 ∙ ap₂ (λ (n : ℕ) (y : k.Ideal). n + length (k.code y)) third out;
      }

  row_there : (q n least p : ℕ) (done row : List (Arc k.Ideal)) (e : ℕ) → arcs k all q n least done p ≡ reads row e → RowThere k all q n least p done row
  unfolding arcs
  row_there q zero least p done row e h =
      record { new = []; is = sym (one_value h) ∙ sym (append-nil done); many = refl; stands = tt; rising = tt; from = tt; below = tt }
  row_there q (suc n) least p done row e h =
      let b = both_read (arc k all q least) _ p row e h in
      let x : Arc k.Ideal = b.first in
      let a = arc_there q least p x b.behind b.read in
      let r = row_there q n (suc x.byte) b.behind (done ++ (x ∷ [])) row e b.after in
      record {
        new = x ∷ r.new;
        is = r.is ∙ append_snoc done x r.new;
        many = ap suc r.many;
        stands = (a.stands, subst (λ (m : ℕ). RowStands k all m r.new) a.next r.stands);
        rising = (r.from, r.rising);
        from = (a.from, each_map (λ arc. suc x.byte ≤ arc.byte) (λ arc. least ≤ arc.byte) r.new (λ y l. omega (arith, a.from)) r.from);
        below = (a.below, r.below);
      }

  end_there : (flag p : ℕ) (o : Option k.Ideal) (e : ℕ) → flag < 2 → end_output k all flag p ≡ reads o e → EndThere k all flag p o e
  unfolding end_output
  end_there flag p o e l = go (eqb flag 1) refl
    where
      go : (t : Bool) → eqb flag 1 ≡ t → if_flagged t (output all k) p ≡ reads o e → EndThere k all flag p o e
      go true s h =
          let b = both_read (output all k) _ p o e h in
          let f = output_there k all p b.first b.behind b.read in
          subst (λ (z : Option k.Ideal). EndThere k all flag p z e) (one_value b.after) (record { flagged = eqb-true flag 1 s; stands = f.0; next = sym (one_place b.after) ∙ f.1 })
      go false s h =
          let n : flag ≡ 0 = omega (arith, eqb-false flag 1 s) in
          subst (λ (z : Option k.Ideal). EndThere k all flag p z e) (one_value h) (record { flagged = n; stands = tt; next = sym (one_place h) ∙ omega arith })

  record_there : (index q p : ℕ) (s : State k.Ideal) (e : ℕ) → record_at k all index q p ≡ reads s e → RecordThere k all index q s
  record_there index q p s e h =
      let t = tested 22 (entry_place k all index q) (not (eqb (record_place k all index q) p)) _ p s e h in
      let a = both_read (field all 1) _ p s e t.1 in
      let fa = field_there all 1 p a.first a.behind a.read in
      let b = both_read (field all 9) _ a.behind s e a.after in
      let fb = field_there all 9 a.behind b.first b.behind b.read in
      let u = tested 23 a.behind (misshapen b.first a.first) _ b.behind s e b.after in
      let c = both_read (field all 20) _ b.behind s e u.1 in
      let fc = field_there all 20 b.behind c.first c.behind c.read in
      let d = both_read (end_output k all a.first) _ c.behind s e c.after in
      let small : a.first < 2 = subst (λ (n : ℕ). n < 2) fa.is (bits_below all p 1 fa.within) in
      let fd = end_there a.first c.behind d.first d.behind small d.read in
      let f = both_read (arcs k all q b.first 0 []) _ d.behind s e d.after in
      let ff = row_there q b.first 0 d.behind [] f.first f.behind f.read in
      let v = tested 24 b.behind (not (eqb c.first (a.first + sum_over (keys_at k all index) f.first))) _ f.behind s e f.after in
      let same : ◌≡◌ {A = State k.Ideal} (record { end = d.first; arcs = f.first }) s = one_value v.1 in
      let here : record_place k all index q ≡ p = eqb-true (record_place k all index q) p (not-false (eqb (record_place k all index q) p) t.0) in
      let second : a.behind ≡ p + 1 = fa.next in
      let third : b.behind ≡ p + 10 = omega (arith, fb.next, second) in
      let fourth : c.behind ≡ p + 30 = omega (arith, fc.next, third) in
      let fifth : d.behind ≡ p + 30 + length (end_code k d.first) = fd.next ∙ ap (λ (n : ℕ). n + length (end_code k d.first)) fourth in
      let row : ff.new ≡ f.first = sym ff.is in
      let total : c.first ≡ a.first + sum_over (keys_at k all index) f.first = eqb-true c.first _ (not-false (eqb c.first (a.first + sum_over (keys_at k all index) f.first)) v.0) in
      subst (λ (z : State k.Ideal). RecordThere k all index q z) same (record {
        stands = subst (λ (n : ℕ). StateStands k all n (record { end = d.first; arcs = f.first })) (sym here) (record {
          within = omega (arith, fc.within, third);
          flag = fa.is ∙ fd.flagged;
          count = ap (λ (n : ℕ). value (take 9 (drop n all))) (sym second) ∙ fb.is ∙ sym ff.many ∙ ap length row;
          end = subst (λ (n : ℕ). EndStands k all n d.first) fourth fd.stands;
          arcs = subst (λ (n : ℕ). RowStands k all n f.first) fifth (subst (RowStands k all d.behind) row ff.stands);
        });
        rising = subst Rising row ff.rising;
        below = subst (Each (λ arc. arc.target < q)) row ff.below;
        keys = ap (λ (n : ℕ). value (take 20 (drop (n + 10) all))) here ∙ ap (λ (n : ℕ). value (take 20 (drop n all))) (sym third) ∙ fc.is ∙ total ∙ ap (λ (n : ℕ). n + sum_over (keys_at k all index) f.first) fd.flagged;
      })

  pub states_there : (index q n p : ℕ) (done ss : List (State k.Ideal)) (e : ℕ) → records k all index q n done p ≡ reads ss e → StatesThere k all index q n done ss
  unfolding records
  states_there index q zero p done ss e h =
      record { new = []; is = sym (one_value h) ∙ sym (append-nil done); many = refl; each = λ i s f. let z : ◌≡◌ {A = ℕ} 0 1 = cc in absurd (omega arith) }
  states_there index q (suc n) p done ss e h =
      let b = both_read (record_at k all index q) _ p ss e h in
      let s : State k.Ideal = b.first in
      let a = record_there index q p s b.behind b.read in
      let r = states_there index (suc q) n b.behind (done ++ (s ∷ [])) ss e b.after in
      record { new = s ∷ r.new; is = r.is ∙ append_snoc done s r.new; many = ap suc r.many; each = each s a r.new r.each }
    where
      each : (s : State k.Ideal) → RecordThere k all index q s → (new : List (State k.Ideal)) → ((i : ℕ) (t : State k.Ideal) → at new i ≡ some t → RecordThere k all index (suc q + i) t)
          → (i : ℕ) (t : State k.Ideal) → at (s ∷ new) i ≡ some t → RecordThere k all index (q + i) t
      each s a new r zero t f =
          let same : s ≡ t = cc in
          let here : q ≡ q + 0 = omega arith in
          subst (λ (j : ℕ). RecordThere k all index j t) here (subst (λ (z : State k.Ideal). RecordThere k all index q z) same a)
      each s a new r (suc i) t f =
          let later : suc q + i ≡ q + suc i = omega arith in
          subst (λ (j : ℕ). RecordThere k all index j t) later (r i t f)

  -- every entry of an index that was passed is there
  pub entries_there : (n p : ℕ) (u : Unit {0}) (e : ℕ) → entries k all n p ≡ reads u e → (i : ℕ) → i < n → p + 32 * i + 32 ≤ length all
  unfolding entries
  entries_there zero p u e h i l = absurd (omega arith)
  entries_there (suc n) p u e h zero l =
      let b = both_read (field all 32) _ p u e h in
      omega (arith, (field_there all 32 p b.first b.behind b.read).within)
  entries_there (suc n) p u e h (suc i) l =
      let b = both_read (field all 32) _ p u e h in
      omega (arith, (field_there all 32 p b.first b.behind b.read).next, entries_there n b.behind u e b.after i (omega arith))
