-- The index and all records read back where their bits stand. Assumes the laws of a kind.
use Rattle.std.proofs.Common.{◌≡◌, ℕ, zero, suc, ◌+◌, ◌*◌, ◌^◌, ◌<◌, ◌≤◌, Bool, List, [], ◌∷◌, ◌++◌, length, get_or, take, drop, sym, refl, ap, ◌∙◌, subst, ap₂, append-nil, arith, length-append}
use mathlib.Core.Option.{some}
use lib.Seq.{append_snoc}
use Rattle.outputs.specs.Bits.{bits, value}
use Rattle.outputs.specs.Kinds.{Kind, Laws}
use Rattle.outputs.specs.BitRows.{length_bits}
use Rattle.machines.specs.Lists.{at, Each}
use Rattle.machines.specs.Machines.{State, end_flag}
use Rattle.images.specs.Images.{end_code, arcs_bits, record_bits, records_bits, places, index_bits, in_turn}
use Rattle.images.specs.Steps.{reads, field}
use Rattle.images.specs.Loads.{record_place, keys_at, entries, record_at, records}
use Rattle.images.specs.Fits.{FitState}
use Rattle.images.proofs.Standing.{Stands, stands_front, stands_behind, stands_at, stands_next, then_reads, value_there, field_reads}
use Rattle.images.proofs.RecordReads.{record_reads}

pub length_index : (ps : List ℕ) → length (index_bits ps) ≡ 32 * length ps
length_index [] = refl
length_index (p ∷ ps) = length-append (bits 32 p) (index_bits ps) ∙ omega (arith, length_bits 32 p, length_index ps)

pub length_places : (p : ℕ) (rows : List (List Bool)) → length (places p rows) ≡ length rows
length_places p [] = refl
length_places p (r ∷ rs) = ap suc (length_places (p + length r) rs)

pub length_records : (k : Kind) (ss : List (State k.Ideal)) (ns : List ℕ) → length ns ≡ length ss → length (records_bits k ss ns) ≡ length ss
length_records k [] ns e = refl
length_records k (s ∷ ss) [] e = absurd (omega arith)
length_records k (s ∷ ss) (n ∷ ns) e = ap suc (length_records k ss ns (omega arith))

module _ (k : Kind) (laws : Laws k) (all : List Bool) where
  -- the index is passed
  pub entries_read : (ps : List ℕ) (p : ℕ) → Each (λ e. e < 2 ^ 32) ps → Stands all p (index_bits ps) → entries k all (length ps) p ≡ reads tt (p + length (index_bits ps))
  unfolding entries
  entries_read [] p fit s = ap (λ n. reads tt n) (omega arith)
  entries_read (e ∷ ps) p fit s =
      then_reads (field all 32) _ p _ e (field_reads 32 e fit.0 (stands_front (bits 32 e) (index_bits ps) s))
      ∙ entries_read ps (p + 32) fit.1 (stands_next 32 e (index_bits ps) s)
      ∙ ap (λ n. reads tt n) (omega (arith, length-append (bits 32 e) (index_bits ps), length_bits 32 e))

  -- what the index says of a state, and the key count in the record there
  pub place_there : (index : ℕ) (ps : List ℕ) (i : ℕ) → Each (λ e. e < 2 ^ 32) ps → i < length ps → Stands all index (index_bits ps) → record_place k all index i ≡ get_or ps i 0
  place_there index [] i fit h s = absurd (omega arith)
  place_there index (e ∷ ps) zero fit h s =
      ap (λ n. value (take 32 (drop n all))) (omega arith) ∙ value_there 32 e fit.0 (stands_front (bits 32 e) (index_bits ps) s)
  place_there index (e ∷ ps) (suc i) fit h s =
      ap (λ n. value (take 32 (drop n all))) (omega arith) ∙ place_there (index + 32) ps i fit.1 (omega arith) (stands_next 32 e (index_bits ps) s)

  count_there : (p n : ℕ) (s : State k.Ideal) → n < 2 ^ 20 → Stands all p (record_bits k s n) → value (take 20 (drop (p + 10) all)) ≡ n
  count_there p n s fit there =
      let f1 = bits 1 (end_flag s.end) in
      let f9 = bits 9 (length s.arcs) in
      let f20 = bits 20 n in
      let at_3 : Stands all p (f1 ++ f9 ++ f20) = stands_front (f1 ++ f9 ++ f20) (end_code k s.end) (stands_front (f1 ++ f9 ++ f20 ++ end_code k s.end) (arcs_bits k s.arcs) there) in
      value_there 20 n fit (stands_at (omega (arith, length-append f1 f9, length_bits 1 (end_flag s.end), length_bits 9 (length s.arcs))) (stands_behind (f1 ++ f9) f20 at_3))

  counts_there : (ss : List (State k.Ideal)) (ns : List ℕ) (p i : ℕ) → length ns ≡ length ss → Each (λ n. n < 2 ^ 20) ns → i < length ss
      → Stands all p (in_turn (records_bits k ss ns)) → value (take 20 (drop (get_or (places p (records_bits k ss ns)) i 0 + 10) all)) ≡ get_or ns i 0
  counts_there [] ns p i e fit h s = absurd (omega arith)
  counts_there (s ∷ ss) [] p i e fit h there = absurd (omega arith)
  counts_there (s ∷ ss) (n ∷ ns) p zero e fit h there = count_there p n s fit.0 (stands_front (record_bits k s n) (in_turn (records_bits k ss ns)) there)
  counts_there (s ∷ ss) (n ∷ ns) p (suc i) e fit h there =
      counts_there ss ns (p + length (record_bits k s n)) i (omega arith) fit.1 (omega arith) (stands_behind (record_bits k s n) (in_turn (records_bits k ss ns)) there)

  -- the key count that the index leads to
  pub keys_there : (ss : List (State k.Ideal)) (ns : List ℕ) (index p i : ℕ) → length ns ≡ length ss → Each (λ n. n < 2 ^ 20) ns → Each (λ e. e < 2 ^ 32) (places p (records_bits k ss ns)) → i < length ss
      → Stands all index (index_bits (places p (records_bits k ss ns))) → Stands all p (in_turn (records_bits k ss ns)) → keys_at k all index i ≡ get_or ns i 0
  keys_there ss ns index p i e fit low h indexed there =
      ap (λ n. value (take 20 (drop (n + 10) all))) (place_there index (places p (records_bits k ss ns)) i low (omega (arith, length_places p (records_bits k ss ns), length_records k ss ns e)) indexed)
      ∙ counts_there ss ns p i e fit h there

  -- all records, from that of state q on
  pub records_read : (index : ℕ) (counts : List ℕ) (ss : List (State k.Ideal)) (ns : List ℕ) (q p : ℕ) (done : List (State k.Ideal))
      → length ns ≡ length ss
      → ((i : ℕ) (s : State k.Ideal) → at ss i ≡ some s → FitState k counts (q + i) s)
      → ((i n : ℕ) → at ns i ≡ some n → at counts (q + i) ≡ some n)
      → q + length ss ≤ 2 ^ 16
      → ((i : ℕ) → i < q + length ss → keys_at k all index i ≡ get_or counts i 0)
      → Each (λ e. e < 2 ^ 32) (places p (records_bits k ss ns))
      → Stands all (index + 32 * q) (index_bits (places p (records_bits k ss ns)))
      → Stands all p (in_turn (records_bits k ss ns))
      → records k all index q (length ss) done p ≡ reads (done ++ ss) (p + length (in_turn (records_bits k ss ns)))
  unfolding records
  records_read index counts [] ns q p done e fit same few keys low indexed there = ap₂ reads (sym (append-nil done)) (omega arith)
  records_read index counts (s ∷ ss) [] q p done e fit same few keys low indexed there = absurd (omega arith)
  records_read index counts (s ∷ ss) (n ∷ ns) q p done e fit same few keys low indexed there =
      let row = record_bits k s n in
      let rest = records_bits k ss ns in
      let here : q + 0 ≡ q = omega arith in
      let later : (i : ℕ) → q + suc i ≡ suc q + i = λ i. omega arith in
      then_reads (record_at k all index q) _ p _ s
      (record_reads k laws all index q p n counts s (subst (λ j. FitState k counts j s) here (fit 0 s refl)) (ap (at counts) (sym here) ∙ same 0 n refl) (omega arith)
      (value_there 32 p low.0 (stands_front (bits 32 p) (index_bits (places (p + length row) rest)) indexed)) (λ i h. keys i (omega arith)) (stands_front row (in_turn rest) there))
      ∙ records_read index counts ss ns (suc q) (p + length row) (done ++ (s ∷ [])) (omega arith)
      (λ i t h. subst (λ j. FitState k counts j t) (later i) (fit (suc i) t h))
      (λ i c h. ap (at counts) (sym (later i)) ∙ same (suc i) c h)
      (omega arith) (λ i h. keys i (omega arith)) low.1
      (stands_at (omega arith) (stands_next 32 p (index_bits (places (p + length row) rest)) indexed))
      (stands_behind row (in_turn rest) there)
      ∙ ap₂ reads (append_snoc done s ss) (omega (arith, length-append row (in_turn rest)))
