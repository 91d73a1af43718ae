-- One open record changes with its arcs, and the others stay. Assumes that the records' arcs lie one after the other.
use Rattle.std.proofs.Common.{◌≡◌, ℕ, zero, suc, ◌+◌, ◌-◌, ◌<◌, ◌≤◌, List, [], ◌∷◌, ◌++◌, map, reverse, length, get_or, take, drop, set, sym, refl, ap, ◌∙◌, arith}
use mathlib.Core.List.{reverse-cons}
use Rattle.std.proofs.lemmas.List.{length-map, length-reverse, get_or-map, get_or-reverse, set-get_or, drop-set-lt}
use Rattle.machines.specs.Machines.{Arc as Edge}
use Rattle.construction.specs.Records.{Open}
use Rattle.records.specs.declared.record.State.{State}
use Rattle.records.specs.Lying.{Led, Laid}
use Rattle.records.specs.Holding.{end_of, open_record}
use Rattle.records.proofs.Laying.{led_at}
use Rattle.outputs.specs.Kinds.{Kind}
use Rattle.construction.specs.Steps.{lead, with_last_output}
use Rattle.pushing.specs.Altering.{alter, alter_range}
use Rattle.pushing.specs.Changes.{EndUnder, output_under, outputs_under}
use Rattle.pushing.proofs.Ranges.{range_in, range_before, range_after}
use Rattle.pushing.proofs.LastArcs.{with_output, lead_part, set_before}

module _ {X : Type 0} (f : X → X) where
  alter_left : (i : ℕ) (xs ys : List X) → i < length xs → alter i f (xs ++ ys) ≡ alter i f xs ++ ys
  alter_left i [] ys h = absurd (omega arith)
  alter_left zero (x ∷ xs) ys h = refl
  alter_left (suc i) (x ∷ xs) ys h = ap (λ (r : List X). x ∷ r) (alter_left i xs ys (omega arith))

  alter_end : (i : ℕ) (xs : List X) (x : X) → i ≡ length xs → alter i f (xs ++ (x ∷ [])) ≡ xs ++ (f x ∷ [])
  alter_end zero [] x h = refl
  alter_end (suc i) [] x h = absurd (omega arith)
  alter_end zero (y ∷ xs) x h = absurd (omega arith)
  alter_end (suc i) (y ∷ xs) x h = ap (λ (r : List X). y ∷ r) (alter_end i xs x (omega arith))

  -- a place counted from the one end or from the other
  pub alter_reverse : (xs : List X) (i d : ℕ) → i + d + 1 ≡ length xs → reverse (alter i f xs) ≡ alter d f (reverse xs)
  alter_reverse [] i d h = refl
  alter_reverse (x ∷ xs) zero d h =
      let n : d ≡ length (reverse xs) = omega (arith, length-reverse xs) in
      reverse-cons (f x) xs ∙ sym (alter_end d (reverse xs) x n) ∙ ap (alter d f) (sym (reverse-cons x xs))
  alter_reverse (x ∷ xs) (suc i) d h =
      let n : d < length (reverse xs) = omega (arith, length-reverse xs) in
      reverse-cons x (alter i f xs) ∙ ap (λ (r : List X). r ++ (x ∷ [])) (alter_reverse xs i d (omega arith)) ∙ sym (alter_left d (reverse xs) (x ∷ []) n) ∙ ap (alter d f) (sym (reverse-cons x xs))

-- the open record at a depth, as it lies in memory
pub record_there : {O I : Type 0} (mean : O → I) (es : List (Edge I)) (ss : List (State O)) (d : ℕ) (x : State O) (o : Open I) → d < length ss → x ≡ get_or ss (length ss - 1 - d) x → get_or (reverse (map (open_record mean es) ss)) d o ≡ open_record mean es x
record_there {O} {I} mean es ss d x o h e =
    let os = map (open_record mean es) ss in
    let n : length os ≡ length ss = length-map ss (open_record mean es) in
    let r = get_or-reverse os d o (omega arith) in
    r ∙ ap (λ (m : ℕ). get_or os (m - 1 - d) o) n ∙ get_or-map (open_record mean es) ss (length ss - 1 - d) x o (omega arith) ∙ ap (open_record mean es) (sym e)

module _ {O I : Type 0} (mean : O → I) (es fs : List (Edge I)) (x y : State O) (f : Open I → Open I)
    (before : (s c : ℕ) → s + c ≤ x.first → take c (drop s fs) ≡ take c (drop s es))
    (here : open_record mean fs y ≡ f (open_record mean es x)) where
  record_before : (s : State O) → s.first + s.count ≤ x.first → open_record mean fs s ≡ open_record mean es s
  record_before s h = λ i. record { end = end_of mean s; arcs = before s.first s.count h i; since = s.keys }

  pub records_before : (n : ℕ) (ss : List (State O)) → Led n ss → n ≤ x.first → map (open_record mean fs) ss ≡ map (open_record mean es) ss
  records_before n [] l h = refl
  records_before n (s ∷ ss) l h =
      let a = record_before s (omega (arith, l.0)) in
      let b = records_before s.first ss l.2 (omega (arith, l.0)) in
      λ i. a i ∷ b i

  record_here : (s : State O) (ss : List (State O)) → Led s.first ss → x ≡ s → map (open_record mean fs) (y ∷ ss) ≡ alter 0 f (map (open_record mean es) (s ∷ ss))
  record_here s ss l e =
      let b = records_before s.first ss l (let w = ap (λ (z : State O). z.first) e in omega arith) in
      let a : open_record mean fs y ≡ f (open_record mean es s) = here ∙ ap (λ (z : State O). f (open_record mean es z)) e in
      λ i. a i ∷ b i

  -- the newest record is altered: its arcs may be more then
  pub records_newest : (n : ℕ) (ss : List (State O)) → Laid n ss → 0 < length ss → x ≡ get_or ss 0 x → map (open_record mean fs) (set ss 0 y) ≡ alter 0 f (map (open_record mean es) ss)
  records_newest n [] l h e = absurd (omega arith)
  records_newest n (s ∷ ss) l h e = record_here s ss l.1 e

  module _ (after : (s : ℕ) → x.first + x.count ≤ s → drop s fs ≡ drop s es) where
    record_after : (s : State O) → x.first + x.count ≤ s.first → open_record mean fs s ≡ open_record mean es s
    record_after s h = λ i. record { end = end_of mean s; arcs = take s.count (after s.first h i); since = s.keys }

    records_led : (n : ℕ) (ss : List (State O)) (i : ℕ) → Led n ss → i < length ss → x ≡ get_or ss i x → map (open_record mean fs) (set ss i y) ≡ alter i f (map (open_record mean es) ss)
    records_led n [] i l h e = absurd (omega arith)
    records_led n (s ∷ ss) zero l h e = record_here s ss l.2 e
    records_led n (s ∷ ss) (suc i) l h e =
        let r = led_at s.first ss i x (omega arith) l.2 e in
        let a = record_after s (omega (arith, r.0)) in
        let b = records_led s.first ss i l.2 (omega arith) e in
        λ j. a j ∷ b j

    pub records_laid : (n : ℕ) (ss : List (State O)) (i : ℕ) → Laid n ss → i < length ss → x ≡ get_or ss i x → map (open_record mean fs) (set ss i y) ≡ alter i f (map (open_record mean es) ss)
    records_laid n [] i l h e = absurd (omega arith)
    records_laid n (s ∷ ss) zero l h e = record_here s ss l.1 e
    records_laid n (s ∷ ss) (suc i) l h e =
        let r = led_at s.first ss i x (omega arith) l.1 e in
        let a = record_after s (omega (arith, r.0)) in
        let b = records_led s.first ss i l.1 (omega arith) e in
        λ j. a j ∷ b j

    -- the record at a depth is altered
    pub records_altered : (n : ℕ) (ss : List (State O)) (d : ℕ) → Laid n ss → d < length ss → x ≡ get_or ss (length ss - 1 - d) x → reverse (map (open_record mean fs) (set ss (length ss - 1 - d) y)) ≡ alter d f (reverse (map (open_record mean es) ss))
    records_altered n ss d l h e =
        ap reverse (records_laid n ss (length ss - 1 - d) l (omega arith) e) ∙ alter_reverse f (map (open_record mean es) ss) (length ss - 1 - d) d (let m = length-map ss (open_record mean es) in omega arith)

-- all outputs of the record at a depth are under f
pub records_under : {O I : Type 0} (mean : O → I) (f : I → I) (es : List (Edge I)) (x y : State O) → EndUnder mean f x y → (n : ℕ) (ss : List (State O)) (d : ℕ) → Laid n ss → d < length ss → x ≡ get_or ss (length ss - 1 - d) x → reverse (map (open_record mean (alter_range (output_under f) x.first (x.first + x.count) es)) (set ss (length ss - 1 - d) y)) ≡ alter d (outputs_under f) (reverse (map (open_record mean es) ss))
records_under {O} {I} mean f es x y e =
    let q = x.first + x.count in
    let fs : List (Edge I) = alter_range (output_under f) x.first q es in
    let a : take y.count (drop y.first fs) ≡ map (output_under f) (take x.count (drop x.first es)) = (λ i. take (e.count i) (drop (e.first i) fs)) ∙ range_in (output_under f) x.first q x.count es refl in
    records_altered mean es fs x y (outputs_under f) (λ s c h. range_before (output_under f) x.first q s c es h) (λ i. record { end = e.end i; arcs = a i; since = e.keys i }) (λ s h. range_after (output_under f) x.first q s es (omega arith) h)

-- the last arc of the record at a depth has another output
pub records_led_by : (k : Kind) {O : Type 0} (mean : O → k.Ideal) (v : k.Ideal) (es : List (Edge k.Ideal)) (x : State O) (l : ℕ) (e : Edge k.Ideal) → l + 1 ≡ x.first + x.count → 0 < x.count → l < length es → e ≡ get_or es l e → (n : ℕ) (ss : List (State O)) (d : ℕ) → Laid n ss → d < length ss → x ≡ get_or ss (length ss - 1 - d) x → reverse (map (open_record mean (set es l (with_output k v e))) ss) ≡ alter d (lead k v) (reverse (map (open_record mean es) ss))
records_led_by k {O} mean v es x l e s o h q n ss d z m t =
    let fs : List (Edge k.Ideal) = set es l (with_output k v e) in
    let w : take x.count (drop x.first fs) ≡ with_last_output k v (take x.count (drop x.first es)) = lead_part k v x.first x.count l es e s o h q in
    let i = length ss - 1 - d in
    let u : ss ≡ set ss i x = sym (ap (set ss i) t ∙ set-get_or ss i x) in
    ap (λ (r : List (State O)). reverse (map (open_record mean fs) r)) u ∙ records_altered mean es fs x x (lead k v) (λ p c b. set_before l p c es (with_output k v e) (omega arith)) (λ j. record { end = end_of mean x; arcs = w j; since = x.keys }) (λ p b. drop-set-lt p es l (with_output k v e) (omega arith)) n ss d z m t
