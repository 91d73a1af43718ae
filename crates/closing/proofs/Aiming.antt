-- The last of all open arcs is written: only the newest record sees it. Assumes that each record has an arc.
use Rattle.std.proofs.Common.{◌≡◌, ℕ, zero, suc, ◌+◌, ◌-◌, ◌<◌, ◌≤◌, List, [], ◌∷◌, map, length, get_or, take, drop, set, sym, refl, ap, ◌∙◌, arith}
use Rattle.std.proofs.lemmas.List.{take-set-le, drop-set-add, get_or-drop, length-drop, length-set}
use Rattle.machines.specs.Machines.{Arc as Edge}
use Rattle.construction.specs.Steps.{aim_last}
use Rattle.records.specs.declared.record.State.{State}
use Rattle.records.specs.Lying.{Led}
use Rattle.records.specs.Holding.{end_of, open_record}
use Rattle.records.proofs.Cutting.{cut_before}
use Rattle.records.proofs.Standing.{to_end}
use Rattle.closing.specs.Closing.{aim_newest}

module _ {I : Type 0} (q : ℕ) where
  abbrev pub aimed : Edge I → Edge I
  aimed e = record { byte = e.byte; target = q; output = e.output }

  set_last : (es : List (Edge I)) (i : ℕ) (e : Edge I) → i + 1 ≡ length es → e ≡ get_or es i e → set es i (aimed e) ≡ aim_last q es
  set_last [] i e n h = absurd (omega arith)
  set_last (x ∷ []) zero e n h = λ j. aimed (h j) ∷ []
  set_last (x ∷ []) (suc i) e n h = absurd (omega arith)
  set_last (x ∷ y ∷ es) zero e n h = absurd (omega arith)
  set_last (x ∷ y ∷ es) (suc i) e n h = ap (λ (r : List (Edge I)). x ∷ r) (set_last (y ∷ es) i e (omega arith) h)

  -- what ends before place i
  part_before : (es : List (Edge I)) (i s c : ℕ) (x : Edge I) → s + c ≤ i → take c (drop s (set es i x)) ≡ take c (drop s es)
  part_before es i s c x h = sym (cut_before i s c (set es i x) h) ∙ ap (λ (r : List (Edge I)). take c (drop s r)) (take-set-le i es i x (omega arith)) ∙ cut_before i s c es h

  module _ {O : Type 0} (mean : O → I) (es : List (Edge I)) (i : ℕ) (e : Edge I) (last : i + 1 ≡ length es) (at : e ≡ get_or es i e) where
    opens_before : (n : ℕ) (ss : List (State O)) → Led n ss → n ≤ i → map (open_record mean (set es i (aimed e))) ss ≡ map (open_record mean es) ss
    opens_before n [] l h = refl
    opens_before n (s ∷ ss) l h =
        let a = part_before es i s.first s.count (aimed e) (omega (arith, l.0)) in
        let b = opens_before s.first ss l.2 (omega (arith, l.0)) in
        λ j. record { end = end_of mean s; arcs = a j; since = s.keys } ∷ b j

    top_part : (s : State O) → s.first + s.count ≡ length es → 0 < s.count → take s.count (drop s.first (set es i (aimed e))) ≡ aim_last q (take s.count (drop s.first es))
    top_part s l h =
        let m = i - s.first in
        let w : s.first + m ≡ i = omega arith in
        let whole = to_end mean (set es i (aimed e)) s (l ∙ sym (length-set es i (aimed e))) in
        let moved : drop s.first (set es i (aimed e)) ≡ set (drop s.first es) m (aimed e) = ap (λ (j : ℕ). drop s.first (set es j (aimed e))) (sym w) ∙ drop-set-add s.first es m (aimed e) in
        let here : e ≡ get_or (drop s.first es) m e = at ∙ ap (λ (j : ℕ). get_or es j e) (sym w) ∙ sym (get_or-drop s.first es m e) in
        whole ∙ moved ∙ set_last (drop s.first es) m e (omega (arith, length-drop s.first es)) here ∙ ap (aim_last q) (sym (to_end mean es s l))

    pub opens_aimed : (ss : List (State O)) → Led (length es) ss → map (open_record mean (set es i (aimed e))) ss ≡ aim_newest q (map (open_record mean es) ss)
    opens_aimed [] l = refl
    opens_aimed (s ∷ ss) l =
        let a = top_part s l.0 l.1 in
        let b = opens_before s.first ss l.2 (omega (arith, l.0, l.1)) in
        λ j. record { end = end_of mean s; arcs = a j; since = s.keys } ∷ b j
