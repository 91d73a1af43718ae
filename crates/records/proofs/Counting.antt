-- The lists of the memory are as long as what is held has states, records and arcs. Assumes nothing.
use Rattle.std.proofs.Common.{◌≡◌, ℕ, ◌+◌, ◌-◌, ◌≤◌, List, [], ◌∷◌, ◌++◌, map, reverse, length, take, drop, sym, refl, ap, ◌∙◌, arith}
use mathlib.Core.List.{reverse-cons}
use lib.ListN.{length-reverse}
use Rattle.std.proofs.lemmas.List.{length-map, length-take-le, length-drop}
use Rattle.stacks.specs.Stacks.{lows, highs}
use Rattle.machines.specs.Machines.{Arc as Edge, count_arcs}
use Rattle.construction.specs.Records.{Open, open_arcs}
use Rattle.records.specs.declared.record.State.{State}
use Rattle.records.specs.declared.memory.Core.{Core}
use Rattle.records.specs.Lying.{Led, Laid, Packed}
use Rattle.records.specs.Shape.{openings, closings, edgings}
use Rattle.records.specs.Holding.{arc_of, arcs_of, closed_state, open_record, closed_states, opened, held}
use Rattle.records.proofs.Laying.{packed_up}

module _ {O I : Type 0} (mean : O → I) where
  part_length : (es : List (Edge I)) (n k : ℕ) → n + k ≤ length es → length (take k (drop n es)) ≡ k
  part_length es n k h = length-take-le k (drop n es) (omega (arith, length-drop n es))

  closed_arcs : (es : List (Edge I)) (a : ℕ) (ss : List (State O)) → Packed a (length es) ss → count_arcs (map (closed_state mean es) ss) + a ≡ length es
  closed_arcs es a [] p = omega (arith, p)
  closed_arcs es a (s ∷ ss) p =
      let up = packed_up s.first (length es) ss p.1 in
      let one = part_length es (length es - s.first) s.count (omega (arith, p.0)) in
      omega (arith, closed_arcs es s.first ss p.1, p.0)

  led_arcs : (es : List (Edge I)) (n : ℕ) (ss : List (State O)) → Led n ss → n ≤ length es → open_arcs (map (open_record mean es) ss) ≡ n
  led_arcs es n [] l h = sym l
  led_arcs es n (s ∷ ss) l h =
      let one = part_length es s.first s.count (omega (arith, l.0)) in
      omega (arith, led_arcs es s.first ss l.2 (omega (arith, l.0)), l.0)

  laid_arcs : (es : List (Edge I)) (n : ℕ) (ss : List (State O)) → Laid n ss → n ≤ length es → open_arcs (map (open_record mean es) ss) ≡ n
  laid_arcs es n [] l h = sym l
  laid_arcs es n (s ∷ ss) l h =
      let one = part_length es s.first s.count (omega (arith, l.0)) in
      omega (arith, led_arcs es s.first ss l.1 (omega (arith, l.0)), l.0)

module _ {A : Type 0} where
  append_arcs : (xs ys : List (Open A)) → open_arcs (xs ++ ys) ≡ open_arcs xs + open_arcs ys
  append_arcs [] ys = omega arith
  append_arcs (x ∷ xs) ys = omega (arith, append_arcs xs ys)

  reverse_arcs : (xs : List (Open A)) → open_arcs (reverse xs) ≡ open_arcs xs
  reverse_arcs [] = refl
  reverse_arcs (x ∷ xs) = ap open_arcs (reverse-cons x xs) ∙ append_arcs (reverse xs) (x ∷ []) ∙ omega (arith, reverse_arcs xs)

module _ {O I : Type 0} (mean : O → I) (c : Core O) where
  pub count_closed : length (closed_states mean c) ≡ closings c
  count_closed = length-map (lows c.states) (closed_state mean (arcs_of mean (highs c.arcs)))

  pub count_opened : length (opened mean c) ≡ openings c
  count_opened = length-map (highs c.states) (open_record mean (arcs_of mean (lows c.arcs)))

  pub count_open : length (held mean c).open' ≡ openings c
  count_open = length-reverse (opened mean c) ∙ count_opened

  pub count_closed_arcs : count_arcs (closed_states mean c) ≡ length (highs c.arcs)
  count_closed_arcs =
      let n = length-map (highs c.arcs) (arc_of mean) in
      let p : Packed 0 (length (arcs_of mean (highs c.arcs))) (lows c.states) = rw n c.sound.packed in
      omega (arith, closed_arcs mean (arcs_of mean (highs c.arcs)) 0 (lows c.states) p)

  pub count_open_arcs : open_arcs (held mean c).open' ≡ length (lows c.arcs)
  count_open_arcs = reverse_arcs (opened mean c) ∙ laid_arcs mean (arcs_of mean (lows c.arcs)) (length (lows c.arcs)) (highs c.states) c.sound.laid (omega (arith, length-map (lows c.arcs) (arc_of mean)))

  -- the arcs of all, counted
  pub count_edges : count_arcs (closed_states mean c) + open_arcs (held mean c).open' ≡ edgings c
  count_edges = omega (arith, count_closed_arcs, count_open_arcs)
