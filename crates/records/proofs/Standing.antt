-- What records stand for when arcs behind them are cut off or arcs are put in front. Assumes that they lie as they should.
use Rattle.std.proofs.Common.{◌≡◌, ℕ, ◌+◌, ◌-◌, ◌≤◌, List, [], ◌∷◌, ◌++◌, map, length, take, drop, sym, refl, ap, ◌∙◌, arith}
use Rattle.std.proofs.lemmas.List.{take_at, take_all, length-drop}
use Rattle.machines.specs.Machines.{Arc as Edge}
use Rattle.records.specs.declared.record.State.{State}
use Rattle.records.specs.Lying.{Led, Placed}
use Rattle.records.specs.Holding.{end_of, closed_state, open_record}
use Rattle.records.proofs.Cutting.{last_kept, cut_before}

module _ {O I : Type 0} (mean : O → I) where
  -- open records below place n do not see what is cut off there
  pub opens_cut : (n m : ℕ) (es : List (Edge I)) (ss : List (State O)) → Led m ss → m ≤ n → map (open_record mean (take n es)) ss ≡ map (open_record mean es) ss
  opens_cut n m es [] l h = refl
  opens_cut n m es (s ∷ ss) l h =
      let a = cut_before n s.first s.count es (omega (arith, l.0)) in
      let b = opens_cut n s.first es ss l.2 (omega (arith, l.0)) in
      λ i. record { end = end_of mean s; arcs = a i; since = s.keys } ∷ b i

  -- closed states do not see what is put in front
  pub closed_kept : (ds es : List (Edge I)) (ss : List (State O)) → Placed (length es) ss → map (closed_state mean (ds ++ es)) ss ≡ map (closed_state mean es) ss
  closed_kept ds es [] p = refl
  closed_kept ds es (s ∷ ss) p =
      let a = last_kept ds es s.first p.0 in
      let b = closed_kept ds es ss p.2 in
      λ i. record { end = end_of mean s; arcs = take s.count (a i) } ∷ b i

  -- a state whose arcs are the front
  pub closed_front : (ds es : List (Edge I)) (s : State O) → s.count ≡ length ds → s.first ≡ length (ds ++ es) → closed_state mean (ds ++ es) s ≡ record { end = end_of mean s; arcs = ds }
  closed_front ds es s k f =
      let z : length (ds ++ es) - s.first ≡ 0 = omega (arith, f) in
      let a : take s.count (drop (length (ds ++ es) - s.first) (ds ++ es)) ≡ ds = ap (λ (n : ℕ). take s.count (drop n (ds ++ es))) z ∙ take_at ds es s.count (sym k) in
      λ i. record { end = end_of mean s; arcs = a i }

  -- the arcs of a record that end the list
  pub to_end : (es : List (Edge I)) (s : State O) → s.first + s.count ≡ length es → take s.count (drop s.first es) ≡ drop s.first es
  to_end es s h = take_all s.count (drop s.first es) (omega (arith, length-drop s.first es))
