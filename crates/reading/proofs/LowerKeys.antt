-- The keys behind the lower arcs of a state, and the rank along a string. Assumes nothing.
use Rattle.std.proofs.Common.{◌≡◌, ℕ, suc, ◌+◌, ◌^◌, ◌<◌, ◌≤◌, Bool, true, false, List, [], ◌∷◌, length, get_or, drop, Some, None, Option as Maybe, sym, refl, ap, ◌∙◌, subst, inl, inr, add-one, arith, drop-cons}
use mathlib.Core.Option.{Option, none, some}
use Rattle.std.specs.Bool.{then_some}
use Rattle.std.proofs.lemmas.Bool.{cases_lt, cases_eq}
use Rattle.outputs.specs.Kinds.{Kind}
use Rattle.machines.specs.Keys.{Key, is_some}
use Rattle.machines.specs.Lists.{at}
use Rattle.machines.specs.Machines.{Arc, State, arc_on, arc_at, end_at, end_flag, sum_at}
use Rattle.machines.specs.Numbering.{Rising}
use Rattle.machines.specs.Asked.{keys_below, arcs_at, rank_from}
use Rattle.lookups.specs.declared.rows.Row.{Row}
use Rattle.lookups.specs.declared.states.Opened.{Opened}
use Rattle.lookups.specs.Lookups.{OpenedAs, Opens, RowOf}
use Rattle.reading.specs.declared.ranking.Lower.{Lower}
use Rattle.reading.specs.Told.{told_rank, Lowered}
use Rattle.reading.proofs.RowScans.{on_same, on_other, keys_lower, keys_not_lower}

module _ {A : Type 0} (counts : List ℕ) (a : ℕ) where
  -- no more keys behind the lower arcs than behind all
  below_all : (arcs : List (Arc A)) → keys_below counts a arcs ≤ sum_at counts arcs
  below_all [] = omega arith
  below_all (x ∷ arcs) = elim (cases_lt x.byte a) [
    | inl l ↦ omega (arith, keys_lower a x arcs counts l, below_all arcs)
    | inr l ↦ omega (arith, keys_not_lower a x arcs counts l, below_all arcs)
  ]

  -- nor with those behind the arc itself
  pub below_with : (arcs : List (Arc A)) (arc : Arc A) → arc_on a arcs ≡ some arc → keys_below counts a arcs + get_or counts arc.target 0 ≤ sum_at counts arcs
  below_with [] arc e = let z : ◌≡◌ {A = ℕ} 0 1 = cc in absurd (omega arith)
  below_with (x ∷ arcs) arc e = elim (cases_eq x.byte a) [
    | inl s ↦
        let same : ◌≡◌ {A = Option (Arc A)} (some x) (some arc) = sym (on_same a x arcs s) ∙ e in
        let one : x ≡ arc = cc in
        omega (arith, keys_not_lower a x arcs counts (omega (arith, s)), below_all arcs, ap (λ (y : Arc A). get_or counts y.target 0) one)
    | inr n ↦
        let deep = below_with arcs arc (sym (on_other a x arcs n) ∙ e) in
        elim (cases_lt x.byte a) [
          | inl l ↦ omega (arith, keys_lower a x arcs counts l, deep)
          | inr l ↦ omega (arith, keys_not_lower a x arcs counts l, deep)
        ]
  ]

flag_of : {A : Type 0} (o : Option A) (b : Bool) (n : ℕ) → b ≡ is_some o → (b ≡ true → n ≡ 1) → (b ≡ false → n ≡ 0) → n ≡ end_flag o
flag_of none b n e t f = f e
flag_of (some x) b n e t f = t e

module _ (k : Kind) (all : List Bool) (counts : List ℕ) (a : ℕ) where
  abbrev pub lower_of : Option (State k.Ideal) → ℕ
  lower_of o = end_flag (end_at o) + keys_below counts a (arcs_at o)

  pub lower_some : (o : Option (State k.Ideal)) (opened : Opened) (row : Row) (flag : ℕ) (r : Maybe Lower) → Opens k all o (Some opened) → (opened.ends ≡ true → flag ≡ 1) → (opened.ends ≡ false → flag ≡ 0)
      → ((s : State k.Ideal) → OpenedAs k all opened s → RowOf k all row s.arcs)
      → ((arcs : List (Arc k.Ideal)) → Rising arcs → RowOf k all row arcs → flag + sum_at counts arcs < 2 ^ 20 → Lowered (arc_on a arcs) (flag + keys_below counts a arcs) r)
      → ((s : State k.Ideal) → o ≡ some s → Rising s.arcs × (end_flag s.end + sum_at counts s.arcs < 2 ^ 20)) → Lowered (arc_at o a) (lower_of o) r
  lower_some none opened row flag r h t f g l rise = absurd h
  lower_some (some s) opened row flag r h t f g l rise =
      let e : flag ≡ end_flag s.end = flag_of s.end opened.ends flag h.ends t f in
      let w = rise s refl in
      subst (λ (n : ℕ). Lowered (arc_on a s.arcs) (n + keys_below counts a s.arcs) r) e (l s.arcs w.0 (g s h) (omega (arith, w.1, e)))

module _ {A : Type 0} (states : List (State A)) (counts : List ℕ) where
  abbrev ranked_on : Option (Arc A) → ℕ → Key → Option ℕ
  ranked_on o n w = elim o [ none ↦ none | some arc ↦ rank_from states counts arc.target n w ]

  rank_none : (o : Option (Arc A)) (l n : ℕ) (w : Key) → Lowered o l None → ranked_on o n w ≡ none
  rank_none none l n w h = refl
  rank_none (some arc) l n w h = absurd h

  rank_some : (o : Option (Arc A)) (l n : ℕ) (w : Key) (next : Lower) → Lowered o l (Some next) → ranked_on o n w ≡ rank_from states counts next.target n w
  rank_some none l n w next h = absurd h
  rank_some (some arc) l n w next h = ap (λ (q : ℕ). rank_from states counts q n w) (sym h.0)

  some_lowered : (o : Option (Arc A)) (l : ℕ) (next : Lower) → Lowered o l (Some next) → (arc : Arc A) × (o ≡ some arc) × (next.target ≡ arc.target) × (next.keys ≡ l)
  some_lowered none l next h = absurd h
  some_lowered (some arc) l next h = (arc, refl, h.0, h.1)

  module _ (w : List ℕ) (i q b n : ℕ) (inside : i < length w) (is : b ≡ get_or w i 0) (whole : Option ℕ) (h : whole ≡ rank_from states counts q n (drop i w)) where
    abbrev lower_here : ℕ
    lower_here = end_flag (end_at (at states q)) + keys_below counts b (arcs_at (at states q))

    stepped : whole ≡ ranked_on (arc_at (at states q) b) (n + lower_here) (drop (i + 1) w)
    stepped =
        let d : drop i w ≡ b ∷ drop (i + 1) w = drop-cons w i 0 inside ∙ ap {A = ℕ} {B = List ℕ} (λ n. n ∷ drop (suc i) w) (sym is) ∙ ap {A = ℕ} {B = List ℕ} (λ n. b ∷ drop n w) (sym (add-one i)) in
        let e : n + end_flag (end_at (at states q)) + keys_below counts b (arcs_at (at states q)) ≡ n + lower_here = omega arith in
        h ∙ ap (rank_from states counts q n) d ∙ ap (λ (m : ℕ). ranked_on (arc_at (at states q) b) m (drop (i + 1) w)) e

    pub rank_stops : Lowered (arc_at (at states q) b) lower_here None → whole ≡ none
    rank_stops t = stepped ∙ rank_none (arc_at (at states q) b) lower_here _ _ t

    module _ (next : Lower) (t : Lowered (arc_at (at states q) b) lower_here (Some next)) where
      pub rank_goes : (n' : ℕ) → n' ≡ n + next.keys → whole ≡ rank_from states counts next.target n' (drop (i + 1) w)
      rank_goes n' e =
          let f = some_lowered (arc_at (at states q) b) lower_here next t in
          stepped ∙ rank_some (arc_at (at states q) b) lower_here _ _ next t
          ∙ ap (λ (m : ℕ). rank_from states counts next.target m (drop (i + 1) w)) (sym (e ∙ ap (λ (m : ℕ). n + m) f.3))

  -- what is lower is no more than what the state accepts
  pub lower_within : (o : Option (State A)) (a c : ℕ) (next : Lower) → ((s : State A) → o ≡ some s → c ≡ end_flag s.end + sum_at counts s.arcs) → Lowered (arc_at o a) (end_flag (end_at o) + keys_below counts a (arcs_at o)) (Some next)
      → next.keys + get_or counts next.target 0 ≤ c
  lower_within none a c next f h = absurd h
  lower_within (some s) a c next f h =
      let g = some_lowered (arc_on a s.arcs) (end_flag s.end + keys_below counts a s.arcs) next h in
      omega (arith, f s refl, g.3, below_with counts a s.arcs g.0 g.1, ap (λ (n : ℕ). get_or counts n 0) g.2)

  -- the end
  pub rank_ends : (q n : ℕ) (b : Bool) → b ≡ is_some (end_at (at states q)) → told_rank (then_some b n) ≡ rank_from states counts q n []
  rank_ends q n b = go (end_at (at states q))
    where
      go : (o : Option A) → b ≡ is_some o → ◌≡◌ {A = Option ℕ} (told_rank (then_some b n)) (elim o [ none ↦ none | some x ↦ some n ])
      go none e = ap {A = Bool} {B = Option ℕ} (λ t. told_rank (then_some t n)) e
      go (some x) e = ap {A = Bool} {B = Option ℕ} (λ t. told_rank (then_some t n)) e
