-- A string that is answered from a state on is no longer than the longest string along arcs. Assumes that arcs lead to lower states.
use Rattle.std.proofs.Common.{◌≡◌, ℕ, zero, suc, ◌+◌, ◌<◌, ◌≤◌, List, [], ◌∷◌, ◌++◌, length, get_or, sym, refl, ap, ◌∙◌, inl, inr, arith, length-append}
use mathlib.Core.Option.{Option, none, some}
use Rattle.std.proofs.lemmas.List.{get_or_append_left, get_or-append-add}
use Rattle.outputs.specs.Kinds.{Kind}
use Rattle.machines.specs.Lists.{at, Each}
use Rattle.machines.specs.Keys.{Key}
use Rattle.machines.specs.Lengths.{longest_on, longest_each, longest_from}
use Rattle.machines.specs.Machines.{Arc, State, arc_on, arc_at, join_some, answer_from}
use Rattle.machines.proofs.Lists.{In}
use Rattle.searching.proofs.Strings.{arc_on_in}

-- what is done stays
longest_kept : {A : Type 0} (done : List ℕ) (ss : List (State A)) (i : ℕ) → i < length done → get_or (longest_each done ss) i 0 ≡ get_or done i 0
longest_kept done [] i l = refl
longest_kept done (s ∷ ss) i l =
    longest_kept (done ++ (longest_on done s.arcs ∷ [])) ss i (omega (arith, length-append done (longest_on done s.arcs ∷ [])))
    ∙ get_or_append_left done (longest_on done s.arcs ∷ []) 0 i l

longest_alike : {A : Type 0} (done all : List ℕ) (q : ℕ) (arcs : List (Arc A)) → Each (λ arc. arc.target < q) arcs → ((t : ℕ) → t < q → get_or all t 0 ≡ get_or done t 0) → longest_on all arcs ≡ longest_on done arcs
longest_alike done all q [] b h = refl
longest_alike done all q (a ∷ arcs) b h = omega (arith, h a.target b.0, longest_alike done all q arcs b.1 h)

-- each state has the longest of its own arcs
longest_own : {A : Type 0} (done : List ℕ) (ss : List (State A)) (j : ℕ) (s : State A) → at ss j ≡ some s → Each (λ arc. arc.target < length done + j) s.arcs
    → get_or (longest_each done ss) (length done + j) 0 ≡ longest_on (longest_each done ss) s.arcs
longest_own done [] j s e b = let o : ◌≡◌ {A = ℕ} 0 1 = cc in absurd (omega arith)
longest_own done (t ∷ ss) zero s e b =
    let same : t ≡ s = cc in
    let one = done ++ (longest_on done t.arcs ∷ []) in
    let long : length one ≡ length done + 1 = length-append done (longest_on done t.arcs ∷ []) in
    longest_kept one ss (length done + 0) (omega (arith, long))
    ∙ get_or-append-add done (longest_on done t.arcs ∷ []) 0 0
    ∙ ap (λ (v : State _). longest_on done v.arcs) same
    ∙ sym (longest_alike done (longest_each one ss) (length done + 0) s.arcs b
    (λ i l. longest_kept one ss i (omega (arith, long)) ∙ get_or_append_left done (longest_on done t.arcs ∷ []) 0 i (omega arith)))
longest_own {A} done (t ∷ ss) (suc j) s e b =
    let one = done ++ (longest_on done t.arcs ∷ []) in
    let long : length one + j ≡ length done + suc j = omega (arith, length-append done (longest_on done t.arcs ∷ [])) in
    ap (λ (i : ℕ). get_or (longest_each one ss) i 0) (sym long) ∙ longest_own one ss j s e (rw long b)

-- an arc's target has less
longest_less : {A : Type 0} (lengths : List ℕ) (arcs : List (Arc A)) (arc : Arc A) → In arc arcs → suc (get_or lengths arc.target 0) ≤ longest_on lengths arcs
longest_less lengths [] arc i = absurd i
longest_less lengths (a ∷ arcs) arc (inl e) = omega (arith, ap (λ (x : Arc _). get_or lengths x.target 0) e)
longest_less lengths (a ∷ arcs) arc (inr i) = omega (arith, longest_less lengths arcs arc i)

module _ (k : Kind) (states : List (State k.Ideal)) (below : (q : ℕ) (s : State k.Ideal) → at states q ≡ some s → Each (λ arc. arc.target < q) s.arcs) where
  -- one byte more, along an arc
  longest_along : (q : ℕ) (s : State k.Ideal) (a n : ℕ) (arc : Arc k.Ideal) → at states q ≡ some s → arc_on a s.arcs ≡ some arc → n ≤ longest_from states arc.target → suc n ≤ longest_from states q
  longest_along q s a n arc h i l =
      let zero_plus : 0 + q ≡ q = omega arith in
      let own : get_or (longest_each [] states) (0 + q) 0 ≡ longest_on (longest_each [] states) s.arcs = longest_own [] states q s h (rw zero_plus (below q s h)) in
      omega (arith, l, longest_less (longest_each [] states) s.arcs arc (arc_on_in a s.arcs arc i), own, ap (longest_from states) zero_plus)

  module _ (q : ℕ) (z : k.Ideal) (a : ℕ) (w : Key) (deep : (t : ℕ) (y : k.Ideal) → answer_from k states t w ≡ some y → length w ≤ longest_from states t) where
    abbrev on_arc : Option (Arc k.Ideal) → Option k.Ideal
    on_arc o = elim o [ none ↦ none | some arc ↦ join_some k arc.output (answer_from k states arc.target w) ]

    behind : (s : State k.Ideal) (arc : Arc k.Ideal) → at states q ≡ some s → arc_on a s.arcs ≡ some arc → (o : Option k.Ideal) → answer_from k states arc.target w ≡ o → join_some k arc.output o ≡ some z → suc (length w) ≤ longest_from states q
    behind s arc h i none f g = let o : ◌≡◌ {A = ℕ} 0 1 = cc in absurd (omega arith)
    behind s arc h i (some y) f g = longest_along q s a (length w) arc h i (deep arc.target y f)

    on_byte : (s : State k.Ideal) → at states q ≡ some s → (o : Option (Arc k.Ideal)) → arc_on a s.arcs ≡ o → on_arc o ≡ some z → suc (length w) ≤ longest_from states q
    on_byte s h none i g = let o : ◌≡◌ {A = ℕ} 0 1 = cc in absurd (omega arith)
    on_byte s h (some arc) i g = behind s arc h i (answer_from k states arc.target w) refl g

    from_state : (o : Option (State k.Ideal)) → at states q ≡ o → on_arc (arc_at o a) ≡ some z → suc (length w) ≤ longest_from states q
    from_state none h g = let o : ◌≡◌ {A = ℕ} 0 1 = cc in absurd (omega arith)
    from_state (some s) h g = on_byte s h (arc_on a s.arcs) refl g

  pub answered_short : (w : Key) (q : ℕ) (z : k.Ideal) → answer_from k states q w ≡ some z → length w ≤ longest_from states q
  answered_short [] q z e = omega arith
  answered_short (a ∷ w) q z e = from_state q z a w (λ t y f. answered_short w t y f) (at states q) refl e
