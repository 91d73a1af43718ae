-- A scan of arcs whose bytes rise, up to a byte. Assumes nothing.
use Rattle.std.proofs.Common.{◌≡◌, ℕ, ◌+◌, ◌-◌, ◌^◌, ◌<◌, ◌≤◌, Bool, true, false, List, [], ◌∷◌, length, get_or, Some, None, sym, refl, ap, ◌∙◌, subst, arith, le-ltb, lt-ltb, eq-eqb, ne_eqb}
use mathlib.Core.Option.{Option, none, some}
use Rattle.outputs.specs.Kinds.{Kind}
use Rattle.machines.specs.Lists.{Each}
use Rattle.machines.specs.Machines.{Arc, arc_on, sum_at}
use Rattle.machines.specs.Numbering.{Rising}
use Rattle.machines.specs.Asked.{keys_below}
use Rattle.machines.proofs.Lists.{each_map}
use Rattle.lookups.specs.declared.rows.Row.{Row}
use Rattle.lookups.specs.Standing.{ArcStands, RowStands}
use Rattle.lookups.specs.Lookups.{RowOf}
use Rattle.reading.specs.Told.{Sought, Lowered}

module _ {A : Type 0} (a : ℕ) (x : Arc A) (arcs : List (Arc A)) where
  pub on_same : x.byte ≡ a → arc_on a (x ∷ arcs) ≡ some x
  on_same e = ap {A = Bool} {B = Option (Arc A)} (λ t. elim t [ true ↦ some x | false ↦ arc_on a arcs ]) (eq-eqb x.byte a e)

  pub on_other : (x.byte ≡ a → ⊥) → arc_on a (x ∷ arcs) ≡ arc_on a arcs
  on_other n = ap {A = Bool} {B = Option (Arc A)} (λ t. elim t [ true ↦ some x | false ↦ arc_on a arcs ]) (ne_eqb x.byte a n)

  module _ (counts : List ℕ) where
    pub keys_lower : x.byte < a → keys_below counts a (x ∷ arcs) ≡ get_or counts x.target 0 + keys_below counts a arcs
    keys_lower l = ap {A = Bool} {B = ℕ} (λ t. elim t as (λ z. ℕ) [ true ↦ get_or counts x.target 0 | false ↦ 0 ] + keys_below counts a arcs) (lt-ltb x.byte a l)

    pub keys_not_lower : a ≤ x.byte → keys_below counts a (x ∷ arcs) ≡ keys_below counts a arcs
    keys_not_lower l = ap {A = Bool} {B = ℕ} (λ t. elim t as (λ z. ℕ) [ true ↦ get_or counts x.target 0 | false ↦ 0 ] + keys_below counts a arcs) (le-ltb x.byte a l) ∙ omega arith

-- arcs on higher bytes
pub none_above : {A : Type 0} (a : ℕ) (arcs : List (Arc A)) → Each (λ arc. a < arc.byte) arcs → arc_on a arcs ≡ none
none_above a [] h = refl
none_above a (x ∷ arcs) h = on_other a x arcs (λ e. omega (arith, e, h.0)) ∙ none_above a arcs h.1

pub no_keys_above : {A : Type 0} (counts : List ℕ) (a : ℕ) (arcs : List (Arc A)) → Each (λ arc. a < arc.byte) arcs → keys_below counts a arcs ≡ 0
no_keys_above counts a [] h = refl
no_keys_above counts a (x ∷ arcs) h = keys_not_lower a x arcs counts (omega (arith, h.0)) ∙ no_keys_above counts a arcs h.1

-- what is left of a scan for byte a: so many arcs, from a place on, that have all that is sought
pub record Ahead (k : Kind) (all : List Bool) (a : ℕ) (arcs : List (Arc k.Ideal)) (left place : ℕ) (rest : List (Arc k.Ideal)) : Type 0 where
  pub same : arc_on a arcs ≡ arc_on a rest
  pub rising : Rising rest
  pub many : length rest ≡ left
  pub stands : RowStands k all place rest

abbrev pub Scanned : (k : Kind) → List Bool → ℕ → List (Arc k.Ideal) → ℕ → ℕ → Type 0
Scanned k all a arcs left place = (rest : List (Arc k.Ideal)) × Ahead k all a arcs left place rest

-- the same with the keys behind the arcs that were passed
pub record Summed (k : Kind) (all : List Bool) (counts : List ℕ) (a before : ℕ) (arcs : List (Arc k.Ideal)) (left place keys : ℕ) : Type 0 where
  pub rest : List (Arc k.Ideal)
  pub ahead : Ahead k all a arcs left place rest
  pub sum : keys + keys_below counts a rest ≡ before + keys_below counts a arcs
  pub few : keys + sum_at counts rest < 2 ^ 20

module _ (k : Kind) (all : List Bool) (a : ℕ) (arcs : List (Arc k.Ideal)) where
  ahead_first : (row : Row) → Rising arcs → RowOf k all row arcs → Ahead k all a arcs (row.left - 0) row.place arcs
  ahead_first row rise h = record { same = refl; rising = rise; many = omega (arith, h.many); stands = h.stands }

  pub begins : (row : Row) → Rising arcs → RowOf k all row arcs → Scanned k all a arcs (row.left - 0) row.place
  begins row rise h = (arcs, ahead_first row rise h)

  -- nothing is left
  ends_with : (rest : List (Arc k.Ideal)) (left place : ℕ) → Ahead k all a arcs left place rest → left ≡ 0 → arc_on a arcs ≡ none
  ends_with [] left place h e = h.same
  ends_with (x ∷ rest) left place h e = absurd (omega (arith, h.many))

  -- the first arc that is left has byte b
  module _ (left place b : ℕ) (some_left : 0 < left) (is : (arc : Arc k.Ideal) → ArcStands k all place arc → b ≡ arc.byte) where
    found_with : (rest : List (Arc k.Ideal)) → Ahead k all a arcs left place rest → b ≡ a → Sought k all (arc_on a arcs) (Some place)
    found_with [] h e = absurd (omega (arith, h.many))
    found_with (x ∷ rest) h e =
        subst (λ (o : Option (Arc k.Ideal)). Sought k all o (Some place)) (sym (h.same ∙ on_same a x rest (sym (is x h.stands.0) ∙ e))) h.stands.0

    above_with : (rest : List (Arc k.Ideal)) → Ahead k all a arcs left place rest → a < b → arc_on a arcs ≡ none
    above_with [] h l = absurd (omega (arith, h.many))
    above_with (x ∷ rest) h l =
        let f = is x h.stands.0 in
        h.same ∙ on_other a x rest (λ e. omega (arith, e, f))
        ∙ none_above a rest (each_map (λ arc. x.byte < arc.byte) (λ arc. a < arc.byte) rest (λ y m. omega (arith, f)) h.rising.0)

    -- behind it
    module _ (next : ℕ) (behind : (arc : Arc k.Ideal) → ArcStands k all place arc → next ≡ place + 24 + length (k.code arc.output)) (lower : b < a) where
      ahead_more : (x : Arc k.Ideal) (rest : List (Arc k.Ideal)) (left' : ℕ) → left ≡ left' + 1 → Ahead k all a arcs left place (x ∷ rest) → Ahead k all a arcs left' next rest
      ahead_more x rest left' e h =
          let f = is x h.stands.0 in
          record {
            same = h.same ∙ on_other a x rest (λ g. omega (arith, g, f));
            rising = h.rising.1;
            many = omega (arith, h.many);
            stands = subst (λ (p : ℕ). RowStands k all p rest) (sym (behind x h.stands.0)) h.stands.1;
          }

      more_with : (rest : List (Arc k.Ideal)) (left' : ℕ) → left ≡ left' + 1 → Ahead k all a arcs left place rest → Scanned k all a arcs left' next
      more_with [] left' e h = absurd (omega (arith, h.many))
      more_with (x ∷ rest) left' e h = (rest, ahead_more x rest left' e h)

  module _ (left place : ℕ) (h : Scanned k all a arcs left place) where
    pub ends : left ≡ 0 → Sought k all (arc_on a arcs) None
    ends e = subst (λ (o : Option (Arc k.Ideal)). Sought k all o None) (sym (ends_with h.0 left place h.1 e)) tt

    module _ (b : ℕ) (some_left : 0 < left) (is : (arc : Arc k.Ideal) → ArcStands k all place arc → b ≡ arc.byte) where
      pub found : b ≡ a → Sought k all (arc_on a arcs) (Some place)
      found e = found_with left place b some_left is h.0 h.1 e

      pub above : a < b → Sought k all (arc_on a arcs) None
      above l = subst (λ (o : Option (Arc k.Ideal)). Sought k all o None) (sym (above_with left place b some_left is h.0 h.1 l)) tt

      pub more : (next : ℕ) → ((arc : Arc k.Ideal) → ArcStands k all place arc → next ≡ place + 24 + length (k.code arc.output)) → b < a → (left' : ℕ) → left ≡ left' + 1 → Scanned k all a arcs left' next
      more next behind lower left' e = more_with left place b some_left is next behind lower h.0 left' e h.1

  -- the same, with the keys
  module _ (counts : List ℕ) (before : ℕ) where
    pub sum_begins : (row : Row) → Rising arcs → RowOf k all row arcs → before + sum_at counts arcs < 2 ^ 20 → Summed k all counts a before arcs (row.left - 0) row.place before
    sum_begins row rise h few = record { rest = arcs; ahead = ahead_first row rise h; sum = refl; few = few }

    module _ (left place keys : ℕ) (h : Summed k all counts a before arcs left place keys) where
      pub sum_ends : left ≡ 0 → Lowered (arc_on a arcs) (before + keys_below counts a arcs) None
      sum_ends e = subst (λ (o : Option (Arc k.Ideal)). Lowered o (before + keys_below counts a arcs) None) (sym (ends_with h.rest left place h.ahead e)) tt

      module _ (b : ℕ) (some_left : 0 < left) (is : (arc : Arc k.Ideal) → ArcStands k all place arc → b ≡ arc.byte) where
        pub sum_above : a < b → Lowered (arc_on a arcs) (before + keys_below counts a arcs) None
        sum_above l = subst (λ (o : Option (Arc k.Ideal)). Lowered o (before + keys_below counts a arcs) None) (sym (above_with left place b some_left is h.rest h.ahead l)) tt

        module _ (target : ℕ) (aims : (arc : Arc k.Ideal) → ArcStands k all place arc → target ≡ arc.target) where
          pub sum_found : b ≡ a → Lowered (arc_on a arcs) (before + keys_below counts a arcs) (Some (record { target = target; keys = keys }))
          sum_found e = go h.rest h.ahead h.sum
            where
              go : (rest : List (Arc k.Ideal)) → Ahead k all a arcs left place rest → keys + keys_below counts a rest ≡ before + keys_below counts a arcs
                  → Lowered (arc_on a arcs) (before + keys_below counts a arcs) (Some (record { target = target; keys = keys }))
              go [] ahead sum = absurd (omega (arith, ahead.many))
              go (x ∷ rest) ahead sum =
                  let f : x.byte ≡ a = sym (is x ahead.stands.0) ∙ e in
                  let none_lower : keys_below counts a (x ∷ rest) ≡ 0
                  = keys_not_lower a x rest counts (omega (arith, f)) ∙ no_keys_above counts a rest (each_map (λ arc. x.byte < arc.byte) (λ arc. a < arc.byte) rest (λ y m. omega (arith, f)) ahead.rising.0) in
                  subst (λ (o : Option (Arc k.Ideal)). Lowered o (before + keys_below counts a arcs) (Some (record { target = target; keys = keys }))) (sym (ahead.same ∙ on_same a x rest f))
                  (aims x ahead.stands.0, omega (arith, sum, none_lower))

          pub sum_more : (next : ℕ) → ((arc : Arc k.Ideal) → ArcStands k all place arc → next ≡ place + 24 + length (k.code arc.output)) → b < a → (left' : ℕ) → left ≡ left' + 1
              → (count keys' : ℕ) → count ≡ get_or counts target 0 → (keys + count < 2 ^ 20 → keys' ≡ keys + count) → Summed k all counts a before arcs left' next keys'
          sum_more next behind lower left' e count keys' counted added = go h.rest h.ahead h.sum h.few
            where
              go : (rest : List (Arc k.Ideal)) → Ahead k all a arcs left place rest → keys + keys_below counts a rest ≡ before + keys_below counts a arcs → keys + sum_at counts rest < 2 ^ 20
                  → Summed k all counts a before arcs left' next keys'
              go [] ahead sum few = absurd (omega (arith, ahead.many))
              go (x ∷ rest) ahead sum few =
                  let f = is x ahead.stands.0 in
                  let c : count ≡ get_or counts x.target 0 = counted ∙ ap (λ (n : ℕ). get_or counts n 0) (aims x ahead.stands.0) in
                  let l : keys_below counts a (x ∷ rest) ≡ get_or counts x.target 0 + keys_below counts a rest = keys_lower a x rest counts (omega (arith, f)) in
                  let g : keys' ≡ keys + count = added (omega (arith, few, c)) in
                  record {
                    rest = rest;
                    ahead = ahead_more left place b some_left is next behind lower x rest left' e ahead;
                    sum = omega (arith, sum, l, c, g);
                    few = omega (arith, few, c, g);
                  }
