-- Opening the first record, closing, pushing and extending one after the other is adding. Assumes the laws of the kind.
use Rattle.std.proofs.Common.{◌≡◌, ℕ, suc, List, [], ◌∷◌, length, sym, refl, ap, ◌∙◌, subst}
use Rattle.outputs.specs.Kinds.{Kind, Laws}
use Rattle.machines.specs.Keys.{Key, common_length}
use Rattle.construction.specs.Records.{Open, Closed, Held, blank, newest_key}
use Rattle.construction.specs.Steps.{extend}
use Rattle.construction.specs.Building.{add}
use Rattle.construction.specs.Theorems.{AddStorable}
use Rattle.closing.specs.Closing.{closed_beyond}
use Rattle.pushing.specs.Pushing.{push_held, PushHeldStorable}
use Rattle.adding.specs.Extending.{rooted, extended}
use Rattle.adding.proofs.Parting.{common_none}

module _ (k : Kind) (laws : Laws k) where
  -- an output has itself in common with itself
  pub common_self : (x : k.Ideal) → k.common x x ≡ x
  common_self x =
      let c = k.common x x in
      let p = laws.common_of_left x x in
      let q = laws.common_greatest x x x (k.empty, laws.neutral_right x) (k.empty, laws.neutral_right x) in
      let e : k.join x (k.join q.0 p.0) ≡ k.join x k.empty = sym (laws.associative x q.0 p.0) ∙ ap (λ (z : k.Ideal). k.join z p.0) q.1 ∙ p.1 ∙ sym (laws.neutral_right x) in
      let z = laws.empty_parts q.0 p.0 (laws.left_cancel x (k.join q.0 p.0) k.empty e) in
      sym q.1 ∙ ap (k.join x) z.0 ∙ laws.neutral_right x

  rest_self : (x : k.Ideal) → k.rest (k.common x x) x ≡ k.empty
  rest_self x = ap (λ (z : k.Ideal). k.rest z x) (common_self x) ∙ ap (k.rest x) (sym (laws.neutral_right x)) ∙ laws.rest_of_join x k.empty

  module _ (key : Key) (x : k.Ideal) where
    -- what is held after the steps, at a depth
    abbrev pub after_steps : ℕ → Held k.Ideal → Held k.Ideal
    after_steps d h = extended k key d (push_held k (closed_beyond k d (rooted x h)) x).1 (push_held k (closed_beyond k d (rooted x h)) x).0

    steps_by : (closed : Closed k.Ideal) (os : List (Open k.Ideal)) (start : k.Ideal) (pairs : ℕ) → (length os ≡ 0 → pairs ≡ 0) → after_steps (common_length key (newest_key os)) (record { closed = closed; open' = os; start = start; pairs = pairs }) ≡ add k (record { closed = closed; open' = os; start = start; pairs = pairs }) key x
    steps_by closed [] start pairs first =
        let p : pairs ≡ 0 = first refl in
        let c = common_self x in
        let r = rest_self x in
        ap (λ (d : ℕ). after_steps d (record { closed = closed; open' = []; start = start; pairs = pairs })) (common_none key)
        ∙ (λ i. record { closed = closed; open' = extend k (p i) (blank (p i)) key (r i); start = c i; pairs = suc pairs })
    steps_by closed (o ∷ more) start pairs first = refl

    pub steps_add : (h : Held k.Ideal) → (length h.open' ≡ 0 → h.pairs ≡ 0) → after_steps (common_length key (newest_key h.open')) h ≡ add k h key x
    steps_add h first = steps_by h.closed h.open' h.start h.pairs first

module _ (k : Kind) (key : Key) (x : k.Ideal) where
  storable_by : (closed : Closed k.Ideal) (os : List (Open k.Ideal)) (start : k.Ideal) (pairs : ℕ) → AddStorable k (record { closed = closed; open' = os; start = start; pairs = pairs }) key x → PushHeldStorable k (closed_beyond k (common_length key (newest_key os)) (rooted x (record { closed = closed; open' = os; start = start; pairs = pairs }))) x
  storable_by closed [] start pairs s = subst (λ (d : ℕ). PushHeldStorable k (closed_beyond k d (rooted x (record { closed = closed; open' = []; start = start; pairs = pairs }))) x) (sym (common_none key)) (tt, tt)
  storable_by closed (o ∷ more) start pairs s = s

  -- the joins that the steps make are those that adding makes
  pub steps_storable : (h : Held k.Ideal) → AddStorable k h key x → PushHeldStorable k (closed_beyond k (common_length key (newest_key h.open')) (rooted x h)) x
  steps_storable h s = storable_by h.closed h.open' h.start h.pairs s
