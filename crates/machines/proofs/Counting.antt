-- Different places of a list: what is summed there is at most the whole sum. Assumes nothing.
use Rattle.std.proofs.Common.{◌≡◌, ℕ, zero, suc, ◌+◌, ◌≤◌, Bool, true, false, eqb, List, [], ◌∷◌, length, sym, refl, ap, subst, arith, ne_eqb, eqb-true}
use mathlib.Core.Option.{Option, none, some}
use Rattle.machines.specs.Lists.{at}
use Rattle.machines.specs.Machines.{Arc, arc_on}

-- q is not in the list; the list has no number twice
abbrev pub Lacks : ℕ → List ℕ → Type 0
Lacks q [] = Unit {0}
Lacks q (r ∷ rs) = (q ≡ r → ⊥) × Lacks q rs

abbrev pub Different : List ℕ → Type 0
Different [] = Unit {0}
Different (q ∷ qs) = Lacks q qs × Different qs

-- the numbers above 0, each less one
abbrev downs : List ℕ → List ℕ
downs [] = []
downs (zero ∷ qs) = downs qs
downs (suc q ∷ qs) = q ∷ downs qs

lacks_downs : (q : ℕ) (qs : List ℕ) → Lacks (suc q) qs → Lacks q (downs qs)
lacks_downs q [] h = tt
lacks_downs q (zero ∷ qs) h = lacks_downs q qs h.1
lacks_downs q (suc r ∷ qs) h = (λ e. h.0 (ap suc e), lacks_downs q qs h.1)

different_downs : (qs : List ℕ) → Different qs → Different (downs qs)
different_downs [] h = tt
different_downs (zero ∷ qs) h = different_downs qs h.1
different_downs (suc q ∷ qs) h = (lacks_downs q qs h.0, different_downs qs h.1)

module _ {A : Type 0} (g : A → ℕ) where
  abbrev pub weight : Option A → ℕ
  weight none = 0
  weight (some x) = g x

  abbrev pub weigh : List A → List ℕ → ℕ
  weigh L [] = 0
  weigh L (q ∷ qs) = weight (at L q) + weigh L qs

  abbrev pub weigh_all : List A → ℕ
  weigh_all [] = 0
  weigh_all (x ∷ L) = g x + weigh_all L

  weigh_none : (qs : List ℕ) → weigh [] qs ≡ 0
  weigh_none [] = refl
  weigh_none (q ∷ qs) = omega (arith, weigh_none qs)

  weigh_lacks : (x : A) (L : List A) (qs : List ℕ) → Lacks 0 qs → weigh (x ∷ L) qs ≡ weigh L (downs qs)
  weigh_lacks x L [] h = refl
  weigh_lacks x L (zero ∷ qs) h = absurd (h.0 refl)
  weigh_lacks x L (suc q ∷ qs) h = ap (λ n. weight (at L q) + n) (weigh_lacks x L qs h.1)

  weigh_downs : (x : A) (L : List A) (qs : List ℕ) → Different qs → weigh (x ∷ L) qs ≤ g x + weigh L (downs qs)
  weigh_downs x L [] h = omega arith
  weigh_downs x L (zero ∷ qs) h = omega (arith, weigh_lacks x L qs h.0)
  weigh_downs x L (suc q ∷ qs) h = omega (arith, weigh_downs x L qs h.1)

  pub weigh_different : (L : List A) (qs : List ℕ) → Different qs → weigh L qs ≤ weigh_all L
  weigh_different [] qs h = omega (arith, weigh_none qs)
  weigh_different (x ∷ L) qs h = omega (arith, weigh_downs x L qs h, weigh_different L (downs qs) (different_downs qs h))

-- the bytes other than b
abbrev others : ℕ → List ℕ → List ℕ
others b [] = []
others b (a ∷ as') = elim (eqb b a) [ true ↦ others b as' | false ↦ a ∷ others b as' ]

lacks_others : (b a : ℕ) (as' : List ℕ) → Lacks a as' → Lacks a (others b as')
lacks_others b a [] h = tt
lacks_others b a (c ∷ cs) h = go (eqb b c) (lacks_others b a cs h.1)
  where
    go : (t : Bool) → Lacks a (others b cs) → Lacks a (elim t [ true ↦ others b cs | false ↦ c ∷ others b cs ])
    go true deep = deep
    go false deep = (h.0, deep)

different_others : (b : ℕ) (as' : List ℕ) → Different as' → Different (others b as')
different_others b [] h = tt
different_others b (a ∷ as') h = go (eqb b a) (different_others b as' h.1)
  where
    go : (t : Bool) → Different (others b as') → Different (elim t [ true ↦ others b as' | false ↦ a ∷ others b as' ])
    go true deep = deep
    go false deep = (lacks_others b a as' h.0, deep)

others_lacks : (b : ℕ) (as' : List ℕ) → Lacks b as' → others b as' ≡ as'
others_lacks b [] h = refl
others_lacks b (a ∷ as') h = rw (ne_eqb b a h.0, others) (ap {B = List ℕ} (λ l. a ∷ l) (others_lacks b as' h.1))

length_others : (b : ℕ) (as' : List ℕ) → Different as' → length as' ≤ suc (length (others b as'))
length_others b [] h = omega arith
length_others b (a ∷ as') h = go (eqb b a) refl (length_others b as' h.1)
  where
    go : (t : Bool) → eqb b a ≡ t → length as' ≤ suc (length (others b as')) → suc (length as') ≤ suc (length {A = ℕ} (elim t [ true ↦ others b as' | false ↦ a ∷ others b as' ]))
    go true e deep = omega (arith, ap length (others_lacks b as' (subst (λ c. Lacks c as') (sym (eqb-true b a e)) h.0)))
    go false e deep = omega arith

module _ {A : Type 0} where
  -- each of the bytes has an arc
  abbrev pub HaveArcs : List (Arc A) → List ℕ → Type 0
  HaveArcs arcs [] = Unit {0}
  HaveArcs arcs (a ∷ as') = ((arc : Arc A) × (arc_on a arcs ≡ some arc)) × HaveArcs arcs as'

  have_others : (arc : Arc A) (arcs : List (Arc A)) (as' : List ℕ) → HaveArcs (arc ∷ arcs) as' → HaveArcs arcs (others arc.byte as')
  have_others arc arcs [] h = tt
  have_others arc arcs (a ∷ as') h = go (eqb arc.byte a) h.0.0 h.0.1 (have_others arc arcs as' h.1)
    where
      go : (t : Bool) (found : Arc A) → ◌≡◌ {A = Option (Arc A)} (elim t [ true ↦ some arc | false ↦ arc_on a arcs ]) (some found) → HaveArcs arcs (others arc.byte as')
          → HaveArcs arcs (elim t [ true ↦ others arc.byte as' | false ↦ a ∷ others arc.byte as' ])
      go true found e deep = deep
      go false found e deep = ((found, e), deep)

  -- so there are at least as many arcs
  pub arcs_enough : (arcs : List (Arc A)) (as' : List ℕ) → Different as' → HaveArcs arcs as' → length as' ≤ length arcs
  arcs_enough [] [] d h = omega arith
  arcs_enough [] (a ∷ as') d h = let e : ◌≡◌ {A = Option (Arc A)} none (some h.0.0) = h.0.1 in let z : ◌≡◌ {A = ℕ} 0 1 = cc in absurd (omega arith)
  arcs_enough (arc ∷ arcs) as' d h =
      omega (arith, length_others arc.byte as' d, arcs_enough arcs (others arc.byte as') (different_others arc.byte as' d) (have_others arc arcs as' h))
