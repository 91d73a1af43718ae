-- Classes entered one by one: a prefix joins the list if none there is alike. Assumes nothing.
use Rattle.std.proofs.Common.{◌≡◌, ℕ, suc, Bool, true, false, ◌||◌, List, [], ◌∷◌, ◌++◌, length, sym, refl, ap, ◌∙◌, subst, ap₂, inl, inr, append_assoc, append-nil}
use borrow.Author.Tests.{both_ways}
use Rattle.std.proofs.lemmas.Bool.{or_left, or_right, or_parts}
use Rattle.outputs.specs.Kinds.{Kind}
use Rattle.machines.specs.Lists.{Each}
use Rattle.machines.specs.Keys.{Key}
use Rattle.machines.specs.Pairs.{Pairs}
use Rattle.machines.specs.Residuals.{residual, same_pairs, alike, any_alike, firsts_after, class_in}
use Rattle.machines.specs.Memory.{closed_prefixes, held_classes}
use Rattle.machines.proofs.Lists.{In}
use Rattle.machines.proofs.Classes.{same_pairs_refl}
use Rattle.construction.proofs.Lists.{each_append}

-- a list goes on another
abbrev pub Extends : List Key → List Key → Type 0
Extends cs ds = (more : List Key) × (ds ≡ cs ++ more)

pub extends_self : (cs : List Key) → Extends cs cs
extends_self cs = ([], sym (append-nil cs))

pub extends_on : (cs ds es : List Key) → Extends cs ds → Extends ds es → Extends cs es
extends_on cs ds es d e = (d.0 ++ e.0, e.1 ∙ ap (λ x. x ++ e.0) d.1 ∙ append_assoc cs d.0 e.0)

or_turn : (x y z : Bool) → y ≡ z → (x || y) ≡ (z || (x || false))
or_turn true true true e = refl
or_turn true true false e = absurd (both_ways true e refl)
or_turn true false true e = absurd (both_ways false refl e)
or_turn true false false e = refl
or_turn false true true e = refl
or_turn false true false e = absurd (both_ways true e refl)
or_turn false false true e = absurd (both_ways false refl e)
or_turn false false false e = refl

module _ (k : Kind) (P : Pairs k.Ideal) where
  -- the classes once u is looked for
  abbrev pub enter_class : List Key → Key → List Key
  enter_class cs u = elim (any_alike k P u cs) [ true ↦ cs | false ↦ cs ++ (u ∷ []) ]

  -- and once some are looked for in their order
  abbrev pub enter_all : List Key → List Key → List Key
  enter_all cs [] = cs
  enter_all cs (u ∷ us) = enter_all (enter_class cs u) us

  pub enter_append : (cs us vs : List Key) → enter_all cs (us ++ vs) ≡ enter_all (enter_all cs us) vs
  enter_append cs [] vs = refl
  enter_append cs (u ∷ us) vs = enter_append (enter_class cs u) us vs

  any_append : (u : Key) (cs ds : List Key) → any_alike k P u (cs ++ ds) ≡ (any_alike k P u cs || any_alike k P u ds)
  any_append u [] ds = refl
  any_append u (c ∷ cs) ds = go (alike k P u c) (any_append u cs ds)
    where
      go : (t : Bool) → any_alike k P u (cs ++ ds) ≡ (any_alike k P u cs || any_alike k P u ds) → (t || any_alike k P u (cs ++ ds)) ≡ ((t || any_alike k P u cs) || any_alike k P u ds)
      go true e = refl
      go false e = e

  -- the first of each class, behind those that stand there
  pub firsts_are : (seen cs us : List Key) → ((u : Key) → any_alike k P u seen ≡ any_alike k P u cs) → enter_all cs us ≡ cs ++ firsts_after k P seen us
  firsts_are seen cs [] h = sym (append-nil cs)
  firsts_are seen cs (u ∷ us) h = go (any_alike k P u seen) (any_alike k P u cs) (h u) (firsts_are seen cs us h) (firsts_are (u ∷ seen) (cs ++ (u ∷ [])) us more)
    where
      more : (v : Key) → any_alike k P v (u ∷ seen) ≡ any_alike k P v (cs ++ (u ∷ []))
      more v = or_turn (alike k P v u) (any_alike k P v seen) (any_alike k P v cs) (h v) ∙ sym (any_append v cs (u ∷ []))

      go : (s t : Bool) → s ≡ t → enter_all cs us ≡ cs ++ firsts_after k P seen us → enter_all (cs ++ (u ∷ [])) us ≡ (cs ++ (u ∷ [])) ++ firsts_after k P (u ∷ seen) us
          → enter_all (elim t [ true ↦ cs | false ↦ cs ++ (u ∷ []) ]) us ≡ cs ++ elim s [ true ↦ firsts_after k P seen us | false ↦ u ∷ firsts_after k P (u ∷ seen) us ]
      go true true e a b = a
      go true false e a b = absurd (both_ways false refl (sym e))
      go false true e a b = absurd (both_ways false refl e)
      go false false e a b = b ∙ append_assoc cs (u ∷ []) (firsts_after k P (u ∷ seen) us)

  pub held_are : held_classes k P ≡ enter_all [] (closed_prefixes P)
  held_are = sym (firsts_are [] [] (closed_prefixes P) (λ u. refl))

  pub enter_extends : (cs : List Key) (u : Key) → Extends cs (enter_class cs u)
  enter_extends cs u = go (any_alike k P u cs)
    where
      go : (t : Bool) → Extends cs (elim t [ true ↦ cs | false ↦ cs ++ (u ∷ []) ])
      go true = extends_self cs
      go false = (u ∷ [], refl)

  pub enter_all_extends : (cs us : List Key) → Extends cs (enter_all cs us)
  enter_all_extends cs [] = extends_self cs
  enter_all_extends cs (u ∷ us) = extends_on cs (enter_class cs u) (enter_all cs (u ∷ us)) (enter_extends cs u) (enter_all_extends (enter_class cs u) us)

  pub any_grows : (u : Key) (cs ds : List Key) → Extends cs ds → any_alike k P u cs ≡ true → any_alike k P u ds ≡ true
  any_grows u cs ds d e = ap (any_alike k P u) d.1 ∙ any_append u cs d.0 ∙ or_left (any_alike k P u cs) (any_alike k P u d.0) e

  class_append : (u : Key) (cs ds : List Key) → any_alike k P u cs ≡ true → class_in k P (cs ++ ds) u ≡ class_in k P cs u
  class_append u [] ds e = absurd (both_ways false refl e)
  class_append u (c ∷ cs) ds e = go (alike k P u c) e (class_append u cs ds)
    where
      go : (t : Bool) → (t || any_alike k P u cs) ≡ true → (any_alike k P u cs ≡ true → class_in k P (cs ++ ds) u ≡ class_in k P cs u)
          → ◌≡◌ {A = ℕ} (elim t [ true ↦ 0 | false ↦ suc (class_in k P (cs ++ ds) u) ]) (elim t [ true ↦ 0 | false ↦ suc (class_in k P cs u) ])
      go true f deep = refl
      go false f deep = ap suc (deep f)

  -- the number of a class stays as more are entered
  pub class_grows : (u : Key) (cs ds : List Key) → Extends cs ds → any_alike k P u cs ≡ true → class_in k P ds u ≡ class_in k P cs u
  class_grows u cs ds d e = ap (λ x. class_in k P x u) d.1 ∙ class_append u cs d.0 e

  alike_self : (u : Key) → alike k P u u ≡ true
  alike_self u = same_pairs_refl k (residual k P u)

  pub class_new : (u : Key) (cs : List Key) → any_alike k P u cs ≡ false → class_in k P (cs ++ (u ∷ [])) u ≡ length cs
  class_new u [] e = ap {B = ℕ} (λ t. elim t [ true ↦ 0 | false ↦ 1 ]) (alike_self u)
  class_new u (c ∷ cs) e =
      let p = or_parts (alike k P u c) (any_alike k P u cs) e in
      ap {B = ℕ} (λ t. elim t [ true ↦ 0 | false ↦ suc (class_in k P (cs ++ (u ∷ [])) u) ]) p.0 ∙ ap suc (class_new u cs p.1)

  -- what was looked for is there
  pub entered : (cs : List Key) (u : Key) → any_alike k P u (enter_class cs u) ≡ true
  entered cs u = go (any_alike k P u cs) refl
    where
      go : (t : Bool) → any_alike k P u cs ≡ t → any_alike k P u (elim t [ true ↦ cs | false ↦ cs ++ (u ∷ []) ]) ≡ true
      go true e = e
      go false e = any_append u cs (u ∷ []) ∙ or_right (any_alike k P u cs) (any_alike k P u (u ∷ [])) (or_left (alike k P u u) false (alike_self u))

  pub all_entered : (cs us : List Key) (v : Key) → In v us → any_alike k P v (enter_all cs us) ≡ true
  all_entered cs [] v i = absurd i
  all_entered cs (u ∷ us) v (inl e) = any_grows v (enter_class cs u) (enter_all cs (u ∷ us)) (enter_all_extends (enter_class cs u) us) (subst (λ x. any_alike k P v (enter_class cs x) ≡ true) e (entered cs v))
  all_entered cs (u ∷ us) v (inr i) = all_entered (enter_class cs u) us v i

  pub each_enter : (Q : Key → Type 0) (cs us : List Key) → Each Q cs → Each Q us → Each Q (enter_all cs us)
  each_enter Q cs [] h g = h
  each_enter Q cs (u ∷ us) h g = each_enter Q (enter_class cs u) us (one (any_alike k P u cs)) g.1
    where
      one : (t : Bool) → Each Q (elim t [ true ↦ cs | false ↦ cs ++ (u ∷ []) ])
      one true = h
      one false = each_append Q cs (u ∷ []) h (g.0, tt)

-- pairs in which the same prefixes have the same residuals have the same classes of them
module _ (k : Kind) (P Q : Pairs k.Ideal) where
  abbrev pub Unchanged : Key → Type 0
  Unchanged u = residual k P u ≡ residual k Q u

  pub any_unchanged : (u : Key) (cs : List Key) → Unchanged u → Each Unchanged cs → any_alike k P u cs ≡ any_alike k Q u cs
  any_unchanged u [] e h = refl
  any_unchanged u (c ∷ cs) e h = ap₂ ◌||◌ (ap₂ (same_pairs k) e h.0) (any_unchanged u cs e h.1)

  pub class_unchanged : (u : Key) (cs : List Key) → Unchanged u → Each Unchanged cs → class_in k P cs u ≡ class_in k Q cs u
  class_unchanged u [] e h = refl
  class_unchanged u (c ∷ cs) e h = ap₂ {C = ℕ} (λ t n. elim t [ true ↦ 0 | false ↦ suc n ]) (ap₂ (same_pairs k) e h.0) (class_unchanged u cs e h.1)

  pub enter_unchanged : (cs us : List Key) → Each Unchanged cs → Each Unchanged us → enter_all k P cs us ≡ enter_all k Q cs us
  enter_unchanged cs [] h g = refl
  enter_unchanged cs (u ∷ us) h g =
      enter_unchanged (enter_class k P cs u) us (each_enter k P Unchanged cs (u ∷ []) h (g.0, tt)) g.1
      ∙ ap {B = List Key} (λ t. enter_all k Q (elim t [ true ↦ cs | false ↦ cs ++ (u ∷ []) ]) us) (any_unchanged u cs g.0 h)
