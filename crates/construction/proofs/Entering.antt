-- Closing the record of a prefix enters its class. Assumes ascending keys and storable outputs.
use Rattle.std.proofs.Common.{◌≡◌, ℕ, suc, ◌+◌, ◌-◌, Bool, true, false, ◌||◌, List, [], ◌∷◌, ◌++◌, map, length, sym, refl, ap, ◌∙◌, ap₂, zero-add, arith}
use mathlib.Core.Option.{Option, none, some}
use lib.ListN.{length-map}
use borrow.Author.Tests.{both_ways}
use Rattle.std.proofs.lemmas.List.{map_push}
use Rattle.outputs.specs.Kinds.{Kind, Laws}
use Rattle.machines.specs.Lists.{Each}
use Rattle.machines.specs.Keys.{Key}
use Rattle.machines.specs.Machines.{State}
use Rattle.machines.specs.Pairs.{Pairs, under, first_bytes, Ascending, AllStorable}
use Rattle.machines.specs.Residuals.{alike, any_alike, class_in}
use Rattle.machines.specs.Minimal.{end_of, state_of}
use Rattle.machines.proofs.Lists.{each_map}
use Rattle.machines.proofs.Stored.{under_within}
use Rattle.construction.specs.Records.{Closed, same_state, number_from}
use Rattle.construction.specs.Steps.{enter}
use Rattle.construction.proofs.Lists.{each_append}
use Rattle.construction.proofs.ClassLists.{Extends, enter_class, any_grows, class_new}
use Rattle.construction.proofs.AlikeStates.{Complete, same_alike}
use Rattle.construction.proofs.Expected.{closed_of, whole_record, arcs_grow}

module _ (k : Kind) (laws : Laws k) (P : Pairs k.Ideal) (ascending : Ascending P) (storable : AllStorable k P) where
  abbrev Full : List Key → Key → Type 0
  Full cs u = Complete k laws P ascending storable cs u

  number_found : (q : ℕ) (cs : List Key) (u : Key) (vs : List Key) → Full cs u → Each (Full cs) vs → any_alike k P u vs ≡ true → number_from k q (state_of k P cs u) (map (state_of k P cs) vs) ≡ some (q + class_in k P vs u)
  number_found q cs u [] h g e = absurd (both_ways false refl e)
  number_found q cs u (v ∷ vs) h g e = go (same_state k (state_of k P cs u) (state_of k P cs v)) (alike k P u v) (same_alike k laws P ascending storable cs u v h g.0) e (number_found (suc q) cs u vs h g.1)
    where
      go : (s t : Bool) → s ≡ t → (t || any_alike k P u vs) ≡ true → (any_alike k P u vs ≡ true → number_from k (suc q) (state_of k P cs u) (map (state_of k P cs) vs) ≡ some (suc q + class_in k P vs u))
          → ◌≡◌ {A = Option ℕ} (elim s [ true ↦ some q | false ↦ number_from k (suc q) (state_of k P cs u) (map (state_of k P cs) vs) ]) (some (q + elim t [ true ↦ 0 | false ↦ suc (class_in k P vs u) ]))
      go true true f a deep = let o : q ≡ q + 0 = omega arith in ap {B = Option ℕ} some o
      go true false f a deep = absurd (both_ways true f refl)
      go false true f a deep = absurd (both_ways false refl f)
      go false false f a deep = let o : suc q + class_in k P vs u ≡ q + suc (class_in k P vs u) = omega arith in deep a ∙ ap {B = Option ℕ} some o

  number_none : (q : ℕ) (cs : List Key) (u : Key) (vs : List Key) → Full cs u → Each (Full cs) vs → any_alike k P u vs ≡ false → number_from k q (state_of k P cs u) (map (state_of k P cs) vs) ≡ none
  number_none q cs u [] h g e = refl
  number_none q cs u (v ∷ vs) h g e = go (same_state k (state_of k P cs u) (state_of k P cs v)) (alike k P u v) (same_alike k laws P ascending storable cs u v h g.0) e (number_none (suc q) cs u vs h g.1)
    where
      go : (s t : Bool) → s ≡ t → (t || any_alike k P u vs) ≡ false → (any_alike k P u vs ≡ false → number_from k (suc q) (state_of k P cs u) (map (state_of k P cs) vs) ≡ none)
          → ◌≡◌ {A = Option ℕ} (elim s [ true ↦ some q | false ↦ number_from k (suc q) (state_of k P cs u) (map (state_of k P cs) vs) ]) none
      go true true f a deep = absurd (both_ways true a refl)
      go true false f a deep = absurd (both_ways true f refl)
      go false true f a deep = absurd (both_ways false refl f)
      go false false f a deep = deep a

  -- what is complete stays so, and keeps its state, as more classes are entered
  pub complete_grows : (cs ds : List Key) (u : Key) → Extends cs ds → Full cs u → Full ds u
  complete_grows cs ds u d h = each_map _ _ (first_bytes (under P u)) (λ a e. any_grows k P (u ++ (a ∷ [])) cs ds d e) h

  pub state_grows : (cs ds : List Key) (u : Key) → Extends cs ds → Full cs u → state_of k P ds u ≡ state_of k P cs u
  state_grows cs ds u d h = ap {B = State k.Ideal} (λ l. record { end = end_of k P u; arcs = l }) (arcs_grow k P cs ds u (first_bytes (under P u)) d h)

  pub states_grow : (cs ds vs : List Key) → Extends cs ds → Each (Full cs) vs → map (state_of k P ds) vs ≡ map (state_of k P cs) vs
  states_grow cs ds [] d h = refl
  states_grow cs ds (v ∷ vs) d h = ap₂ {C = List (State k.Ideal)} (λ x xs. x ∷ xs) (state_grows cs ds v d h.0) (states_grow cs ds vs d h.1)

  -- one state more, of a class that is not there yet
  pub closed_push : (cs : List Key) (u : Key) (n : ℕ) → n ≡ length (under P u) → Each (Full cs) cs → Full cs u
      → ◌≡◌ {A = Closed k.Ideal} (record { states = map (state_of k P cs) cs ++ (state_of k P cs u ∷ []); counts = map (λ v. length (under P v)) cs ++ (n ∷ []) }) (closed_of k P (cs ++ (u ∷ [])))
  closed_push cs u n e h g =
      let d : Extends cs (cs ++ (u ∷ [])) = (u ∷ [], refl) in
      let s : map (state_of k P cs) cs ++ (state_of k P cs u ∷ []) ≡ map (state_of k P (cs ++ (u ∷ []))) (cs ++ (u ∷ []))
      = ap₂ {C = List (State k.Ideal)} (λ x y. x ++ (y ∷ [])) (sym (states_grow cs (cs ++ (u ∷ [])) cs d h)) (sym (state_grows cs (cs ++ (u ∷ [])) u d g))
      ∙ sym (map_push (state_of k P (cs ++ (u ∷ []))) cs u) in
      let c : map (λ v. length (under P v)) cs ++ (n ∷ []) ≡ map (λ v. length (under P v)) (cs ++ (u ∷ []))
      = ap (λ m. map (λ v. length (under P v)) cs ++ (m ∷ [])) e ∙ sym (map_push (λ v. length (under P v)) cs u) in
      λ i. record { states = s i; counts = c i }

  pub enter_is : (cs : List Key) (u : Key) → Each (Full cs) cs → Full cs u
      → enter k (length P) (closed_of k P cs) (whole_record k P cs u) ≡ (class_in k P (enter_class k P cs u) u, closed_of k P (enter_class k P cs u))
  enter_is cs u h g = go (any_alike k P u cs) refl
    where
      more : Closed k.Ideal
      more = record { states = map (state_of k P cs) cs ++ (state_of k P cs u ∷ []); counts = map (λ v. length (under P v)) cs ++ ((length P - (length P - length (under P u))) ∷ []) }

      choose : Option ℕ → ℕ × Closed k.Ideal
      choose o = elim o [ some q ↦ (q, closed_of k P cs) | none ↦ (length (map (state_of k P cs) cs), more) ]

      count : length P - (length P - length (under P u)) ≡ length (under P u)
      count = omega (arith, under_within P u)

      go : (t : Bool) → any_alike k P u cs ≡ t
          → enter k (length P) (closed_of k P cs) (whole_record k P cs u) ≡ (class_in k P (elim t as (λ i. List Key) [ true ↦ cs | false ↦ cs ++ (u ∷ []) ]) u, closed_of k P (elim t as (λ i. List Key) [ true ↦ cs | false ↦ cs ++ (u ∷ []) ]))
      go true e = ap choose (number_found 0 cs u cs g h e) ∙ ap {B = ℕ × Closed k.Ideal} (λ q. (q, closed_of k P cs)) (zero-add (class_in k P cs u))
      go false e =
          ap choose (number_none 0 cs u cs g h e)
          ∙ ap₂ {C = ℕ × Closed k.Ideal} (λ q c. (q, c)) (length-map cs (state_of k P cs) ∙ sym (class_new k P u cs e)) (closed_push cs u (length P - (length P - length (under P u))) count h g)

  -- and all stays complete
  pub enter_complete : (cs : List Key) (u : Key) → Each (Full cs) cs → Full cs u → Each (Full (enter_class k P cs u)) (enter_class k P cs u)
  enter_complete cs u h g = go (any_alike k P u cs)
    where
      go : (t : Bool) → Each (Full (elim t [ true ↦ cs | false ↦ cs ++ (u ∷ []) ])) (elim t [ true ↦ cs | false ↦ cs ++ (u ∷ []) ])
      go true = h
      go false =
          let d : Extends cs (cs ++ (u ∷ [])) = (u ∷ [], refl) in
          each_append _ cs (u ∷ []) (each_map _ _ cs (λ v f. complete_grows cs (cs ++ (u ∷ [])) v d f) h) (complete_grows cs (cs ++ (u ∷ [])) u d g, tt)
