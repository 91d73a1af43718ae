-- What is held, told by the pairs and the classes that were entered: the closed states, and the open records along a key. Assumes nothing.
use Rattle.std.proofs.Common.{◌≡◌, ℕ, ◌-◌, true, List, [], ◌∷◌, ◌++◌, map, length, refl, ap, ap₂}
use mathlib.Core.Option.{Option}
use Rattle.outputs.specs.Kinds.{Kind}
use Rattle.machines.specs.Lists.{Each}
use Rattle.machines.specs.Keys.{Key}
use Rattle.machines.specs.Machines.{Arc}
use Rattle.machines.specs.Pairs.{Pairs, under, first_bytes}
use Rattle.machines.specs.Residuals.{greatest_common, any_alike, class_in}
use Rattle.machines.specs.Minimal.{arcs_of, end_of, state_of}
use Rattle.construction.specs.Records.{Open, Closed}
use Rattle.construction.specs.Steps.{aim_last, aim, last_output, with_last_output}
use Rattle.construction.proofs.ClassLists.{Extends, class_grows}

module _ (k : Kind) where
  -- the closed states of some classes
  abbrev pub closed_of : Pairs k.Ideal → List Key → Closed k.Ideal
  closed_of P cs = record { states = map (state_of k P cs) cs; counts = map (λ u. length (under P u)) cs }

  -- the record of a prefix, every arc with its target
  abbrev pub whole_record : Pairs k.Ideal → List Key → Key → Open k.Ideal
  whole_record P cs u = record { end = end_of k P u; arcs = arcs_of k P cs u (first_bytes (under P u)); since = length P - length (under P u) }

  -- the record of a prefix whose last arc leads on
  abbrev pub leading_record : Pairs k.Ideal → List Key → Key → Open k.Ideal
  leading_record P cs u = aim 0 (whole_record P cs u)

  -- the records along s from that of u on: the first, and those behind it
  abbrev pub first_record : Pairs k.Ideal → List Key → Key → Key → Open k.Ideal
  first_record P cs u [] = whole_record P cs u
  first_record P cs u (a ∷ s) = leading_record P cs u

  abbrev pub next_records : Pairs k.Ideal → List Key → Key → Key → List (Open k.Ideal)
  next_records P cs u [] = []
  next_records P cs u (a ∷ s) = first_record P cs (u ++ (a ∷ [])) s ∷ next_records P cs (u ++ (a ∷ [])) s

  -- the arc on a byte, with a target
  abbrev pub arc_to : Pairs k.Ideal → ℕ → Key → ℕ → Arc k.Ideal
  arc_to P q u a = record { byte = a; target = q; output = k.rest (greatest_common k P u) (greatest_common k P (u ++ (a ∷ []))) }

  pub arcs_push : (P : Pairs k.Ideal) (cs : List Key) (u : Key) (bs : List ℕ) (a : ℕ) → arcs_of k P cs u (bs ++ (a ∷ [])) ≡ arcs_of k P cs u bs ++ (arc_to P (class_in k P cs (u ++ (a ∷ []))) u a ∷ [])
  arcs_push P cs u [] a = refl
  arcs_push P cs u (b ∷ bs) a = ap {B = List (Arc k.Ideal)} (λ l. arc_to P (class_in k P cs (u ++ (b ∷ []))) u b ∷ l) (arcs_push P cs u bs a)

  -- the arcs stay as more classes are entered
  pub arcs_grow : (P : Pairs k.Ideal) (cs ds : List Key) (u : Key) (bs : List ℕ) → Extends cs ds → Each (λ a. any_alike k P (u ++ (a ∷ [])) cs ≡ true) bs → arcs_of k P ds u bs ≡ arcs_of k P cs u bs
  arcs_grow P cs ds u [] d h = refl
  arcs_grow P cs ds u (b ∷ bs) d h =
      ap₂ {C = List (Arc k.Ideal)} (λ q l. arc_to P q u b ∷ l) (class_grows k P (u ++ (b ∷ [])) cs ds d h.0) (arcs_grow P cs ds u bs d h.1)

  -- changes of a last arc
  abbrev pub aimed : ℕ → Arc k.Ideal → Arc k.Ideal
  aimed q arc = record { byte = arc.byte; target = q; output = arc.output }

  pub aim_push : (q : ℕ) (arcs : List (Arc k.Ideal)) (arc : Arc k.Ideal) → aim_last q (arcs ++ (arc ∷ [])) ≡ arcs ++ (aimed q arc ∷ [])
  aim_push q [] arc = refl
  aim_push q (b ∷ []) arc = refl
  aim_push q (b ∷ c ∷ arcs) arc = ap {B = List (Arc k.Ideal)} (λ l. b ∷ l) (aim_push q (c ∷ arcs) arc)

  pub last_push : (arcs : List (Arc k.Ideal)) (arc : Arc k.Ideal) → last_output k (arcs ++ (arc ∷ [])) ≡ arc.output
  last_push [] arc = refl
  last_push (b ∷ []) arc = refl
  last_push (b ∷ c ∷ arcs) arc = last_push (c ∷ arcs) arc

  pub with_last_push : (x : k.Ideal) (arcs : List (Arc k.Ideal)) (arc : Arc k.Ideal) → with_last_output k x (arcs ++ (arc ∷ [])) ≡ arcs ++ (record { byte = arc.byte; target = arc.target; output = x } ∷ [])
  with_last_push x [] arc = refl
  with_last_push x (b ∷ []) arc = refl
  with_last_push x (b ∷ c ∷ arcs) arc = ap {B = List (Arc k.Ideal)} (λ l. b ∷ l) (with_last_push x (c ∷ arcs) arc)

  -- records with equal parts are equal
  pub open_equal : (e f : Option k.Ideal) (as' bs : List (Arc k.Ideal)) (m n : ℕ) → e ≡ f → as' ≡ bs → m ≡ n
      → ◌≡◌ {A = Open k.Ideal} (record { end = e; arcs = as'; since = m }) (record { end = f; arcs = bs; since = n })
  open_equal e f as' bs m n p q r = λ i. record { end = p i; arcs = q i; since = r i }
