-- A state that was found through the index, opened or counted. Assumes nothing.
use Rattle.std.proofs.Common.{◌≡◌, ℕ, zero, suc, ◌+◌, ◌*◌, ◌%◌, ◌<◌, ◌≤◌, Bool, true, leb, List, [], ◌∷◌, ◌++◌, length, get_or, take, drop, Some, None, sym, refl, ap, ◌∙◌, subst, arith, length-append, le-leb}
use mathlib.Core.Option.{Option, none, some}
use borrow.Author.Tests.{lt-leb}
use Rattle.std.proofs.lemmas.List.{get_or_past}
use Rattle.outputs.specs.Bits.{value}
use Rattle.outputs.specs.Kinds.{Kind}
use Rattle.machines.specs.Lists.{at}
use Rattle.machines.specs.Keys.{is_some}
use Rattle.machines.specs.Machines.{State, Machine, end_flag, sum_at}
use Rattle.machines.specs.Counts.{count_each, counts_of}
use Rattle.machines.proofs.Lists.{at_below}
use Rattle.images.specs.Loads.{entry_place, record_place, keys_at}
use Rattle.loading.specs.Index.{There}
use Rattle.loading.specs.declared.held.Loaded.{Loaded}
use Rattle.loading.specs.Loading.{Holds}
use Rattle.lookups.specs.declared.states.Opened.{Opened}
use Rattle.lookups.specs.Standing.{OutputStands, EndStands, StateStands, Stored}
use Rattle.lookups.specs.Lookups.{bits_of, OpenedAs, Opens}
use Rattle.lookups.proofs.RecordParts.{bits_below, opening_is}
use Rattle.lookups.proofs.HeldStates.{held_stored}

-- no element behind the last
pub at_past : {A : Type 0} (xs : List A) (i : ℕ) → length xs ≤ i → at xs i ≡ none
at_past [] i h = refl
at_past (x ∷ xs) zero h = absurd (omega arith)
at_past (x ∷ xs) (suc i) h = at_past xs i (omega arith)

-- and where there is none, all stand before
pub past_at : {A : Type 0} (xs : List A) (i : ℕ) → at xs i ≡ none → length xs ≤ i
past_at [] i h = omega arith
past_at (x ∷ xs) zero h = let z : ◌≡◌ {A = ℕ} 0 1 = cc in absurd (omega arith)
past_at (x ∷ xs) (suc i) h = omega (arith, past_at xs i h)

length_each : {A : Type 0} (done : List ℕ) (ss : List (State A)) → length (count_each done ss) ≡ length done + length ss
length_each done [] = omega arith
length_each done (s ∷ ss) =
    let own : ℕ = end_flag s.end + sum_at done s.arcs in
    omega (arith, length_each (done ++ (own ∷ [])) ss, length-append done (own ∷ []))

pub length_counts : {A : Type 0} (ss : List (State A)) → length (counts_of ss) ≡ length ss
length_counts ss = length_each [] ss ∙ omega arith

-- the opening of a record: its flag is set if its ten bits make 512 or more
flag_set : {A : Type 0} (o : Option A) (v n : ℕ) → v ≡ end_flag o * 512 + n → n < 512 → leb 512 v ≡ is_some o
flag_set none v n e l = lt-leb 512 v (omega (arith, e))
flag_set (some x) v n e l = le-leb 512 v (omega (arith, e))

flag_one : {A : Type 0} (o : Option A) → end_flag o < 2
flag_one none = omega arith
flag_one (some x) = omega arith

pub opened_so : (k : Kind) (all : List Bool) (p v : ℕ) (s : State k.Ideal) → StateStands k all p s → v ≡ value (take 10 (drop p all)) → OpenedAs k all (record { ends = leb 512 v; arcs = v % 512; place = p + 30 }) s
opened_so k all p v s h e =
    let n : value (take 9 (drop (p + 1) all)) < 512 = bits_below all (p + 1) 9 (omega (arith, h.within)) in
    let t : v ≡ value (take 1 (drop p all)) * 512 + value (take 9 (drop (p + 1) all)) = e ∙ opening_is all p (omega (arith, h.within)) in
    let f : v ≡ end_flag s.end * 512 + value (take 9 (drop (p + 1) all)) = t ∙ ap (λ (b : ℕ). b * 512 + value (take 9 (drop (p + 1) all))) h.flag in
    record { ends = flag_set s.end v _ f n; many = omega (arith, f, n, h.count, flag_one s.end); end = h.end; arcs = h.arcs }

-- an end output that is flagged is there
pub end_lacks : (k : Kind) (all : List Bool) (opened : Opened) (s : State k.Ideal) → OpenedAs k all opened s → opened.ends ≡ true → ((x : k.Ideal) → OutputStands k all opened.place x → ⊥) → ⊥
end_lacks k all opened s h e f = go s.end h.ends h.end
  where
    go : (o : Option k.Ideal) → opened.ends ≡ is_some o → EndStands k all opened.place o → ⊥
    go none b t = let z : ◌≡◌ {A = ℕ} 0 1 = cc in omega arith
    go (some x) b t = f x t

module _ {O S : Type 0} (k : Kind) (meaning : O → k.Ideal) (bytes : S → List ℕ) (loaded : Loaded O S) (m : Machine k.Ideal) (h : Holds k meaning bytes loaded m) (q : ℕ) where
  abbrev all : List Bool
  all = bits_of bytes loaded

  stored : Stored k all loaded.index m
  stored = held_stored k meaning bytes loaded m h

  -- beyond the start there is no state
  none_there : loaded.start < q → at m.states q ≡ none
  none_there l = at_past m.states q (omega (arith, h.many))

  pub opens_none : loaded.start < q → Opens k all (at m.states q) None
  opens_none l = subst (λ (o : Option (State k.Ideal)). Opens k all o None) (sym (none_there l)) tt

  pub opens_some : (p v : ℕ) → q ≤ loaded.start → (entry_place k all loaded.index q + 32 ≤ length all → p ≡ record_place k all loaded.index q) → (p + 10 ≤ length all → v ≡ value (take 10 (drop p all)))
      → Opens k all (at m.states q) (Some (record { ends = leb 512 v; arcs = v % 512; place = p + 30 }))
  opens_some p v l at_p is_v =
      let x = at_below m.states q (omega (arith, h.many)) in
      let found = stored.states q x.0 x.1 in
      let there : StateStands k all p x.0 = subst (λ (n : ℕ). StateStands k all n x.0) (sym (at_p found.entry)) found.stands in
      subst (λ (o : Option (State k.Ideal)). Opens k all o (Some (record { ends = leb 512 v; arcs = v % 512; place = p + 30 }))) (sym x.1)
      (opened_so k all p v x.0 there (is_v (omega (arith, there.within))))

  pub keys_some : (r : ℕ) → q ≤ loaded.start → (There k all loaded.index q → r ≡ keys_at k all loaded.index q) → r ≡ get_or (counts_of m.states) q 0
  keys_some r l is_r =
      let x = at_below m.states q (omega (arith, h.many)) in
      let found = stored.states q x.0 x.1 in
      is_r (record { entry = found.entry; keys = found.stands.within }) ∙ stored.keys q (omega (arith, h.many))

  pub keys_none : loaded.start < q → 0 ≡ get_or (counts_of m.states) q 0
  keys_none l = sym (get_or_past (counts_of m.states) q 0 (omega (arith, length_counts m.states, h.many)))
