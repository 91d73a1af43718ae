-- The states and arcs that are held, counted. Assumes ascending keys and storable outputs.
use Rattle.std.proofs.Common.{◌≡◌, ℕ, suc, ◌+◌, max, List, [], ◌∷◌, ◌++◌, map, length, sym, refl, ap, ◌∙◌, ap₂, append_assoc, append-nil, arith}
use mathlib.Core.Option.{Option, none, some}
use lib.ListN.{length-map}
use Rattle.outputs.specs.Kinds.{Kind, Laws}
use Rattle.machines.specs.Keys.{Key, prefixes}
use Rattle.machines.specs.Machines.{Arc, count_arcs}
use Rattle.machines.specs.Pairs.{Pairs, under, first_bytes, Ascending, AllStorable}
use Rattle.machines.specs.Memory.{newest, open_prefixes, next_bytes, held_classes}
use Rattle.machines.specs.Minimal.{arcs_of, state_of}
use Rattle.machines.proofs.OneMore.{length_prefixes, newest_some}
use Rattle.construction.specs.Records.{Held, newest_key, open_arcs}
use Rattle.construction.specs.Steps.{aim_last}
use Rattle.construction.specs.Building.{add, add_all, nothing_held, held_after}
use Rattle.construction.specs.Theorems.{HeldExact}
use Rattle.construction.proofs.Expected.{first_record, next_records}
use Rattle.construction.proofs.Adding.{newest_key_is}
use Rattle.construction.proofs.Holding.{held_is}

pub length_aim : {A : Type 0} (q : ℕ) (arcs : List (Arc A)) → length (aim_last q arcs) ≡ length arcs
length_aim q [] = refl
length_aim q (arc ∷ []) = refl
length_aim q (arc ∷ next ∷ arcs) = ap suc (length_aim q (next ∷ arcs))

module _ (k : Kind) where
  pub length_arcs : (P : Pairs k.Ideal) (cs : List Key) (u : Key) (bs : List ℕ) → length (arcs_of k P cs u bs) ≡ length bs
  length_arcs P cs u [] = refl
  length_arcs P cs u (b ∷ bs) = ap suc (length_arcs P cs u bs)

  count_states : (P : Pairs k.Ideal) (cs vs : List Key) → count_arcs (map (state_of k P cs) vs) ≡ next_bytes P vs
  count_states P cs [] = refl
  count_states P cs (v ∷ vs) = ap₂ ◌+◌ (length_arcs P cs v (first_bytes (under P v))) (count_states P cs vs)

  -- as many records as the key has prefixes
  length_records : (P : Pairs k.Ideal) (cs : List Key) (u s : Key) → length (next_records k P cs u s) ≡ length s
  length_records P cs u [] = refl
  length_records P cs u (a ∷ s) = ap suc (length_records P cs (u ++ (a ∷ [])) s)

  map_behind : (u : Key) (a : ℕ) (vs : List Key) → map (λ v. u ++ v) (map (λ v. a ∷ v) vs) ≡ map (λ v. (u ++ (a ∷ [])) ++ v) vs
  map_behind u a [] = refl
  map_behind u a (v ∷ vs) = ap₂ {C = List Key} (λ x xs. x ∷ xs) (sym (append_assoc u (a ∷ []) v)) (map_behind u a vs)

  map_same : (vs : List Key) → map (λ v. [] ++ v) vs ≡ vs
  map_same [] = refl
  map_same (v ∷ vs) = ap {B = List Key} (λ l. v ∷ l) (map_same vs)

  count_records : (P : Pairs k.Ideal) (cs : List Key) (u s : Key) → open_arcs (first_record k P cs u s ∷ next_records k P cs u s) ≡ next_bytes P (map (λ v. u ++ v) (prefixes s))
  count_records P cs u [] = ap (λ n. n + 0) (length_arcs P cs u (first_bytes (under P u)) ∙ ap (λ v. length (first_bytes (under P v))) (sym (append-nil u)))
  count_records P cs u (a ∷ s) =
      ap₂ ◌+◌ (length_aim 0 (arcs_of k P cs u (first_bytes (under P u))) ∙ length_arcs P cs u (first_bytes (under P u)) ∙ ap (λ v. length (first_bytes (under P v))) (sym (append-nil u)))
      (count_records P cs (u ++ (a ∷ [])) s ∙ ap (next_bytes P) (sym (map_behind u a (prefixes s))))

  add_all_more : (held : Held k.Ideal) (P : Pairs k.Ideal) (e : Key × k.Ideal) → add_all k held (P ++ (e ∷ [])) ≡ add k (add_all k held P) e.0 e.1
  add_all_more held [] e = refl
  add_all_more held (p ∷ P) e = add_all_more (add k held p.0 p.1) P e

  -- one pair more is added to what is held
  pub held_more : (P : Pairs k.Ideal) (key : Key) (output : k.Ideal) → held_after k (P ++ ((key, output) ∷ [])) ≡ add k (held_after k P) key output
  held_more P key output = add_all_more (nothing_held k) P (key, output)

module _ (k : Kind) (laws : Laws k) where
  pub held_exact : (P : Pairs k.Ideal) → Ascending P → AllStorable k P → HeldExact k P
  held_exact [] h s = record { pairs = refl; newest_read = λ n. absurd (omega arith); depth = λ n. absurd (omega arith); states = refl; arcs = refl; one_more = held_more k [] }
  held_exact (p ∷ P) h s =
      let Q : Pairs k.Ideal = p ∷ P in
      let w : Key = (newest_some p P).0 in
      let n : newest Q ≡ some w = (newest_some p P).1 in
      let cs : List Key = held_classes k Q in
      let e = held_is k laws Q w h s n in
      let read : newest_key (held_after k Q).open' ≡ w = ap (λ r. newest_key r.open') e ∙ newest_key_is k laws Q h s w n cs [] w refl in
      let opened : open_prefixes Q ≡ prefixes w = ap {B = List Key} (λ o. elim o [ none ↦ [] ∷ [] | some key ↦ prefixes key ]) n in
      let behind : length (next_records k Q cs [] w) ≡ length w = length_records k Q cs [] w in
      record {
        pairs = ap (λ r. r.pairs) e;
        newest_read = λ m. n ∙ ap {B = Option Key} some (sym read);
        depth = λ m. ap (λ r. length r.open') e ∙ ap suc (behind ∙ ap length (sym read));
        states = ap (λ r. length r.closed.states + max 1 (length r.open')) e
            ∙ ap₂ ◌+◌ (length-map cs (state_of k Q cs)) (most (length (next_records k Q cs [] w)) ∙ ap suc behind ∙ sym (length_prefixes w) ∙ ap length (sym opened));
        arcs = ap (λ r. count_arcs r.closed.states + open_arcs r.open') e
            ∙ ap₂ ◌+◌ (count_states k Q cs cs) (count_records k Q cs [] w ∙ ap (next_bytes Q) (map_same k (prefixes w) ∙ sym opened));
        one_more = held_more k Q;
      }
    where
      most : (m : ℕ) → max 1 (suc m) ≡ suc m
      most m = omega arith
