-- What a memory stands for goes on standing, add by add, and is sealed to the minimal machine. Assumes the laws of the kind.
use Rattle.std.proofs.Common.{◌≡◌, ℕ, zero, suc, ◌+◌, ◌-◌, ◌<◌, Bool, true, false, not, ltb, leb, ◌⊎◌, [], ◌∷◌, ◌++◌, length, Ok, Err, Result, sym, refl, ap, ◌∙◌, subst, inl, inr, arith, lt-ltb}
use mathlib.Core.Option.{Option, none, some}
use Rattle.stacks.specs.Stacks.{capacity}
use Rattle.outputs.specs.Kinds.{Kind, Laws}
use Rattle.outputs.specs.Texts.{all_bytes}
use Rattle.machines.specs.Keys.{Key, common_length}
use Rattle.machines.specs.Pairs.{Pairs}
use Rattle.machines.specs.Minimal.{minimal, key_counts}
use Rattle.machines.specs.Memory.{growth, not_above, held_states, held_arcs, refusal}
use Rattle.machines.specs.Runs.{put_unless}
use Rattle.machines.proofs.RunFacts.{ascending_taken, storable_taken, short_taken, few_taken, bytes_taken}
use Rattle.construction.specs.Records.{Held, newest_key}
use Rattle.construction.specs.Building.{add, held_after, sealed, sealed_states}
use Rattle.construction.specs.Theorems.{AddStorable}
use Rattle.construction.proofs.HeldStates.{held_exact}
use Rattle.construction.proofs.AddStorable.{joins_storable}
use Rattle.construction.proofs.Theorems.{proper_minimal}
use Rattle.closing.specs.Closing.{all_closed}
use Rattle.records.specs.declared.memory.Core.{Core}
use Rattle.records.specs.Holding.{held}
use Rattle.records.specs.Registering.{Registered}
use Rattle.adding.specs.declared.refusal.AddRefusal.{AddRefusal}
use Rattle.adding.specs.Refusals.{told}
use Rattle.adding.specs.Admission.{Admits}
use Rattle.adding.specs.Adding.{Adds, SameRooms}
use Rattle.adding.proofs.Telling.{HeldAs, admits_told, rising}
use Rattle.builder.specs.Refusals.{UnlessTaken}
use Rattle.builder.specs.Standing.{Takeable, Stands, SealedOf}

module _ (k : Kind) (laws : Laws k) where
  -- one pair more can be taken where it is not refused
  pub takeable_more : (states arcs : ℕ) (P : Pairs k.Ideal) (key : Key) (x : k.Ideal) → all_bytes key ≡ true → k.storable x ≡ true → Takeable k P → Takeable k (put_unless (refusal k states arcs P key) P (key, x))
  takeable_more states arcs P key x b s t =
      let es : Pairs k.Ideal = (key, x) ∷ [] in
      record {
        ascending = ascending_taken k states arcs P es t.ascending;
        bytes = bytes_taken k states arcs P es t.bytes (b, tt);
        short = short_taken k states arcs P es t.short;
        few = few_taken k states arcs P es t.few;
        storable = storable_taken k states arcs P es t.storable (s, tt);
      }

  -- what is held after some pairs counts as they say
  held_as : (P : Pairs k.Ideal) → Takeable k P → HeldAs k P (held_after k P)
  held_as [] t = let e = held_exact k laws [] t.ascending t.storable in record { pairs = e.pairs; none_open = λ z. refl; some_open = λ l. absurd (omega arith); states = e.states; arcs = e.arcs }
  held_as (p ∷ P) t =
      let e = held_exact k laws (p ∷ P) t.ascending t.storable in
      record { pairs = e.pairs; none_open = λ z. absurd (omega (arith, e.depth (omega arith))); some_open = λ l. e.newest_read (omega arith); states = e.states; arcs = e.arcs }

  module _ {O : Type 0} (mean : O → k.Ideal) (digested : k.Ideal → ℕ) where
    -- the room for arcs does not matter to a key that has no room for a state
    abbrev failed : Bool → Bool → Bool → Bool → Bool → Option ℕ
    failed t u v w x = elim t [ true ↦ some 5 | false ↦ elim u [ true ↦ some 6 | false ↦ elim v [ true ↦ some 7 | false ↦ elim w [ true ↦ some 8 | false ↦ elim x [ true ↦ some 9 | false ↦ none ] ] ] ] ]

    no_state_room : (P : Pairs k.Ideal) (key : Key) (a b : ℕ) → 0 < held_states k P → refusal k 0 a P key ≡ refusal k 0 b P key
    unfolding refusal
    no_state_room P key a b h =
        let w = lt-ltb 0 (held_states k P + growth P key) (omega arith) in
        let at_arcs : ℕ → Bool → Option ℕ = λ n t. failed (ltb 64 (length key)) (not_above P key) (leb 1048575 (length P)) t (ltb n (held_arcs k P + growth P key)) in
        ap (at_arcs a) w ∙ sym (ap (at_arcs b) w)

    -- some state is always held
    some_held : (P : Pairs k.Ideal) → Takeable k P → 0 < held_states k P
    some_held P t = omega (arith, (held_exact k laws P t.ascending t.storable).states)

    module _ (before : Core O) (states arcs : ℕ) (P : Pairs k.Ideal) (key : Key) (s : Stands k mean digested before states arcs P) where
      by_room : (states ≡ 0) ⊎ (0 < states) → refusal k (capacity before.states) (capacity before.arcs) P key ≡ refusal k states arcs P key
      by_room (inl z) =
          let e : capacity before.states ≡ 0 = s.stateroom ∙ z in
          ap (λ (n : ℕ). refusal k n (capacity before.arcs) P key) e ∙ no_state_room P key (capacity before.arcs) arcs (some_held P s.takeable) ∙ ap (λ (n : ℕ). refusal k n arcs P key) (sym z)
      by_room (inr l) = ap (λ (n : ℕ). refusal k n (capacity before.arcs) P key) s.stateroom ∙ ap (λ (n : ℕ). refusal k states n P key) (s.arcroom l)

      zero_or_more : (n : ℕ) → (n ≡ 0) ⊎ (0 < n)
      zero_or_more zero = inl refl
      zero_or_more (suc n) = inr (omega arith)

      -- what an add is told by what is held, it is told by the pairs
      pub told_by_pairs : (r : Result ℕ AddRefusal) → Admits (capacity before.states) (capacity before.arcs) (held mean before) key r → told r ≡ refusal k states arcs P key
      told_by_pairs r a =
          let as' : HeldAs k P (held mean before) = subst (HeldAs k P) (sym s.holds) (held_as P s.takeable) in
          sym (admits_told k P key (capacity before.states) (capacity before.arcs) (held mean before) as' r a) ∙ by_room (zero_or_more states)

      module _ (x : k.Ideal) (octets : all_bytes key ≡ true) (storable : k.storable x ≡ true) (after : Core O) (rooms : SameRooms before after) where
        -- the memory after an add stands for the pairs with the new one at their end, unless it was refused
        pub stands_after : (r : Result (Unit {0}) AddRefusal) → Adds k digested mean key x before after r → (told r ≡ refusal k states arcs P key) × Stands k mean digested after states arcs (put_unless (told r) P (key, x))
        stands_after (Err e) a = (told_by_pairs (Err e) a.0, subst (λ (c : Core O). Stands k mean digested c states arcs P) (sym a.1) s)
        stands_after (Ok u) a =
            let t = told_by_pairs (Ok (common_length key (newest_key (held mean before).open'))) a.admitted in
            let as' : HeldAs k P (held mean before) = subst (HeldAs k P) (sym s.holds) (held_as P s.takeable) in
            let above : not_above P key ≡ false = rising k P key states arcs (held mean before) as' ∙ ap not a.admitted.above in
            let fit = joins_storable k laws P s.takeable.ascending s.takeable.storable key x above storable in
            let more : Pairs k.Ideal = P ++ ((key, x) ∷ []) in (
              t,
              record {
                stateroom = rooms.states ∙ s.stateroom;
                arcroom = λ l. rooms.arcs ∙ s.arcroom l;
                takeable = subst (λ (o : Option ℕ). Takeable k (put_unless o P (key, x))) (sym t) (takeable_more states arcs P key x octets storable s.takeable);
                registered = a.registered s.registered;
                holds = a.holds s.registered (subst (λ (h : Held k.Ideal). AddStorable k h key x) (sym s.holds) fit)
                    ∙ ap (λ (h : Held k.Ideal). add k h key x) s.holds
                    ∙ sym ((held_exact k laws P s.takeable.ascending s.takeable.storable).one_more key x);
              },
            )

    -- where a pair is refused, all is as it was
    pub refused_unchanged : (key : Key) (x : k.Ideal) (before after : Core O) (r : Result (Unit {0}) AddRefusal) → Adds k digested mean key x before after r → UnlessTaken r (after ≡ before)
    refused_unchanged key x before after (Ok u) a = tt
    refused_unchanged key x before after (Err e) a = a.1

    -- what is sealed of a memory that stands for some pairs is their minimal machine
    sealed_minimal : (P : Pairs k.Ideal) → Takeable k P → (sealed k (held_after k P) ≡ minimal k P) × ((sealed_states k (held_after k P)).counts ≡ key_counts k P)
    sealed_minimal [] t = (refl, refl)
    sealed_minimal (p ∷ P) t =
        let m = proper_minimal k laws (p ∷ P) (record { nonempty = omega arith; ascending = t.ascending; bytes = t.bytes; storable = t.storable }) in
        (m.machine, m.counts)

    pub sealed_pairs : (before after : Core O) (states arcs : ℕ) (P : Pairs k.Ideal) → Stands k mean digested before states arcs P
        → (Registered digested mean before → held mean after ≡ all_closed k (held mean before)) → SealedOf k mean after P
    sealed_pairs before after states arcs P s closes =
        let h : held mean after ≡ all_closed k (held_after k P) = closes s.registered ∙ ap (all_closed k) s.holds in
        let m = sealed_minimal P s.takeable in
        record {
          takeable = s.takeable;
          machine = ap (λ (z : Held k.Ideal). record { start = length z.closed.states - 1; start_output = z.start; states = z.closed.states }) h ∙ m.0;
          counts = ap (λ (z : Held k.Ideal). z.closed.counts) h ∙ m.1;
          pairs = ap (λ (z : Held k.Ideal). z.pairs) h ∙ (held_exact k laws P s.takeable.ascending s.takeable.storable).pairs;
        }

    -- a memory that stands for some pairs has taken so many
    pub pairs_counted : (core : Core O) (states arcs : ℕ) (P : Pairs k.Ideal) → Stands k mean digested core states arcs P → core.pairs ≡ length P
    pairs_counted core states arcs P s = ap (λ (z : Held k.Ideal). z.pairs) s.holds ∙ (held_exact k laws P s.takeable.ascending s.takeable.storable).pairs
