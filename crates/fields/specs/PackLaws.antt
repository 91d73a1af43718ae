-- Rows packed in turn are packed together.
use Rattle.std.specs.Prelude.{◌≡◌, ℕ, ◌%◌, ◌<◌, ◌≤◌, Bool, ◌⊎◌, List, [], ◌++◌, length, take, Ok, Err, nat_lt, refl}
use Rattle.std.proofs.Common.{ap, sym, subst, ◌∙◌, append_assoc, inl, inr, arith, length-append, le-ltb, lt-ltb}
use Rattle.std.proofs.lemmas.List.{append-nil, take_all, take-append-le}
use Rattle.std.proofs.lemmas.Bool.{cond-true, cond-false, cases_lt}
use Rattle.outputs.specs.BitRows.{length_bits_before}
use Rattle.stores.specs.declared.Refusal.TheVariants.{Full}
use Rattle.stores.specs.Sound.{Sound}
use Rattle.fields.specs.Rows.{whole, left}
use Rattle.fields.specs.RowLaws.{whole_append, left_append, none_whole, all_left}
use Rattle.fields.specs.Packs.{Outcome, over, Gave, pending, Packs}

pub over_room : (room : ℕ) (bytes : List ℕ) → length bytes ≤ room → over room bytes ≡ Ok tt
over_room room bytes h = cond-false (nat_lt room (length bytes)) (Err Full) (Ok tt) (le-ltb room (length bytes) h)

pub over_full : (room : ℕ) (bytes : List ℕ) → room < length bytes → over room bytes ≡ Err Full
over_full room bytes h = cond-true (nat_lt room (length bytes)) (Err Full) (Ok tt) (lt-ltb room (length bytes) h)

-- a store is given nothing
pub gave_none : (room : ℕ) (bytes : List ℕ) (outcome : Outcome) → length bytes ≤ room → Gave room bytes outcome [] bytes outcome
gave_none room bytes (Err refusal) h = (refl, refl)
gave_none room bytes (Ok u) h =
    let e : bytes ++ [] ≡ bytes = append-nil bytes in
    (sym (ap (take room) e ∙ take_all room bytes h), sym (ap (over room) e ∙ over_room room bytes h))

-- and one row behind another
pub gave_more : (room : ℕ) (bytes bytes' bytes'' row more : List ℕ) (outcome outcome' outcome'' : Outcome) →
    Gave room bytes outcome row bytes' outcome' → Gave room bytes' outcome' more bytes'' outcome'' → Gave room bytes outcome (row ++ more) bytes'' outcome''
gave_more room bytes bytes' bytes'' row more (Err r) (Err r') outcome'' (a, b) (c, d) = (c ∙ a, d ∙ b)
gave_more room bytes bytes' bytes'' row more (Err r) (Ok u) outcome'' (a, b) d = let z : ◌≡◌ {A = ℕ} 0 1 = cc in absurd (omega arith)
gave_more room bytes bytes' bytes'' row more (Ok u) outcome' outcome'' (a, b) d = go outcome' b d (cases_lt room (length (bytes ++ row)))
  where
    go : (told : Outcome) → told ≡ over room (bytes ++ row) → Gave room bytes' told more bytes'' outcome'' → (room < length (bytes ++ row)) ⊎ (length (bytes ++ row) ≤ room) →
        (bytes'' ≡ take room (bytes ++ (row ++ more))) × (outcome'' ≡ over room (bytes ++ (row ++ more)))
    go (Err r) e (c, f) (inl full) =
        let k : (bytes ++ row) ++ more ≡ bytes ++ (row ++ more) = append_assoc bytes row more in
        let long : room < length ((bytes ++ row) ++ more) = omega (arith, length-append (bytes ++ row) more) in
        let within : room ≤ length (bytes ++ row) = omega arith in (
          c ∙ a ∙ sym (take-append-le room (bytes ++ row) more within) ∙ ap (take room) k,
          f ∙ e ∙ over_full room (bytes ++ row) full ∙ sym (over_full room ((bytes ++ row) ++ more) long) ∙ ap (over room) k,
        )
    go (Ok u) e (c, f) (inr fits) =
        let k : (bytes ++ row) ++ more ≡ bytes ++ (row ++ more) = append_assoc bytes row more in
        let j : bytes' ++ more ≡ bytes ++ (row ++ more) = ap (λ (z : List ℕ). z ++ more) (a ∙ take_all room (bytes ++ row) fits) ∙ k in
        (c ∙ ap (take room) j, f ∙ ap (over room) j)
    go (Err r) e g (inr fits) = let h = e ∙ over_room room (bytes ++ row) fits in let z : ◌≡◌ {A = ℕ} 0 1 = cc in absurd (omega arith)
    go (Ok u) e g (inl full) = let h = e ∙ over_full room (bytes ++ row) full in let z : ◌≡◌ {A = ℕ} 0 1 = cc in absurd (omega arith)

-- fewer than eight bits wait
pub few_pending : (filled partial : ℕ) → length (pending filled partial) ≡ filled % 8
few_pending filled partial = length_bits_before (filled % 8) partial [] ∙ omega arith

pub packs_nothing : (room : ℕ) (bytes : List ℕ) (outcome : Outcome) (filled partial : ℕ) → Sound bytes room →
    Packs room bytes outcome (pending filled partial) [] room bytes outcome (pending filled partial)
packs_nothing room bytes outcome filled partial sound =
    let waits : List Bool = pending filled partial in
    let short : length waits < 8 = omega (arith, few_pending filled partial) in
    let e : waits ++ [] ≡ waits = append-nil waits in
    record {
      capacity = refl;
      given = subst (λ (z : List ℕ). Gave room bytes outcome z bytes outcome) (sym (ap whole e ∙ none_whole waits short)) (gave_none room bytes outcome sound.within);
      waiting = sym (ap left e ∙ all_left waits short);
    }

pub packs_more : (room room' room'' : ℕ) (bytes bytes' bytes'' : List ℕ) (outcome outcome' outcome'' : Outcome) (waits waits' waits'' row more : List Bool) →
    Packs room bytes outcome waits row room' bytes' outcome' waits' → Packs room' bytes' outcome' waits' more room'' bytes'' outcome'' waits'' →
    Packs room bytes outcome waits (row ++ more) room'' bytes'' outcome'' waits''
packs_more room room' room'' bytes bytes' bytes'' outcome outcome' outcome'' waits waits' waits'' row more a b =
    let k : (waits ++ row) ++ more ≡ waits ++ (row ++ more) = append_assoc waits row more in
    let rows : whole (waits ++ row) ++ whole (waits' ++ more) ≡ whole (waits ++ (row ++ more)) =
    ap (λ (z : List Bool). whole (waits ++ row) ++ whole (z ++ more)) a.waiting ∙ sym (whole_append (waits ++ row) more) ∙ ap whole k in
    record {
      capacity = b.capacity ∙ a.capacity;
      given = subst (λ (z : List ℕ). Gave room bytes outcome z bytes'' outcome'') rows
          (gave_more room bytes bytes' bytes'' (whole (waits ++ row)) (whole (waits' ++ more)) outcome outcome' outcome'' a.given
          (subst (λ (z : ℕ). Gave z bytes' outcome' (whole (waits' ++ more)) bytes'' outcome'') a.capacity b.given));
      waiting = b.waiting ∙ ap (λ (z : List Bool). left (z ++ more)) a.waiting ∙ sym (left_append (waits ++ row) more) ∙ ap left k;
    }
