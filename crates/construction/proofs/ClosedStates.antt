-- The closed states: every prefix that is closed has its class, and one pair more changes none of them. Assumes ascending keys and storable outputs.
use Rattle.std.proofs.Common.{◌≡◌, ℕ, Bool, true, false, eqb, List, [], ◌∷◌, ◌++◌, map, length, sym, refl, ap, ◌∙◌, subst, ap₂, append-nil, arith}
use mathlib.Core.Option.{Option, none, some}
use Rattle.outputs.specs.Kinds.{Kind, Laws}
use Rattle.machines.specs.Lists.{Each}
use Rattle.machines.specs.Keys.{Key, past}
use Rattle.machines.specs.Machines.{Arc, State}
use Rattle.machines.specs.Pairs.{Pairs, under, first_bytes, KeyPrefix, Ascending, AllStorable}
use Rattle.machines.specs.Memory.{newest, closed_prefixes, held_classes}
use Rattle.machines.specs.Residuals.{greatest_common, any_alike, class_in}
use Rattle.machines.specs.Minimal.{arcs_of, rest_some, end_of, state_of}
use Rattle.machines.proofs.Lists.{each_map, each_of}
use Rattle.machines.proofs.Classes.{each_first}
use Rattle.machines.proofs.Under.{past_append}
use Rattle.machines.proofs.Targets.{next_prefix}
use Rattle.machines.proofs.OneMore.{newest_end, under_end_none}
use Rattle.construction.proofs.OneMore.{Leaves, output_other}
use Rattle.construction.proofs.SortedPrefixes.{beyond}
use Rattle.construction.proofs.ClosedPrefixes.{each_closed_prefix, is_closed}
use Rattle.construction.proofs.NewlyClosed.{closed_grow}
use Rattle.construction.proofs.Commons.{common_other, residual_other}
use Rattle.construction.proofs.ClassLists.{Unchanged, held_are, enter_all, enter_append, all_entered, enter_unchanged, class_unchanged}
use Rattle.construction.proofs.AlikeStates.{Complete}
use Rattle.construction.proofs.Expected.{closed_of, arc_to}
use Rattle.construction.proofs.Settling.{HoldsClosed}

pub past_longer : (v key t : Key) → past v key ≡ none → past (v ++ t) key ≡ none
past_longer [] key t h = let o : ◌≡◌ {A = ℕ} 0 1 = cc in absurd (omega arith)
past_longer (a ∷ v) [] t h = refl
past_longer (a ∷ v) (b ∷ key) t h = go (eqb a b) h (past_longer v key t)
  where
    go : (x : Bool) → ◌≡◌ {A = Option Key} (elim x [ true ↦ past v key | false ↦ none ]) none → (past v key ≡ none → past (v ++ t) key ≡ none) → ◌≡◌ {A = Option Key} (elim x [ true ↦ past (v ++ t) key | false ↦ none ]) none
    go true f deep = deep f
    go false f deep = refl

past_differs : (v key : Key) → past v key ≡ none → key ≡ v → ⊥
past_differs v key h e =
    let p : past v key ≡ some [] = ap (past v) (e ∙ sym (append-nil v)) ∙ past_append v [] in
    let o : ◌≡◌ {A = ℕ} 0 1 = cc in omega arith

module _ (k : Kind) (laws : Laws k) (P : Pairs k.Ideal) (ascending : Ascending P) (storable : AllStorable k P) (w : Key) (newest_is : newest P ≡ some w) where
  pub each_held : Each (λ v. KeyPrefix P v × (past v w ≡ none)) (held_classes k P)
  each_held = each_first k P (λ v. KeyPrefix P v × (past v w ≡ none)) [] (closed_prefixes P) (each_closed_prefix P ascending w newest_is)

  pub holds_closed : HoldsClosed k laws P ascending storable w newest_is (held_classes k P)
  holds_closed v s n = subst (λ cs. any_alike k P v cs ≡ true) (sym (held_are k P)) (all_entered k P [] (closed_prefixes P) v (is_closed P ascending w newest_is v s n))

  closed_complete : (v : Key) → past v w ≡ none → Complete k laws P ascending storable (held_classes k P) v
  closed_complete v n = each_of _ (first_bytes (under P v)) (λ a i. holds_closed (v ++ (a ∷ [])) (next_prefix k laws P v a i) (past_longer v w (a ∷ []) n))

  pub all_complete : Each (Complete k laws P ascending storable (held_classes k P)) (held_classes k P)
  all_complete = each_map _ _ (held_classes k P) (λ v p. closed_complete v p.1) each_held

module _ (k : Kind) (P : Pairs k.Ideal) (e : Key × k.Ideal) where
  abbrev P' : Pairs k.Ideal
  P' = P ++ (e ∷ [])

  arcs_other : (cs : List Key) → Each (Unchanged k P P') cs → (v : Key) → past v e.0 ≡ none → (bs : List ℕ) → arcs_of k P cs v bs ≡ arcs_of k P' cs v bs
  arcs_other cs h v n [] = refl
  arcs_other cs h v n (b ∷ bs) =
      let m : past (v ++ (b ∷ [])) e.0 ≡ none = past_longer v e.0 (b ∷ []) n in
      let q : class_in k P cs (v ++ (b ∷ [])) ≡ class_in k P' cs (v ++ (b ∷ [])) = class_unchanged k P P' (v ++ (b ∷ [])) cs (residual_other k P e (v ++ (b ∷ [])) m) h in
      let y : k.rest (greatest_common k P v) (greatest_common k P (v ++ (b ∷ []))) ≡ k.rest (greatest_common k P' v) (greatest_common k P' (v ++ (b ∷ [])))
      = ap₂ k.rest (sym (common_other k P e v n)) (sym (common_other k P e (v ++ (b ∷ [])) m)) in
      let arc : arc_to k P (class_in k P cs (v ++ (b ∷ []))) v b ≡ arc_to k P' (class_in k P' cs (v ++ (b ∷ []))) v b = λ i. record { byte = b; target = q i; output = y i } in
      ap₂ {C = List (Arc k.Ideal)} (λ a as'. a ∷ as') arc (arcs_other cs h v n bs)

  state_other : (cs : List Key) → Each (Unchanged k P P') cs → (v : Key) → past v e.0 ≡ none → state_of k P cs v ≡ state_of k P' cs v
  state_other cs h v n =
      let x : end_of k P v ≡ end_of k P' v = ap₂ (rest_some k) (sym (common_other k P e v n)) (sym (output_other P e v (past_differs v e.0 n))) in
      let a : arcs_of k P cs v (first_bytes (under P v)) ≡ arcs_of k P' cs v (first_bytes (under P' v)) = arcs_other cs h v n (first_bytes (under P v)) ∙ ap (λ Q. arcs_of k P' cs v (first_bytes Q)) (sym (under_end_none P e v n)) in
      λ i. record { end = x i; arcs = a i }

  -- closed states stay as they are
  pub closed_other : (cs : List Key) → Each (λ v. past v e.0 ≡ none) cs → closed_of k P cs ≡ closed_of k P' cs
  closed_other cs h =
      let s = states cs h (each_map _ _ cs (λ v n. residual_other k P e v n) h) in
      let c = counts cs h in
      λ i. record { states = s i; counts = c i }
    where
      states : (vs : List Key) → Each (λ v. past v e.0 ≡ none) vs → Each (Unchanged k P P') cs → map (state_of k P cs) vs ≡ map (state_of k P' cs) vs
      states [] g u = refl
      states (v ∷ vs) g u = ap₂ {C = List (State k.Ideal)} (λ x xs. x ∷ xs) (state_other cs u v g.0) (states vs g.1 u)

      counts : (vs : List Key) → Each (λ v. past v e.0 ≡ none) vs → map (λ v. length (under P v)) vs ≡ map (λ v. length (under P' v)) vs
      counts [] g = refl
      counts (v ∷ vs) g = ap₂ {C = List ℕ} (λ x xs. x ∷ xs) (ap length (sym (under_end_none P e v g.0))) (counts vs g.1)

  module _ (ascending : Ascending P') (w : Key) (newest_is : newest P ≡ some w) (l : Leaves w e.0) where
    pub each_leaves : Each (λ v. past v e.0 ≡ none) (held_classes k P')
    each_leaves = each_first k P' (λ v. past v e.0 ≡ none) [] (closed_prefixes P') (each_map _ _ (closed_prefixes P') (λ v p. p.1) (each_closed_prefix P' ascending e.0 (newest_end P e)))

    -- the classes with one pair more
    pub classes_then : enter_all k P (held_classes k P) (beyond l.shared l.old) ≡ held_classes k P'
    classes_then =
        let grown = closed_grow P e ascending w newest_is l in
        ap (λ cs. enter_all k P cs (beyond l.shared l.old)) (held_are k P)
        ∙ sym (enter_append k P [] (closed_prefixes P) (beyond l.shared l.old))
        ∙ ap (enter_all k P []) (sym grown)
        ∙ enter_unchanged k P P' [] (closed_prefixes P') tt (each_map _ _ (closed_prefixes P') (λ v p. residual_other k P e v p.1) (each_closed_prefix P' ascending e.0 (newest_end P e)))
        ∙ sym (held_are k P')
