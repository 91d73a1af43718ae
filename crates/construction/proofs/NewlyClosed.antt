-- A new key closes the prefixes of the one before it that are not its own, the longest first. Assumes ascending keys.
use Rattle.std.proofs.Common.{◌≡◌, ℕ, ◌<◌, true, List, [], ◌∷◌, ◌++◌, sym, refl, ap, ◌∙◌, subst, inl, inr, append_assoc, arith}
use mathlib.Core.Option.{Option, none, some}
use Rattle.machines.specs.Lists.{Each}
use Rattle.machines.specs.Keys.{Key, lower, past}
use Rattle.machines.specs.Pairs.{Pairs, KeyPrefix, key_prefixes, Ascending}
use Rattle.machines.specs.Memory.{newest, closed_prefixes}
use Rattle.machines.proofs.Lists.{In, each_in}
use Rattle.machines.proofs.Under.{past_append, past_some}
use Rattle.machines.proofs.Membership.{in_key_prefixes}
use Rattle.machines.proofs.Postorder.{Sorted, prefixes_sorted}
use Rattle.machines.proofs.OneMore.{newest_end}
use Rattle.construction.proofs.Lists.{in_either}
use Rattle.construction.proofs.OneMore.{HeadBelow, Leaves, between, prefix_left, prefix_either, newest_prefix, newest_below, ascending_left}
use Rattle.construction.proofs.SortedPrefixes.{sorted_left, sorted_equal, beyond, beyond_append, Beyond, each_beyond}
use Rattle.construction.proofs.ClosedPrefixes.{past_apart, opened, each_opened, up_to, all_prefixes, each_closed_prefix, is_closed}

never : (o : Option Key) (t : Key) → o ≡ none → o ≡ some t → ⊥
never o t p q = let z : ◌≡◌ {A = ℕ} 0 1 = cc in omega arith

-- one pair has closed nothing
pub closed_one : {A : Type 0} (e : Key × A) → closed_prefixes (e ∷ []) ≡ []
closed_one e = go (closed_prefixes (e ∷ [])) (each_closed_prefix (e ∷ []) (tt, tt) e.0 refl)
  where
    go : (vs : List Key) → Each (λ v. KeyPrefix (e ∷ []) v × (past v e.0 ≡ none)) vs → vs ≡ []
    go [] h = refl
    go (v ∷ vs) h = absurd (elim (prefix_either [] e v h.0.0) [
      | inl s ↦ let o : ◌≡◌ {A = ℕ} 0 1 = cc s.2 in omega arith
      | inr d ↦ never (past v e.0) d.0 h.0.1 d.1
    ])

module _ {A : Type 0} (P : Pairs A) (e : Key × A) (ascending : Ascending (P ++ (e ∷ []))) (w : Key) (newest_is : newest P ≡ some w) (l : Leaves w e.0) where
  before' : Ascending P
  before' = ascending_left P (e ∷ []) ascending

  abbrev held : List Key
  held = closed_prefixes P ++ beyond l.shared l.old

  parted : key_prefixes P ≡ held ++ opened l.shared
  parted =
      all_prefixes P before' w newest_is
      ∙ ap (λ v. closed_prefixes P ++ (beyond [] v ++ ([] ∷ []))) l.low_is
      ∙ ap (λ vs. closed_prefixes P ++ (vs ++ ([] ∷ []))) (beyond_append [] l.shared l.old)
      ∙ ap (λ vs. closed_prefixes P ++ vs) (append_assoc (beyond l.shared l.old) (beyond [] l.shared) ([] ∷ []))
      ∙ sym (append_assoc (closed_prefixes P) (beyond l.shared l.old) (opened l.shared))

  held_sorted : Sorted held
  held_sorted = sorted_left held (opened l.shared) (subst Sorted parted (prefixes_sorted P))

  new_sorted : Sorted (closed_prefixes (P ++ (e ∷ [])))
  new_sorted = sorted_left (closed_prefixes (P ++ (e ∷ []))) (opened e.0) (subst Sorted (all_prefixes (P ++ (e ∷ [])) ascending e.0 (newest_end P e)) (prefixes_sorted (P ++ (e ∷ []))))

  -- what is closed before stays so
  pub stays_closed : (v : Key) → KeyPrefix P v → past v w ≡ none → past v e.0 ≡ none
  stays_closed v p n = go (past v e.0) refl
    where
      go : (o : Option Key) → past v e.0 ≡ o → o ≡ none
      go none f = refl
      go (some t) f =
          let u = up_to P before' w newest_is v p in
          let b = between v u.0 w t u.1 (subst (λ x. lower w x ≡ true) (past_some v e.0 t f) (newest_below P e [] w ascending newest_is)) in
          absurd (never (past v w) b.0 n b.1)

  beyond_prefix : (v : Key) → Beyond l.shared l.old v → KeyPrefix P v
  beyond_prefix v d = newest_prefix P v d.rest (newest_is ∙ ap {B = Option Key} some (l.low_is ∙ ap (λ x. l.shared ++ x) d.of ∙ sym (append_assoc l.shared (d.byte ∷ d.more) d.rest) ∙ ap (λ x. x ++ d.rest) (sym d.is)))

  pub beyond_leaves : (v : Key) → Beyond l.shared l.old v → past v e.0 ≡ none
  beyond_leaves v d =
      let below : d.byte < l.byte = subst (HeadBelow l.byte) d.of l.below in
      ap (λ x. past x e.0) d.is ∙ ap (past (l.shared ++ (d.byte ∷ d.more))) l.key_is ∙ past_apart l.shared d.byte l.byte d.more l.new (λ q. omega arith)

  pub closed_grow : closed_prefixes (P ++ (e ∷ [])) ≡ closed_prefixes P ++ beyond l.shared l.old
  closed_grow = sorted_equal (closed_prefixes (P ++ (e ∷ []))) held new_sorted held_sorted forth back
    where
      forth : (v : Key) → In v (closed_prefixes (P ++ (e ∷ []))) → In v held
      forth v i =
          let h = each_in _ (closed_prefixes (P ++ (e ∷ []))) v (each_closed_prefix (P ++ (e ∷ [])) ascending e.0 (newest_end P e)) i in
          elim (prefix_either P e v h.0) [
            | inl p ↦ elim (in_either v held (opened l.shared) (subst (In v) parted (in_key_prefixes P v p.0 p.1 p.2))) [
              | inl j ↦ j
              | inr j ↦
                  let d = each_in _ (opened l.shared) v (each_opened l.shared) j in
                  absurd (never (past v e.0) (d.0 ++ (l.byte ∷ l.new)) h.1
                  (ap (past v) (l.key_is ∙ ap (λ x. x ++ (l.byte ∷ l.new)) d.1 ∙ append_assoc v d.0 (l.byte ∷ l.new)) ∙ past_append v (d.0 ++ (l.byte ∷ l.new))))
            ]
            | inr d ↦ absurd (never (past v e.0) d.0 h.1 d.1)
          ]

      back : (v : Key) → In v held → In v (closed_prefixes (P ++ (e ∷ [])))
      back v i = elim (in_either v (closed_prefixes P) (beyond l.shared l.old) i) [
        | inl j ↦
            let h = each_in _ (closed_prefixes P) v (each_closed_prefix P before' w newest_is) j in
            is_closed (P ++ (e ∷ [])) ascending e.0 (newest_end P e) v (prefix_left P (e ∷ []) v h.0) (stays_closed v h.0 h.1)
        | inr j ↦
            let d = each_in _ (beyond l.shared l.old) v (each_beyond l.shared l.old) j in
            is_closed (P ++ (e ∷ [])) ascending e.0 (newest_end P e) v (prefix_left P (e ∷ []) v (beyond_prefix v d)) (beyond_leaves v d)
      ]
