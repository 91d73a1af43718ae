-- Facts of runs: one entry more, and what holds of the pairs taken. Assumes nothing.
use Rattle.std.proofs.Common.{◌≡◌, ℕ, suc, ◌+◌, ◌≤◌, Bool, true, false, not, ltb, leb, ◌⊎◌, List, [], ◌∷◌, ◌++◌, length, sym, refl, ap, ◌∙◌, subst, ap₂, inl, inr, arith, length-append, ltb-false, leb-false}
use mathlib.Core.Option.{Option, none, some}
use Rattle.outputs.specs.Kinds.{Kind}
use Rattle.outputs.specs.Texts.{all_bytes}
use Rattle.machines.specs.Lists.{at}
use Rattle.machines.specs.Keys.{Key, lower, same_key}
use Rattle.machines.specs.Pairs.{Pairs, output_of, Above, Ascending, AllStorable, ByteKeys, ShortKeys}
use Rattle.machines.specs.Memory.{not_above, held_states, held_arcs, growth, refusal}
use Rattle.machines.specs.Runs.{put_unless, taken, told}
use Rattle.machines.proofs.Order.{lower_trans, lower_irrefl, same_key_true, head_found, tail_found}

module _ (k : Kind) (S A : ℕ) where
  pub taken_more : (P es : Pairs k.Ideal) (e : Key × k.Ideal) → taken k S A P (es ++ (e ∷ [])) ≡ put_unless (refusal k S A (taken k S A P es) e.0) (taken k S A P es) e
  taken_more P [] e = refl
  taken_more P (x ∷ es) e = taken_more (put_unless (refusal k S A P x.0) P x) es e

  pub told_more : (P es : Pairs k.Ideal) (e : Key × k.Ideal) → told k S A P (es ++ (e ∷ [])) ≡ told k S A P es ++ (refusal k S A (taken k S A P es) e.0 ∷ [])
  told_more P [] e = refl
  told_more P (x ∷ es) e = ap {B = List (Option ℕ)} (λ l. refusal k S A P x.0 ∷ l) (told_more (put_unless (refusal k S A P x.0) P x) es e)

  pub each_told : (P es : Pairs k.Ideal) → length (told k S A P es) ≡ length es
  each_told P [] = refl
  each_told P (e ∷ es) = ap suc (each_told (put_unless (refusal k S A P e.0) P e) es)

  -- each entry finds what its those in front left
  pub told_at : (P before : Pairs k.Ideal) (e : Key × k.Ideal) (after : Pairs k.Ideal) → at (told k S A P (before ++ (e ∷ after))) (length before) ≡ some (refusal k S A (taken k S A P before) e.0)
  told_at P [] e after = refl
  told_at P (x ∷ before) e after = told_at (put_unless (refusal k S A P x.0) P x) before e after

  put_refused : (o : Option ℕ) (n : ℕ) (P : Pairs k.Ideal) (e : Key × k.Ideal) → o ≡ some n → put_unless o P e ≡ P
  put_refused none n P e f = let z : ◌≡◌ {A = ℕ} 0 1 = cc in absurd (omega arith)
  put_refused (some m) n P e f = refl

  -- a refused entry leaves nothing behind: the later ones are told what they would have been told without it
  pub taken_skip : (P before : Pairs k.Ideal) (e : Key × k.Ideal) (after : Pairs k.Ideal) (n : ℕ) → refusal k S A (taken k S A P before) e.0 ≡ some n → taken k S A P (before ++ (e ∷ after)) ≡ taken k S A P (before ++ after)
  taken_skip P [] e after n f = ap (λ Q. taken k S A Q after) (put_refused (refusal k S A P e.0) n P e f)
  taken_skip P (x ∷ before) e after n f = taken_skip (put_unless (refusal k S A P x.0) P x) before e after n f

  pub told_skip : (P before : Pairs k.Ideal) (e : Key × k.Ideal) (after : Pairs k.Ideal) (n : ℕ) → refusal k S A (taken k S A P before) e.0 ≡ some n
      → told k S A P (before ++ (e ∷ after)) ≡ told k S A P before ++ (some n ∷ told k S A (taken k S A P before) after)
  told_skip P [] e after n f = ap₂ {C = List (Option ℕ)} (λ o l. o ∷ l) f (ap (λ Q. told k S A Q after) (put_refused (refusal k S A P e.0) n P e f))
  told_skip P (x ∷ before) e after n f = ap {B = List (Option ℕ)} (λ l. refusal k S A P x.0 ∷ l) (told_skip (put_unless (refusal k S A P x.0) P x) before e after n f)

  -- the later ones find what the earlier ones left
  pub told_split : (P before after : Pairs k.Ideal) → told k S A P (before ++ after) ≡ told k S A P before ++ told k S A (taken k S A P before) after
  told_split P [] after = refl
  told_split P (x ∷ before) after = ap {B = List (Option ℕ)} (λ l. refusal k S A P x.0 ∷ l) (told_split (put_unless (refusal k S A P x.0) P x) before after)

  -- what passes the five tests
  passed : (P : Pairs k.Ideal) (key : Key) → refusal k S A P key ≡ none → (ltb 64 (length key) ≡ false) × (not_above P key ≡ false) × (leb 1048575 (length P) ≡ false)
  unfolding refusal
  passed P key e = go (ltb 64 (length key)) (not_above P key) (leb 1048575 (length P)) e
    where
      go : (s t v : Bool)
          → ◌≡◌ {A = Option ℕ} (elim s [
            | true ↦ some 5
            | false ↦ elim t [
              | true ↦ some 6
              | false ↦
                  elim v [
                    | true ↦ some 7
                    | false ↦
                        elim (ltb S (held_states k P + growth P key)) [
                          | true ↦ some 8
                          | false ↦
                              elim (ltb A (held_arcs k P + growth P key)) [ true ↦ some 9 | false ↦ none ]
                        ]
                  ]
            ]
          ]) none
          → (s ≡ false) × (t ≡ false) × (v ≡ false)
      go true t v f = let o : ◌≡◌ {A = ℕ} 0 1 = cc in absurd (omega arith)
      go false true v f = let o : ◌≡◌ {A = ℕ} 0 1 = cc in absurd (omega arith)
      go false false true f = let o : ◌≡◌ {A = ℕ} 0 1 = cc in absurd (omega arith)
      go false false false f = (refl, refl, refl)

pub is_true : (b : Bool) → not b ≡ false → b ≡ true
is_true true e = refl
is_true false e = sym e

module _ (k : Kind) where
  -- a key above the newest goes to the end
  ascending_end : (P : Pairs k.Ideal) (e : Key × k.Ideal) → Ascending P → not_above P e.0 ≡ false → Ascending (P ++ (e ∷ []))
  ascending_end [] e h f = (tt, tt)
  ascending_end (p ∷ []) e h f = ((is_true (lower p.0 e.0) f, tt), (tt, tt))
  ascending_end (p ∷ q ∷ P) e h f =
      let deep : Ascending ((q ∷ P) ++ (e ∷ [])) = ascending_end (q ∷ P) e h.1 f in
      (above_end (q ∷ P) h.0 (lower_trans p.0 q.0 e.0 h.0.0 (head_below q P deep)), deep)
    where
      above_end : (Q : Pairs k.Ideal) → Above p.0 Q → lower p.0 e.0 ≡ true → Above p.0 (Q ++ (e ∷ []))
      above_end [] a l = (l, tt)
      above_end (x ∷ Q) a l = (a.0, above_end Q a.1 l)

      last_above : (x : Key × k.Ideal) (Q : Pairs k.Ideal) → Above x.0 (Q ++ (e ∷ [])) → lower x.0 e.0 ≡ true
      last_above x [] a = a.0
      last_above x (y ∷ Q) a = last_above x Q a.1

      head_below : (x : Key × k.Ideal) (Q : Pairs k.Ideal) → Ascending ((x ∷ Q) ++ (e ∷ [])) → lower x.0 e.0 ≡ true
      head_below x Q a = last_above x Q a.0

  storable_end : (P : Pairs k.Ideal) (e : Key × k.Ideal) → AllStorable k P → k.storable e.1 ≡ true → AllStorable k (P ++ (e ∷ []))
  storable_end [] e h s = (s, tt)
  storable_end (p ∷ P) e h s = (h.0, storable_end P e h.1 s)

  bytes_end : (P : Pairs k.Ideal) (e : Key × k.Ideal) → ByteKeys P → all_bytes e.0 ≡ true → ByteKeys (P ++ (e ∷ []))
  bytes_end [] e h s = (s, tt)
  bytes_end (p ∷ P) e h s = (h.0, bytes_end P e h.1 s)

  module _ (S A : ℕ) where
    pub ascending_put : (P : Pairs k.Ideal) (e : Key × k.Ideal) (o : Option ℕ) → refusal k S A P e.0 ≡ o → Ascending P → Ascending (put_unless o P e)
    ascending_put P e none f h = ascending_end P e h (passed k S A P e.0 f).1
    ascending_put P e (some n) f h = h

    pub ascending_taken : (P es : Pairs k.Ideal) → Ascending P → Ascending (taken k S A P es)
    ascending_taken P [] h = h
    ascending_taken P (e ∷ es) h = ascending_taken (put_unless (refusal k S A P e.0) P e) es (ascending_put P e (refusal k S A P e.0) refl h)

    pub storable_put : (P : Pairs k.Ideal) (e : Key × k.Ideal) (o : Option ℕ) → AllStorable k P → k.storable e.1 ≡ true → AllStorable k (put_unless o P e)
    storable_put P e none h s = storable_end P e h s
    storable_put P e (some n) h s = h

    pub storable_taken : (P es : Pairs k.Ideal) → AllStorable k P → AllStorable k es → AllStorable k (taken k S A P es)
    storable_taken P [] h s = h
    storable_taken P (e ∷ es) h s = storable_taken (put_unless (refusal k S A P e.0) P e) es (storable_put P e (refusal k S A P e.0) h s.0) s.1

    short_end : (P : Pairs k.Ideal) (e : Key × k.Ideal) → ShortKeys P → length e.0 ≤ 64 → ShortKeys (P ++ (e ∷ []))
    short_end [] e h s = (s, tt)
    short_end (p ∷ P) e h s = (h.0, short_end P e h.1 s)

    short_put : (P : Pairs k.Ideal) (e : Key × k.Ideal) (o : Option ℕ) → refusal k S A P e.0 ≡ o → ShortKeys P → ShortKeys (put_unless o P e)
    short_put P e none f h = short_end P e h (ltb-false 64 (length e.0) (passed k S A P e.0 f).0)
    short_put P e (some n) f h = h

    pub short_taken : (P es : Pairs k.Ideal) → ShortKeys P → ShortKeys (taken k S A P es)
    short_taken P [] h = h
    short_taken P (e ∷ es) h = short_taken (put_unless (refusal k S A P e.0) P e) es (short_put P e (refusal k S A P e.0) refl h)

    few_put : (P : Pairs k.Ideal) (e : Key × k.Ideal) (o : Option ℕ) → refusal k S A P e.0 ≡ o → length P ≤ 1048575 → length (put_unless o P e) ≤ 1048575
    few_put P e none f h = rw (length-append P (e ∷ [])) (omega (arith, leb-false 1048575 (length P) (passed k S A P e.0 f).2))
    few_put P e (some n) f h = h

    pub few_taken : (P es : Pairs k.Ideal) → length P ≤ 1048575 → length (taken k S A P es) ≤ 1048575
    few_taken P [] h = h
    few_taken P (e ∷ es) h = few_taken (put_unless (refusal k S A P e.0) P e) es (few_put P e (refusal k S A P e.0) refl h)

    bytes_put : (P : Pairs k.Ideal) (e : Key × k.Ideal) (o : Option ℕ) → ByteKeys P → all_bytes e.0 ≡ true → ByteKeys (put_unless o P e)
    bytes_put P e none h s = bytes_end P e h s
    bytes_put P e (some n) h s = h

    pub bytes_taken : (P es : Pairs k.Ideal) → ByteKeys P → ByteKeys es → ByteKeys (taken k S A P es)
    bytes_taken P [] h s = h
    bytes_taken P (e ∷ es) h s = bytes_taken (put_unless (refusal k S A P e.0) P e) es (bytes_put P e (refusal k S A P e.0) h s.0) s.1

    -- what is found stays found
    found_stays : (P Q : Pairs k.Ideal) (w : Key) (z : k.Ideal) → output_of P w ≡ some z → output_of (P ++ Q) w ≡ some z
    found_stays [] Q w z f = let o : ◌≡◌ {A = ℕ} 0 1 = cc in absurd (omega arith)
    found_stays (p ∷ P) Q w z f = go (same_key p.0 w) f (found_stays P Q w z)
      where
        go : (t : Bool) → ◌≡◌ {A = Option k.Ideal} (elim t [ true ↦ some p.1 | false ↦ output_of P w ]) (some z) → (output_of P w ≡ some z → output_of (P ++ Q) w ≡ some z)
            → ◌≡◌ {A = Option k.Ideal} (elim t [ true ↦ some p.1 | false ↦ output_of (P ++ Q) w ]) (some z)
        go true e deep = e
        go false e deep = deep e

    put_stays : (o : Option ℕ) (P : Pairs k.Ideal) (e : Key × k.Ideal) (w : Key) (z : k.Ideal) → output_of P w ≡ some z → output_of (put_unless o P e) w ≡ some z
    put_stays none P e w z f = found_stays P (e ∷ []) w z f
    put_stays (some n) P e w z f = f

    taken_stays : (P es : Pairs k.Ideal) (w : Key) (z : k.Ideal) → output_of P w ≡ some z → output_of (taken k S A P es) w ≡ some z
    taken_stays P [] w z f = f
    taken_stays P (e ∷ es) w z f = taken_stays (put_unless (refusal k S A P e.0) P e) es w z (put_stays (refusal k S A P e.0) P e w z f)

    -- the last of ascending pairs is found
    last_found : (P : Pairs k.Ideal) (e : Key × k.Ideal) → Ascending (P ++ (e ∷ [])) → output_of (P ++ (e ∷ [])) e.0 ≡ some e.1
    last_found [] e a = head_found e []
    last_found (p ∷ P) e a = tail_found p (P ++ (e ∷ [])) e.0 (differs (same_key p.0 e.0) refl) ∙ last_found P e a.1
      where
        above : (Q : Pairs k.Ideal) → Above p.0 (Q ++ (e ∷ [])) → lower p.0 e.0 ≡ true
        above [] h = h.0
        above (q ∷ Q) h = above Q h.1

        differs : (t : Bool) → same_key p.0 e.0 ≡ t → t ≡ false
        differs true s = absurd (lower_irrefl e.0 (subst (λ u. lower u e.0 ≡ true) (same_key_true p.0 e.0 s) (above P a.0)))
        differs false s = refl

    put_found : (o : Option ℕ) (P : Pairs k.Ideal) (e : Key × k.Ideal) → o ≡ none → Ascending (put_unless o P e) → output_of (put_unless o P e) e.0 ≡ some e.1
    put_found none P e f a = last_found P e a
    put_found (some n) P e f a = let o : ◌≡◌ {A = ℕ} 0 1 = cc in absurd (omega arith)

    -- an entry that is not refused is taken with its output
    pub kept : (P before : Pairs k.Ideal) (e : Key × k.Ideal) (after : Pairs k.Ideal) → Ascending P → refusal k S A (taken k S A P before) e.0 ≡ none
        → output_of (taken k S A P (before ++ (e ∷ after))) e.0 ≡ some e.1
    kept P [] e after a f =
        taken_stays (put_unless (refusal k S A P e.0) P e) after e.0 e.1
        (put_found (refusal k S A P e.0) P e f (ascending_put P e (refusal k S A P e.0) refl a))
    kept P (x ∷ before) e after a f = kept (put_unless (refusal k S A P x.0) P x) before e after (ascending_put P x (refusal k S A P x.0) refl a) f

    -- the entry that a key came with
    abbrev pub CameWith : Pairs k.Ideal → Pairs k.Ideal → Key → k.Ideal → Type 0
    CameWith P es w z = (before : Pairs k.Ideal) × (after : Pairs k.Ideal) × (es ≡ before ++ ((w, z) ∷ after)) × (refusal k S A (taken k S A P before) w ≡ none)

    pub end_found : (P : Pairs k.Ideal) (e : Key × k.Ideal) (w : Key) (z : k.Ideal) → output_of (P ++ (e ∷ [])) w ≡ some z → (output_of P w ≡ some z) ⊎ (e ≡ (w, z))
    end_found [] e w z f = inr (go (same_key e.0 w) refl f)
      where
        go : (t : Bool) → same_key e.0 w ≡ t → ◌≡◌ {A = Option k.Ideal} (elim t [ true ↦ some e.1 | false ↦ none ]) (some z) → e ≡ (w, z)
        go true s g = let o : e.1 ≡ z = cc in let u = same_key_true e.0 w s in λ i. (u i, o i)
        go false s g = let o : ◌≡◌ {A = ℕ} 0 1 = cc in absurd (omega arith)
    end_found (p ∷ P) e w z f = go (same_key p.0 w) f (end_found P e w z)
      where
        go : (t : Bool) → ◌≡◌ {A = Option k.Ideal} (elim t [ true ↦ some p.1 | false ↦ output_of (P ++ (e ∷ [])) w ]) (some z)
            → (output_of (P ++ (e ∷ [])) w ≡ some z → (output_of P w ≡ some z) ⊎ (e ≡ (w, z)))
            → (◌≡◌ {A = Option k.Ideal} (elim t [ true ↦ some p.1 | false ↦ output_of P w ]) (some z)) ⊎ (e ≡ (w, z))
        go true g deep = inl g
        go false g deep = deep g

    put_from : (o : Option ℕ) (P : Pairs k.Ideal) (e : Key × k.Ideal) (w : Key) (z : k.Ideal) → output_of (put_unless o P e) w ≡ some z → (output_of P w ≡ some z) ⊎ ((e ≡ (w, z)) × (o ≡ none))
    put_from none P e w z f = elim (end_found P e w z f) [ inl g ↦ inl g | inr g ↦ inr (g, refl) ]
    put_from (some n) P e w z f = inl f

    -- what is taken came with an entry that was not refused
    pub came_with : (P es : Pairs k.Ideal) (w : Key) (z : k.Ideal) → output_of (taken k S A P es) w ≡ some z → (output_of P w ≡ some z) ⊎ CameWith P es w z
    came_with P [] w z f = inl f
    came_with P (e ∷ es) w z f = go (came_with (put_unless (refusal k S A P e.0) P e) es w z f)
      where
        go : (output_of (put_unless (refusal k S A P e.0) P e) w ≡ some z) ⊎ CameWith (put_unless (refusal k S A P e.0) P e) es w z → (output_of P w ≡ some z) ⊎ CameWith P (e ∷ es) w z
        go (inl g) = elim (put_from (refusal k S A P e.0) P e w z g) [
          | inl h ↦ inl h
          | inr h ↦ inr ([], es, ap {B = Pairs k.Ideal} (λ x. x ∷ es) h.0, ap (λ x. refusal k S A P x.0) (sym h.0) ∙ h.1)
        ]
        go (inr c) = inr (e ∷ c.0, c.1, ap {B = Pairs k.Ideal} (λ l. e ∷ l) c.2, c.3)
