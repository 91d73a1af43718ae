-- A field and an output of a store, as steps of load. Assumes nothing.
use Rattle.std.proofs.Common.{◌≡◌, ℕ, ◌+◌, ◌/◌, ◌^◌, ◌<◌, ◌≤◌, max, Bool, List, ◌++◌, length, drop, IfOk, IsErrAnd, MatchResult, Ok, Err, Result, sym, refl, ap, ◌∙◌, subst, arith, length-append, length-drop, le-leb}
use mathlib.Core.Option.{some}
use borrow.Author.Tests.{lt-leb}
use Rattle.outputs.specs.Bits.{spread}
use Rattle.outputs.specs.Fields.{Field, field_width}
use Rattle.outputs.specs.Kinds.{Kind, Laws, Reading, got, begun, no_code}
use Rattle.outputs.specs.Joins.{Read}
use Rattle.outputs.specs.declared.source.Unread.{Unread}
use Rattle.outputs.specs.TextLaws.{length_spread}
use Rattle.stores.specs.declared.Refusal as Stores
use Rattle.fields.specs.declared.reading.Cut as Fields
use Rattle.fields.specs.Reads.{missing, cut_at}
use Rattle.images.specs.Steps.{Refusal, cut, field, field_if, output, output_if}
use Rattle.loading.specs.declared.refusal.LoadRefusal.{LoadRefusal}
use Rattle.loading.specs.declared.refusal.LoadRefusal.TheVariants.{Cut}
use Rattle.loading.specs.Refusals.{reported, unread_at}
use Rattle.loading.specs.Answers.{Answers}

-- what a store says of a field that is cut is what load reports
pub cut_reported : (bytes : List ℕ) (p : ℕ) → reported (Cut (cut_at p bytes)) ≡ cut (spread bytes) p
cut_reported bytes p =
    let e : length bytes ≡ length (spread bytes) / 8 = omega (arith, length_spread bytes) in
    ap {A = ℕ} {B = Refusal} (λ n. record { number = 16; place = p; missing = some (max (p / 8) n) }) e

width_stays : (w : ℕ) → 0 < w → w ≤ 32 → field_width w ≡ w
width_stays w l h = omega arith

-- a field that is there
pub field_reads : (bytes : List ℕ) (p w v : ℕ) → 0 < w → w ≤ 32 → Field {E = Fields.Cut} (spread bytes) p (field_width w) (cut_at p bytes) (Ok v) →
    Answers {X = ℕ} {Y = ℕ} (λ x y. x ≡ y) (field (spread bytes) w p) (Ok (v, p + w)) × ((v < 2 ^ w) × (p + w ≡ p + w) × (p + w ≤ length (spread bytes)))
unfolding field
field_reads bytes p w v l h t =
    let all : List Bool = spread bytes in
    let t' : Field {E = Fields.Cut} all p w (cut_at p bytes) (Ok v) = subst (λ (n : ℕ). Field {E = Fields.Cut} all p n (cut_at p bytes) (Ok v)) (width_stays w l h) t in (
      subst (λ (b : Bool). Answers {X = ℕ} {Y = ℕ} (λ x y. x ≡ y) (field_if all w p b) (Ok (v, p + w))) (sym (le-leb (p + w) (length all) t'.0)) (t'.2, refl),
      (t'.3, refl, t'.0),
    )

-- a field that runs past the end
pub field_refuses : (bytes : List ℕ) (p w : ℕ) (e : Fields.Cut) → 0 < w → w ≤ 32 → Field {E = Fields.Cut} (spread bytes) p (field_width w) (cut_at p bytes) (Err e) →
    Answers {X = ℕ} {Y = ℕ} (λ x y. x ≡ y) (field (spread bytes) w p) (Err (Cut e))
unfolding field
field_refuses bytes p w e l h t =
    let all : List Bool = spread bytes in
    let t' : Field {E = Fields.Cut} all p w (cut_at p bytes) (Err e) = subst (λ (n : ℕ). Field {E = Fields.Cut} all p n (cut_at p bytes) (Err e)) (width_stays w l h) t in
    subst (λ (b : Bool). Answers {X = ℕ} {Y = ℕ} (λ x y. x ≡ y) (field_if all w p b) (Err (Cut e))) (sym (lt-leb (p + w) (length all) t'.0))
    (ap {A = Fields.Cut} {B = Refusal} (λ z. reported (Cut z)) t'.1 ∙ cut_reported bytes p)

module _ {Y : Type 0} (k : Kind) (m : Y → k.Ideal) (bytes : List ℕ) (p : ℕ) where
  abbrev By : Y → k.Ideal → Type 0
  By y x = m y ≡ x

  -- an output that is read, from a place within the bits
  pub output_reads : Laws k → p ≤ length (spread bytes) → (y : Y × ℕ) → Read {E = Stores.Refusal} k m (k.read (drop p (spread bytes))) p (missing p bytes) (Ok y) →
      Answers By (output (spread bytes) k p) (Ok y) × ((y.1 ≤ length (spread bytes)) × (y.1 < 2 ^ 32))
  unfolding output
  output_reads laws inside y = go (k.read (drop p (spread bytes))) refl
    where
      go : (s : Reading k.Ideal) → k.read (drop p (spread bytes)) ≡ s → Read {E = Stores.Refusal} k m s p (missing p bytes) (Ok y) →
          Answers By (output_if (spread bytes) k p s) (Ok y) × ((y.1 ≤ length (spread bytes)) × (y.1 < 2 ^ 32))
      go (got x more) e h =
          let f : length (drop p (spread bytes)) ≡ length (k.code x ++ more) = ap length (laws.read_got (drop p (spread bytes)) x more e).1 in
          ((h.0, h.1), (omega (arith, h.1, f, length-drop p (spread bytes), length-append (k.code x) more), h.2))
      go begun e h = absurd h
      go no_code e h = absurd h

  -- and one that is not
  pub output_refuses : (e : Unread Stores.Refusal) → Read {E = Stores.Refusal} k m (k.read (drop p (spread bytes))) p (missing p bytes) (Err e) →
      Answers By (output (spread bytes) k p) (Err (unread_at p e))
  unfolding output
  output_refuses e = go (k.read (drop p (spread bytes)))
    where
      go : (s : Reading k.Ideal) → Read {E = Stores.Refusal} k m s p (missing p bytes) (Err e) → Answers By (output_if (spread bytes) k p s) (Err (unread_at p e))
      go (got x more) h = absurd h
      go begun h = ap {A = Unread Stores.Refusal} {B = Refusal} (λ z. reported (unread_at p z)) h ∙ cut_reported bytes p
      go no_code h = ap {A = Unread Stores.Refusal} {B = Refusal} (λ z. reported (unread_at p z)) h

  -- either, with the refusal turned into load's
  pub output_told : Laws k → p ≤ length (spread bytes) → (r : Result (Y × ℕ) (Unread Stores.Refusal)) (t : Result (Y × ℕ) LoadRefusal) (Turned : Unread Stores.Refusal → LoadRefusal → Type 0)
      → Read {E = Stores.Refusal} k m (k.read (drop p (spread bytes))) p (missing p bytes) r → MatchResult r (λ y. t ≡ Ok y) (λ e. IsErrAnd t (Turned e)) → ((e : Unread Stores.Refusal) (d : LoadRefusal) → Turned e d → d ≡ unread_at p e)
      → Answers By (output (spread bytes) k p) t × IfOk t (λ v. (v.1 ≤ length (spread bytes)) × (v.1 < 2 ^ 32))
  output_told laws inside (Ok y) (Ok z) Turned h e turned =
      let f : z ≡ y = cc in
      subst (λ (y : Y × ℕ). Answers By (output (spread bytes) k p) (Ok y) × ((y.1 ≤ length (spread bytes)) × (y.1 < 2 ^ 32))) (sym f) (output_reads laws inside y h)
  output_told laws inside (Ok y) (Err d) Turned h e turned = cc
  output_told laws inside (Err e) (Ok z) Turned h b turned = absurd b
  output_told laws inside (Err e) (Err d) Turned h b turned =
      (subst (λ (d : LoadRefusal). Answers By (output (spread bytes) k p) (Err d)) (sym (turned e d b)) (output_refuses e h), tt)
