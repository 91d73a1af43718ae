-- Texts as lists: common prefixes, rests, and parts of a join. Assumes nothing.
use Rattle.std.specs.Prelude.{◌≡◌, ℕ, ◌≤◌, Bool, true, false, cond, List, [], ◌∷◌, ◌++◌, length, ◌==◌, nat_le, nat_lt, refl}
use Rattle.std.proofs.Common.{sym, ap, ap₂, ◌∙◌, arith, length-append, eqb-true, eq-eqb, leb-true, le-leb}
use Rattle.std.proofs.lemmas.Bool.{and_parts, and_from, cond-true}
use Rattle.outputs.specs.Kinds.{PrefixOf}
use Rattle.outputs.specs.Texts.{texts, shared, after, all_bytes}

-- of two lists with equal heads
heads : (a b : ℕ) (x y : List ℕ) → a ∷ x ≡ b ∷ y → a ≡ b
heads a b x y e = cc

tails : (a b : ℕ) (x y : List ℕ) → a ∷ x ≡ b ∷ y → x ≡ y
tails a b x y e = cc

pub shared_left : (x y : List ℕ) → PrefixOf texts (shared x y) x
shared_left [] y = ([], refl)
shared_left (a ∷ x) [] = (a ∷ x, refl)
shared_left (a ∷ x) (b ∷ y) = go (a == b) (shared_left x y)
  where
    go : (t : Bool) → PrefixOf texts (shared x y) x → PrefixOf texts (cond t (a ∷ shared x y) []) (a ∷ x)
    go true p = (p.0, ap {B = List ℕ} (λ l. a ∷ l) p.1)
    go false p = (a ∷ x, refl)

pub shared_right : (x y : List ℕ) → PrefixOf texts (shared x y) y
shared_right [] y = (y, refl)
shared_right (a ∷ x) [] = ([], refl)
shared_right (a ∷ x) (b ∷ y) = go (a == b) refl (shared_right x y)
  where
    go : (t : Bool) → (a == b) ≡ t → PrefixOf texts (shared x y) y → PrefixOf texts (cond t (a ∷ shared x y) []) (b ∷ y)
    go true e p = (p.0, ap₂ {C = List ℕ} (λ c l. c ∷ l) (eqb-true a b e) p.1)
    go false e p = (b ∷ y, refl)

pub shared_greatest : (x y b : List ℕ) → PrefixOf texts b x → PrefixOf texts b y → PrefixOf texts b (shared x y)
shared_greatest x y [] p q = (shared x y, refl)
shared_greatest [] y (c ∷ b) p q = let z : ◌≡◌ {A = List ℕ} (c ∷ (b ++ p.0)) [] = p.1 in let o : ◌≡◌ {A = ℕ} 0 1 = cc in absurd (omega arith)
shared_greatest (a ∷ x) [] (c ∷ b) p q = let z : ◌≡◌ {A = List ℕ} (c ∷ (b ++ q.0)) [] = q.1 in let o : ◌≡◌ {A = ℕ} 0 1 = cc in absurd (omega arith)
shared_greatest (a ∷ x) (d ∷ y) (c ∷ b) p q =
    let ca : c ≡ a = heads c a (b ++ p.0) x p.1 in
    let cd : c ≡ d = heads c d (b ++ q.0) y q.1 in
    let deep : PrefixOf texts b (shared x y) = shared_greatest x y b (p.0, tails c a (b ++ p.0) x p.1) (q.0, tails c d (b ++ q.0) y q.1) in (
      deep.0,
      ap₂ {C = List ℕ} (λ e l. e ∷ l) ca deep.1
          ∙ sym (cond-true (a == d) (a ∷ shared x y) [] (eq-eqb a d (sym ca ∙ cd))),
    )

pub after_is : (x y : List ℕ) → after x (x ++ y) ≡ y
after_is [] y = refl
after_is (a ∷ x) y = cond-true (a == a) (after x (x ++ y)) [] (eq-eqb a a refl) ∙ after_is x y

pub after_else : (x z : List ℕ) → (PrefixOf texts x z → ⊥) → after x z ≡ []
after_else [] z never = absurd (never (z, refl))
after_else (a ∷ x) [] never = refl
after_else (a ∷ x) (b ∷ z) never = go (a == b) refl (after_else x z)
  where
    go : (t : Bool) → (a == b) ≡ t → ((PrefixOf texts x z → ⊥) → after x z ≡ []) → cond t (after x z) [] ≡ []
    go true e deep = deep (λ p. never (p.0, ap₂ {C = List ℕ} (λ c l. c ∷ l) (eqb-true a b e) p.1))
    go false e deep = refl

pub all_bytes_append : (x y : List ℕ) → all_bytes (x ++ y) ≡ true → (all_bytes x ≡ true) × (all_bytes y ≡ true)
all_bytes_append [] y s = (refl, s)
all_bytes_append (a ∷ x) y s =
    let p = and_parts (nat_lt a 256) (all_bytes (x ++ y)) s in
    let q = all_bytes_append x y p.1 in
    (and_from (nat_lt a 256) (all_bytes x) p.0 q.0, q.1)

pub parts : (x y : List ℕ) → texts.storable (x ++ y) ≡ true → (texts.storable x ≡ true) × (texts.storable y ≡ true)
parts x y s =
    let p = and_parts (nat_le (length (x ++ y)) 24) (all_bytes (x ++ y)) s in
    let l : length (x ++ y) ≤ 24 = leb-true _ 24 p.0 in
    let q = all_bytes_append x y p.1 in (
      and_from (nat_le (length x) 24) (all_bytes x) (le-leb _ 24 (omega (arith, length-append x y))) q.0,
      and_from (nat_le (length y) 24) (all_bytes y) (le-leb _ 24 (omega (arith, length-append x y))) q.1,
    )
