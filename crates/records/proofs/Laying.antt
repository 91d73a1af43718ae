-- Records laid end to end: what one has of the arcs, and what changes when one is written, popped or pushed. Assumes nothing.
use Rattle.std.proofs.Common.{◌≡◌, ℕ, zero, suc, ◌+◌, ◌-◌, ◌<◌, ◌≤◌, List, [], ◌∷◌, ◌++◌, length, get_or, set, sym, ap, ◌∙◌, subst, arith}
use Rattle.records.specs.declared.record.State.{State}
use Rattle.records.specs.Lying.{Led, Laid, Since, Placed, Packed}

module _ {O : Type 0} where
  pub led_at : (n : ℕ) (ss : List (State O)) (i : ℕ) (x : State O) → i < length ss → Led n ss → x ≡ get_or ss i x → (x.first + x.count ≤ n) × (0 < x.count)
  led_at n [] i x h l e = absurd (omega arith)
  led_at n (s ∷ ss) zero x h l e = let f = ap (λ (y : State O). y.first + y.count) e in let k = ap (λ (y : State O). y.count) e in (omega (arith, l.0), omega (arith, l.1))
  led_at n (s ∷ ss) (suc i) x h l e = let r = led_at s.first ss i x (omega arith) l.2 e in (omega (arith, l.0, r.0), r.1)

  pub laid_at : (n : ℕ) (ss : List (State O)) (i : ℕ) (x : State O) → i < length ss → Laid n ss → x ≡ get_or ss i x → (x.first + x.count ≤ n) × (0 < i → 0 < x.count)
  laid_at n [] i x h l e = absurd (omega arith)
  laid_at n (s ∷ ss) zero x h l e = let f = ap (λ (y : State O). y.first + y.count) e in (omega (arith, l.0), λ z. absurd (omega arith))
  laid_at n (s ∷ ss) (suc i) x h l e = let r = led_at s.first ss i x (omega arith) l.1 e in (omega (arith, l.0, r.0), λ z. r.1)

  pub led_set : (n : ℕ) (ss : List (State O)) (i : ℕ) (x y : State O) → Led n ss → y ≡ get_or ss i y → x.first ≡ y.first → x.count ≡ y.count → Led n (set ss i x)
  led_set n [] i x y l e f k = l
  led_set n (s ∷ ss) zero x y l e f k =
      let a : x.first ≡ s.first = f ∙ ap (λ (z : State O). z.first) e in
      let b : x.count ≡ s.count = k ∙ ap (λ (z : State O). z.count) e in
      (omega (arith, l.0), omega (arith, l.1), subst (λ (m : ℕ). Led m ss) (sym a) l.2)
  led_set n (s ∷ ss) (suc i) x y l e f k = (l.0, l.1, led_set s.first ss i x y l.2 e f k)

  pub laid_set : (n : ℕ) (ss : List (State O)) (i : ℕ) (x y : State O) → Laid n ss → y ≡ get_or ss i y → x.first ≡ y.first → x.count ≡ y.count → Laid n (set ss i x)
  laid_set n [] i x y l e f k = l
  laid_set n (s ∷ ss) zero x y l e f k =
      let a : x.first ≡ s.first = f ∙ ap (λ (z : State O). z.first) e in
      let b : x.count ≡ s.count = k ∙ ap (λ (z : State O). z.count) e in
      (omega (arith, l.0), subst (λ (m : ℕ). Led m ss) (sym a) l.1)
  laid_set n (s ∷ ss) (suc i) x y l e f k = (l.0, led_set s.first ss i x y l.1 e f k)

  -- the newest record gets one more arc
  pub led_more : (n : ℕ) (ss : List (State O)) (x y : State O) → 0 < length ss → Laid n ss → y ≡ get_or ss 0 y → x.first ≡ y.first → x.count ≡ y.count + 1 → Led (n + 1) (set ss 0 x)
  led_more n [] x y h l e f k = absurd (omega arith)
  led_more n (s ∷ ss) x y h l e f k =
      let a : x.first ≡ s.first = f ∙ ap (λ (z : State O). z.first) e in
      let b : y.count ≡ s.count = ap (λ (z : State O). z.count) e in
      (omega (arith, l.0), omega arith, subst (λ (m : ℕ). Led m ss) (sym a) l.1)

  pub led_laid : (n : ℕ) (ss : List (State O)) → Led n ss → Laid n ss
  led_laid n [] l = l
  led_laid n (s ∷ ss) l = (l.0, l.2)

  -- the newest record goes
  pub laid_pop : (n m : ℕ) (s : State O) (ss : List (State O)) → Laid n (s ∷ ss) → m ≡ n - s.count → Laid m ss
  laid_pop n m s ss l e = let d : m ≡ s.first = omega (arith, l.0) in led_laid m ss (subst (λ (k : ℕ). Led k ss) (sym d) l.1)

  pub led_some : (n : ℕ) (ss : List (State O)) → 0 < length ss → Led n ss → 0 < n
  led_some n [] h l = absurd (omega arith)
  led_some n (s ∷ ss) h l = omega (arith, l.0, l.1)

  pub pop_some : (n m : ℕ) (s : State O) (ss : List (State O)) → Laid n (s ∷ ss) → m ≡ n - s.count → 0 < length ss → 0 < m
  pop_some n m s ss l e h = let d : m ≡ s.first = omega (arith, l.0) in led_some m ss h (subst (λ (k : ℕ). Led k ss) (sym d) l.1)

  pub since_set : (p : ℕ) (ss : List (State O)) (i : ℕ) (x : State O) → Since p ss → x.keys ≤ p → Since p (set ss i x)
  since_set p [] i x s k = tt
  since_set p (y ∷ ss) zero x s k = (k, s.1)
  since_set p (y ∷ ss) (suc i) x s k = (s.0, since_set p ss i x s.1 k)

  pub since_at : (p : ℕ) (ss : List (State O)) (i : ℕ) (x : State O) → i < length ss → Since p ss → x ≡ get_or ss i x → x.keys ≤ p
  since_at p [] i x h s e = absurd (omega arith)
  since_at p (y ∷ ss) zero x h s e = let k = ap (λ (z : State O). z.keys) e in omega (arith, s.0)
  since_at p (y ∷ ss) (suc i) x h s e = since_at p ss i x (omega arith) s.1 e

  pub since_more : (p q : ℕ) (ss : List (State O)) → p ≤ q → Since p ss → Since q ss
  since_more p q [] h s = tt
  since_more p q (y ∷ ss) h s = (omega (arith, s.0), since_more p q ss h s.1)

  pub placed_at : (n : ℕ) (ss : List (State O)) (i : ℕ) (x : State O) → i < length ss → Placed n ss → x ≡ get_or ss i x → (x.first ≤ n) × (x.count ≤ x.first)
  placed_at n [] i x h p e = absurd (omega arith)
  placed_at n (y ∷ ss) zero x h p e = let f = ap (λ (z : State O). z.first) e in let k = ap (λ (z : State O). z.count) e in (omega (arith, p.0), omega (arith, p.1))
  placed_at n (y ∷ ss) (suc i) x h p e = placed_at n ss i x (omega arith) p.2 e

  pub packed_up : (a n : ℕ) (ss : List (State O)) → Packed a n ss → a ≤ n
  packed_up a n [] p = omega (arith, p)
  packed_up a n (s ∷ ss) p = omega (arith, p.0, packed_up s.first n ss p.1)

  pub packed_placed : (a n : ℕ) (ss : List (State O)) → Packed a n ss → Placed n ss
  packed_placed a n [] p = tt
  packed_placed a n (s ∷ ss) p = (packed_up s.first n ss p.1, omega (arith, p.0), packed_placed s.first n ss p.1)

  -- one more state is closed
  pub packed_push : (a n m : ℕ) (ss : List (State O)) (t : State O) → Packed a n ss → t.first ≡ m → m ≡ n + t.count → Packed a m (ss ++ (t ∷ []))
  packed_push a n m [] t p f k = (omega (arith, p), f)
  packed_push a n m (s ∷ ss) t p f k = (p.0, packed_push s.first n m ss t p.1 f k)
