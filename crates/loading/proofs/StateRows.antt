-- The loop over the records beside their definition. Assumes nothing.
use Rattle.std.proofs.Common.{◌≡◌, ℕ, suc, ◌+◌, ◌-◌, ◌<◌, Bool, List, [], ◌∷◌, ◌++◌, length, Ok, Err, sym, refl, ap, ◌∙◌, subst, ap₂, arith, length-append}
use Rattle.outputs.specs.Kinds.{Kind}
use Rattle.machines.specs.Machines.{State, count_arcs}
use Rattle.images.specs.Steps.{Step, refuses}
use Rattle.images.specs.Loads.{record_at, records}
use Rattle.images.proofs.Standing.{then_reads, then_none}
use Rattle.loading.specs.declared.refusal.LoadRefusal.{LoadRefusal}
use Rattle.loading.specs.Refusals.{reported}
use Rattle.loading.specs.Answers.{Answers}
use Rattle.loading.specs.Working.{RecordRead, RecordsRead, Kept, Noted}
use Rattle.loading.proofs.Walking.{has_read, has_refused, is_read}
use Rattle.loading.proofs.Keeping.{count_more, kept_none, kept_more}

-- q records are read: the definition from the start is the definition from here on
pub record Walked (k : Kind) (all : List Bool) (index n p₀ q count p : ℕ) (w : List ℕ) : Type 0 where
  pub done : List (State k.Ideal)
  pub ahead : records k all index 0 n [] p₀ ≡ records k all index q (n - q) done p
  pub many : length done ≡ q
  pub arcs : count ≡ count_arcs done
  pub kept : Kept w done

module _ (k : Kind) (all : List Bool) (index n p₀ : ℕ) where
  pub begins : (w : List ℕ) → Walked k all index n p₀ 0 0 p₀ w
  begins w =
      let e : n ≡ n - 0 = omega arith in
      record { done = []; ahead = ap (λ (m : ℕ). records k all index 0 m [] p₀) e; many = refl; arcs = refl; kept = kept_none w }

  module _ (q count p : ℕ) (w : List ℕ) (h : Walked k all index n p₀ q count p w) where
    abbrev here : ℕ → Step (List (State k.Ideal))
    here m = records k all index q m h.done p

    abbrev rest : State k.Ideal → ℕ → Step (List (State k.Ideal))
    rest s = records k all index (suc q) (n - (q + 1)) (h.done ++ (s ∷ []))

    -- the record at p is read
    pub more : (y : ℕ × ℕ) (w' : List ℕ) → q < n → Answers {X = State k.Ideal} {Y = ℕ} (RecordRead q w w') (record_at k all index q p) (Ok y) → Walked k all index n p₀ (q + 1) (count + y.0) y.1 w'
    unfolding records
    more y w' l a =
        let f = has_read {X = State k.Ideal} {Y = ℕ} (RecordRead q w w') (record_at k all index q p) y a in
        let s : State k.Ideal = f.0 in
        let e : n - q ≡ suc (n - (q + 1)) = omega arith in
        let b : suc q ≡ q + 1 = omega arith in
        let z : Noted w w' (length h.done) s.arcs = subst (λ (m : ℕ). Noted w w' m s.arcs) (sym h.many) f.1.1.noted in
        record {
          done = h.done ++ (s ∷ []);
          ahead = h.ahead ∙ ap here e ∙ then_reads (record_at k all index q) rest p y.1 s f.1.0 ∙ ap (λ (m : ℕ). records k all index m (n - (q + 1)) (h.done ++ (s ∷ [])) y.1) b;
          many = length-append h.done (s ∷ []) ∙ ap (λ (m : ℕ). m + 1) h.many;
          arcs = ap₂ (λ (a b : ℕ). a + b) h.arcs f.1.1.many ∙ sym (count_more h.done s);
          kept = kept_more w w' h.done s h.kept z;
        }

    -- the record at p is refused
    pub stops : (w' : List ℕ) (d : LoadRefusal) → q < n → Answers {X = State k.Ideal} {Y = ℕ} (RecordRead q w w') (record_at k all index q p) (Err d) → records k all index 0 n [] p₀ ≡ refuses (reported d)
    unfolding records
    stops w' d l a =
        let e : n - q ≡ suc (n - (q + 1)) = omega arith in
        h.ahead ∙ ap here e ∙ then_none (record_at k all index q) rest p (reported d) (has_refused {X = State k.Ideal} {Y = ℕ} (RecordRead q w w') (record_at k all index q p) d a)

    -- all records are read
    pub ends : q ≡ n → Answers (RecordsRead n w) (records k all index 0 n [] p₀) (Ok (count, p))
    unfolding records
    ends e =
        let z : n - q ≡ 0 = omega arith in
        is_read (RecordsRead n w) (records k all index 0 n [] p₀) h.done count p (h.ahead ∙ ap here z) (record { many = h.many ∙ e; arcs = h.arcs; kept = h.kept })
