-- The tests behind the last record by the states, and by what the working bytes hold of them. Assumes nothing.
use Rattle.std.proofs.Common.{◌≡◌, ℕ, zero, suc, ◌+◌, ◌-◌, ◌<◌, ◌≤◌, min, Bool, true, false, not, eqb, ltb, List, length, sym, refl, ap, ◌∙◌, inl, inr, arith, le-ltb, lt-ltb}
use Rattle.std.proofs.lemmas.Bool.{cases_lt}
use Rattle.outputs.specs.Bits.{filling}
use Rattle.outputs.specs.Kinds.{Kind}
use Rattle.machines.specs.Machines.{State, Machine, count_arcs, targeted}
use Rattle.machines.specs.Lengths.{longest_from}
use Rattle.images.specs.Steps.{Step, reads, refuses, Reader, ◌>>=◌, ◌>>◌, gives, place, refuse, field}
use Rattle.images.specs.Loads.{Head, record_place, keys_at, all_targeted}
use Rattle.loading.specs.Working.{length_in, marked_in, Kept, RecordsRead}
use Rattle.loading.specs.Ends.{all_marked, filled, ending}

-- a step that gives x where the other passes
abbrev pub giving : {X : Type 0} → X → Step (Unit {0}) → Step X
giving x s = elim s [ reads u p ↦ reads x p | refuses e ↦ refuses e ]

module _ {X : Type 0} (x : X) where
  -- alike steps, with what is alike behind them
  alike_then : (s s' : Step (Unit {0})) (r : Reader X) (r' : Reader (Unit {0})) → s ≡ s' → ((p : ℕ) → r p ≡ giving x (r' p)) →
      ◌≡◌ {A = Step X} (elim s [ reads u p ↦ r p | refuses e ↦ refuses e ]) (giving x (elim s' [ reads u p ↦ r' p | refuses e ↦ refuses e ]))
  alike_then s s' r r' e h = ap {A = Step (Unit {0})} {B = Step X} (λ z. elim z [ reads u p ↦ r p | refuses e ↦ refuses e ]) e ∙ go s'
    where
      go : (z : Step (Unit {0})) → ◌≡◌ {A = Step X} (elim z [ reads u p ↦ r p | refuses e ↦ refuses e ]) (giving x (elim z [ reads u p ↦ r' p | refuses e ↦ refuses e ]))
      go (reads u p) = h p
      go (refuses d) = refl

  -- the filling at last
  abbrev pub filled_then : List Bool → Reader X
  filled_then all = do
    used ← place
    rest ← field all (filling used)
    refuse 26 used (not (eqb rest 0))
    gives x

  filled_alike : (all : List Bool) (p : ℕ) → filled_then all p ≡ giving x (filled all p)
  filled_alike all p = go (field all (filling p) p)
    where
      test : (t : Bool) (q : ℕ) → ◌>>◌ (refuse 26 p t) (gives x) q ≡ giving x (refuse 26 p t q)
      test true q = refl
      test false q = refl

      go : (s : Step ℕ) → ◌≡◌ {A = Step X} (elim s [ reads v q ↦ ◌>>◌ (refuse 26 p (not (eqb v 0))) (gives x) q | refuses e ↦ refuses e ]) (giving x (elim s [ reads v q ↦ refuse 26 p (not (eqb v 0)) q | refuses e ↦ refuses e ]))
      go (reads v q) = test (not (eqb v 0)) q
      go (refuses e) = refl

-- a test by alike facts
test_alike : {B : Type 0} (n at : ℕ) (t t' : Bool) (r r' : Reader B) (p : ℕ) → t ≡ t' → r p ≡ r' p → ◌>>◌ (refuse n at t) r p ≡ ◌>>◌ (refuse n at t') r' p
test_alike {B} n at t t' r r' p e h = ap {A = Bool} {B = Step B} (λ b. ◌>>◌ (refuse n at b) r p) e ∙ go t'
  where
    go : (b : Bool) → ◌>>◌ (refuse n at b) r p ≡ ◌>>◌ (refuse n at b) r' p
    go true = refl
    go false = h

module _ (k : Kind) (all : List Bool) (index : ℕ) (w : List ℕ) (ss : List (State k.Ideal)) (h : Kept w ss) where
  targets_alike : (n q p : ℕ) → q + n ≤ length ss → all_targeted k all index ss q n p ≡ all_marked k all index w q n p
  unfolding all_targeted all_marked
  targets_alike zero q p l = refl
  targets_alike (suc n) q p l =
      test_alike 25 (record_place k all index q) (not (targeted q ss)) (not (marked_in w q)) (all_targeted k all index ss (suc q) n) (all_marked k all index w (suc q) n) p
      (ap not (sym (h.marks q (omega arith)))) (targets_alike n (suc q) p (omega arith))

  longest_alike : (q : ℕ) → q < length ss → ltb 64 (longest_from ss q) ≡ ltb 64 (length_in w q)
  longest_alike q l =
      let e : length_in w q ≡ min 100 (longest_from ss q) = h.lengths q l in
      elim (cases_lt 64 (longest_from ss q)) [
        | inl b ↦ lt-ltb 64 (longest_from ss q) b ∙ sym (lt-ltb 64 (length_in w q) (omega (arith, e)))
        | inr b ↦ le-ltb 64 (longest_from ss q) b ∙ sym (le-ltb 64 (length_in w q) (omega (arith, e)))
      ]

module _ (k : Kind) (all : List Bool) (front : Head k.Ideal) where
  -- the machine of a head and some states
  abbrev pub machine_of : List (State k.Ideal) → Machine k.Ideal
  machine_of states = record { start = front.states - 1; start_output = front.start_output; states = states }

  -- load behind the records
  abbrev pub behind_records : List (State k.Ideal) → Reader (Machine k.Ideal)
  behind_records states = do
    refuse 24 front.keys_place (not (eqb front.keys (keys_at k all front.index (front.states - 1))))
    refuse 24 front.arcs_place (not (eqb front.arcs (count_arcs states)))
    all_targeted k all front.index states 0 (front.states - 1)
    refuse 25 (record_place k all front.index (front.states - 1)) (ltb 64 (longest_from states (front.states - 1)))
    filled_then (machine_of states) all

  pub ends_alike : (w : List ℕ) (count : ℕ) (ss : List (State k.Ideal)) → 0 < front.states → RecordsRead front.states w count ss → (p : ℕ) →
      behind_records ss p ≡ giving (machine_of ss) (ending k all front count w p)
  ends_alike w count ss l h p =
      let last : ℕ = front.states - 1 in
      let m : Machine k.Ideal = machine_of ss in
      alike_then m (refuse 24 front.keys_place (not (eqb front.keys (keys_at k all front.index last))) p) _ _ _ refl (λ p.
      alike_then m (refuse 24 front.arcs_place (not (eqb front.arcs (count_arcs ss))) p) (refuse 24 front.arcs_place (not (eqb front.arcs count)) p) _ _
      (ap {A = ℕ} {B = Step (Unit {0})} (λ n. refuse 24 front.arcs_place (not (eqb front.arcs n)) p) (sym h.arcs)) (λ p.
      alike_then m (all_targeted k all front.index ss 0 last p) (all_marked k all front.index w 0 last p) _ _
      (targets_alike k all front.index w ss h.kept last 0 p (omega (arith, h.many))) (λ p.
      alike_then m (refuse 25 (record_place k all front.index last) (ltb 64 (longest_from ss last)) p) (refuse 25 (record_place k all front.index last) (ltb 64 (length_in w last)) p) _ _
      (ap {A = Bool} {B = Step (Unit {0})} (λ b. refuse 25 (record_place k all front.index last) b p) (longest_alike k all front.index w ss h.kept last (omega (arith, h.many)))) (λ p.
      filled_alike m all p))))
