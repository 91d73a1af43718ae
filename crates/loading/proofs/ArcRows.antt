-- The loop over a record's arcs beside their definition. Assumes nothing.
use Rattle.std.proofs.Common.{◌≡◌, ℕ, suc, ◌+◌, ◌-◌, ◌<◌, min, max, Bool, List, [], ◌∷◌, ◌++◌, length, set, Ok, Err, sym, refl, ap, ◌∙◌, ap₂, arith, length-append}
use Rattle.outputs.specs.Kinds.{Kind}
use Rattle.machines.specs.Lists.{Each}
use Rattle.machines.specs.Machines.{Arc}
use Rattle.machines.proofs.Lists.{each_more}
use Rattle.images.specs.Steps.{Step, refuses}
use Rattle.images.specs.Loads.{arc, arcs, keys_at, sum_over}
use Rattle.images.proofs.Standing.{then_reads, then_none}
use Rattle.loading.specs.declared.refusal.LoadRefusal.{LoadRefusal}
use Rattle.loading.specs.declared.arcs.Arc as Code
use Rattle.loading.specs.Refusals.{reported}
use Rattle.loading.specs.Answers.{Answers}
use Rattle.loading.specs.Working.{length_in, longest_in, Aimed, RowRead}
use Rattle.loading.proofs.Walking.{has_read, has_refused, is_read}
use Rattle.loading.proofs.Marking.{longest_more, sum_more, aimed_none, aimed_more, noted}

-- i arcs are read: the definition from the start is the definition from here on
pub record Walked (k : Kind) (all : List Bool) (index q count : ℕ) (w : List ℕ) (p₀ i least keys longest p : ℕ) (w' : List ℕ) : Type 0 where
  pub done : List (Arc k.Ideal)
  pub ahead : arcs k all q count 0 [] p₀ ≡ arcs k all q (count - i) least done p
  pub summed : keys ≡ sum_over (keys_at k all index) done
  pub many : length done ≡ i
  pub below : Each (λ arc. arc.target < q) done
  pub aimed : Aimed w w' q done
  pub most : longest ≡ longest_in w done

-- the code's arc and the definition's
abbrev pub SameArc : {A : Type 0} → Code.Arc → Arc A → Type 0
SameArc a x = (a.byte ≡ x.byte) × (a.target ≡ x.target)

module _ (k : Kind) (all : List Bool) (index q count : ℕ) (w : List ℕ) (p₀ : ℕ) where
  pub begins : Walked k all index q count w p₀ 0 0 0 0 p₀ w
  begins =
      let e : count ≡ count - 0 = omega arith in
      record { done = []; ahead = ap (λ (n : ℕ). arcs k all q n 0 [] p₀) e; summed = refl; many = refl; below = tt; aimed = aimed_none w q; most = refl }

  module _ (i least keys longest p : ℕ) (w' : List ℕ) (h : Walked k all index q count w p₀ i least keys longest p w') where
    abbrev here : ℕ → Step (List (Arc k.Ideal))
    here n = arcs k all q n least h.done p

    abbrev rest : Arc k.Ideal → ℕ → Step (List (Arc k.Ideal))
    rest x = arcs k all q (count - (i + 1)) (suc x.byte) (h.done ++ (x ∷ []))

    -- the arc at p is read, its target's keys added and its target marked
    pub more : (y : Code.Arc × ℕ) (least' v r longest' : ℕ) (w'' : List ℕ) → i < count → least' ≡ y.0.byte + 1 → Answers {X = Arc k.Ideal} {Y = Code.Arc} SameArc (arc k all q least p) (Ok y) →
        y.0.target < q → y.0.target < length w' → v ≡ keys_at k all index y.0.target → r ≡ min 100 (suc (length_in w' y.0.target)) → w'' ≡ set w' y.0.target (length_in w' y.0.target + 128) → longest' ≡ max longest r →
        Walked k all index q count w p₀ (i + 1) least' (keys + v) longest' y.1 w''
    unfolding arcs
    more y least' v r longest' w'' l n' a below inside e m s o =
        let f = has_read {X = Arc k.Ideal} {Y = Code.Arc} SameArc (arc k all q least p) y a in
        let x : Arc k.Ideal = f.0 in
        let same : SameArc y.0 x = f.1.1 in
        let n : count - i ≡ suc (count - (i + 1)) = omega arith in
        let b : suc x.byte ≡ least' = omega (arith, same.0, n') in
        let t : x.target ≡ y.0.target = sym same.1 in
        let low : length_in w' y.0.target ≡ length_in w y.0.target = h.aimed.lengths y.0.target below in
        let z : length_in w x.target ≡ length_in w y.0.target = ap (length_in w) t in
        record {
          done = h.done ++ (x ∷ []);
          ahead = h.ahead ∙ ap here n ∙ then_reads (arc k all q least) rest p y.1 x f.1.0 ∙ ap (λ (z : ℕ). arcs k all q (count - (i + 1)) z (h.done ++ (x ∷ [])) y.1) b;
          summed = ap₂ (λ (a b : ℕ). a + b) h.summed (e ∙ ap (keys_at k all index) (sym t)) ∙ sym (sum_more (keys_at k all index) h.done x);
          many = length-append h.done (x ∷ []) ∙ ap (λ (z : ℕ). z + 1) h.many;
          below = each_more (λ a. a.target < q) h.done x h.below (omega (arith, t));
          aimed = aimed_more w q w' w'' h.done h.aimed x y.0.target inside t s;
          most = omega (arith, o, h.most, m, low, z, longest_more w h.done x);
        }

    -- the arc at p is refused
    pub stops : (d : LoadRefusal) → i < count → Answers {X = Arc k.Ideal} {Y = Code.Arc} SameArc (arc k all q least p) (Err d) → arcs k all q count 0 [] p₀ ≡ refuses (reported d)
    unfolding arcs
    stops d l a =
        let n : count - i ≡ suc (count - (i + 1)) = omega arith in
        h.ahead ∙ ap here n ∙ then_none (arc k all q least) rest p (reported d) (has_refused {X = Arc k.Ideal} {Y = Code.Arc} SameArc (arc k all q least p) d a)

    -- all arcs are read, and the state takes its own length
    pub ends : (w'' : List ℕ) → i ≡ count → q < length w' → w'' ≡ set w' q longest → Answers (RowRead k all index q count w w'') (arcs k all q count 0 [] p₀) (Ok (keys, p))
    unfolding arcs
    ends w'' e l s =
        let n : count - i ≡ 0 = omega arith in
        is_read (RowRead k all index q count w w'') (arcs k all q count 0 [] p₀) h.done keys p (h.ahead ∙ ap here n)
        (record { keys = h.summed; many = h.many ∙ e; noted = noted w q w' w'' h.done h.aimed longest l h.below h.most s })
