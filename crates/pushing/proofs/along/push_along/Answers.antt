use Rattle.std.proofs.Common.{◌≡◌, ℕ, ◌+◌, ◌<◌, List, length, sym, ap, ◌∙◌, subst, arith}
use Rattle.construction.specs.Records.{Open}
use Rattle.construction.specs.Steps.{push}
use Rattle.construction.specs.Building.{push_along}
use Rattle.construction.specs.Theorems.{AlongStorable}
use Rattle.records.specs.Holding.{held}
use Rattle.records.proofs.Moving.{closed_still}
use Rattle.records.proofs.Counting.{count_open}
use Rattle.pushing.specs.Altering.{alter}
use Rattle.pushing.specs.Changes.{SameShape}
use Rattle.pushing.specs.Pushing.{PushHeldStorable}
use Rattle.pushing.proofs.Keeping.{shape_both}
use Rattle.pushing.proofs.Steps.{push_from, StorableFrom, storable_at, push_last, push_more, storable_more}
use Rattle.pushing.proofs.along.push_along.Goals as goal

pub loop-d-preserved : goal.loop-d-preserved
loop-d-preserved g c =
    let k = g.O.Output.kind in
    let mean = g.O.Output.meaning in
    let m = c.loop-d.core in
    let a = c.push_step-parted.new.core in
    let r = c.push_step-parted.result in
    let e = c.push_step-parted.ensures in
    let inv = c.loop-d.invariant in
    let d = c.loop-d.d in
    let os = (held mean m).open' in
    let carry = mean c.loop-d.parted.carry in
    let left = mean c.loop-d.parted.left in
    let h : d + 1 < length os = omega (arith, count_open mean m, inv.0.openings, c.requires) in (
      shape_both _ m a inv.0 e.shape,
      e.start ∙ inv.1,
      λ s.
          let so_far = inv.2 s in
          let t = e.steps (storable_at k carry left d os so_far.1) in (
            push_more k carry left d os (mean r.carry) (mean r.left) (held mean a).open' h t.carried t.remains t.records ∙ so_far.0,
            storable_more k carry left d os (mean r.carry) (mean r.left) (held mean a).open' h t.carried t.remains t.records so_far.1,
          ),
    )

pub returns : goal.returns
returns g c =
    let k = g.O.Output.kind in
    let mean = g.O.Output.meaning in
    let I = k.Ideal in
    let b = c.args.core.now in
    let m = c.loop-d.core in
    let a = c.push_record.new.core in
    let e = c.push_record.ensures in
    let inv = c.loop-d.invariant in
    let depth = c.args.depth in
    let x = mean c.args.output in
    let common = k.common (mean b.start) x in
    let carry = mean c.loop-d.parted.carry in
    let left = mean c.loop-d.parted.left in
    let os = (held mean m).open' in
    let s = c.part-parted.ensures.shared in
    let p = c.part-parted.ensures.carry in
    let q = c.part-parted.ensures.left in
    let n : c.loop-d.d ≡ depth = omega (arith, c.loop-d.auto.d-end, c.loop-d-test.false) in
    let both = shape_both _ m a inv.0 e.shape in
    let w = both.keeps in
    let shape : SameShape b a = record { keeps = record { states = w.states; arcs = w.arcs; slots = w.slots; staterooms = w.staterooms; arcrooms = w.arcrooms }; pairs = both.pairs; openings = both.openings; arcs = both.arcs } in
    let l : length os ≡ depth + 1 = omega (arith, count_open mean m, inv.0.openings, c.requires) in
    let so_far : PushHeldStorable k (held mean b) x → (push_from k depth carry left os ≡ push_along k (k.rest common (mean b.start)) (k.rest common x) (held mean b).open') × StorableFrom k depth carry left os = λ storable.
    let i = inv.2 (subst (λ (z : I × I). AlongStorable k z.0 z.1 (held mean b).open') (sym (λ j. (p j, q j))) storable) in
    (ap (λ (j : ℕ). push_from k j carry left os) (sym n) ∙ i.0 ∙ (λ j. push_along k (p j) (q j) (held mean b).open'), subst (λ (j : ℕ). StorableFrom k j carry left os) n i.1) in
    let t : PushHeldStorable k (held mean b) x → (alter depth (push k carry) os, left) ≡ push_along k (k.rest common (mean b.start)) (k.rest common x) (held mean b).open' = λ storable. sym (push_last k carry left depth os l) ∙ (so_far storable).0 in
    record {
      shape = shape;
      holds = λ storable.
          let r = e.records (storable_at k carry left depth os (so_far storable).1) ∙ ap (λ (z : List (Open I) × I). z.0) (t storable) in
          let f = closed_still mean b w.states w.arcs in
          let o = ap mean (e.start ∙ inv.1) ∙ s in
          λ i. record { closed = f i; open' = r i; start = o i; pairs = shape.pairs i };
      left = λ storable. ap (λ (z : List (Open I) × I). z.1) (t storable);
    }
