use Rattle.std.proofs.Common.{◌≡◌, ℕ, ◌+◌, ◌<◌, List, ◌∷◌, reverse, length, sym, ap, ◌∙◌, subst, arith}
use Rattle.construction.specs.Records.{Closed}
use Rattle.records.specs.Shape.{openings}
use Rattle.records.specs.Holding.{closed, closed_states, opened, held}
use Rattle.records.specs.Registering.{Register}
use Rattle.records.proofs.Counting.{count_opened}
use Rattle.closing.specs.Closing.{closed_beyond, aim_newest}
use Rattle.closing.proofs.Ascending.{hold, beyond_step, beyond_none}
use Rattle.closing.proofs.close_beyond.Goals as goal

pub loop-preserved : goal.loop-preserved
loop-preserved g c =
    let k = g.O.Output.kind in
    let mean = g.O.Output.meaning in
    let dig = g.O.Output.digested in
    let depth = c.args.depth in
    let b = c.loop.core in
    let m = c.close_top-number.new.core in
    let a = c.lead_to.new.core in
    let q = c.close_top-number.result in
    let inv = c.loop.invariant in
    let p = c.close_top-number.ensures.popped in
    let l = c.lead_to.ensures in
    let n : length (opened mean m) ≡ openings m = count_opened mean m in
    let deep : depth < length (opened mean m) = omega (arith, n, p.opens, inv.2, c.loop-test.true, c.highs-end.ensures) in
    let is : held mean a ≡ hold k b.pairs (mean b.start) (closed mean m) (reverse (aim_newest q (opened mean m))) =
    let st = l.start ∙ p.start in
    let pr = l.pairs ∙ p.pairs in
    λ i. record { closed = l.closed i; open' = reverse (l.opened i); start = mean (st i); pairs = pr i } in
    let states : closed_states mean a ≡ closed_states mean m = ap (λ (x : Closed k.Ideal). x.states) l.closed in (
      λ reg. subst (λ (xs : List ℕ). Register dig xs (closed_states mean a)) (sym l.slots) (subst (Register dig m.slots.now) (sym states) (c.close_top-number.ensures.registered (inv.0 reg))),
      record {
        staterooms = l.within.staterooms ∙ p.within.staterooms ∙ inv.1.staterooms;
        arcrooms = l.within.arcrooms ∙ p.within.arcrooms ∙ inv.1.arcrooms;
        states = omega (arith, l.within.states, p.within.states, inv.1.states);
        arcs = omega (arith, l.within.arcs, p.within.arcs, inv.1.arcs);
      },
      omega (arith, l.opens, p.opens, inv.2),
      λ reg.
          let t = c.close_top-number.ensures.closes (inv.0 reg) in
          let was : held mean b ≡ hold k b.pairs (mean b.start) (closed mean b) (reverse (t.top ∷ opened mean m)) =
          λ i. record { closed = closed mean b; open' = reverse (t.was i); start = mean b.start; pairs = b.pairs } in
          let step = beyond_step k b.pairs (mean b.start) (closed mean b) depth t.top (opened mean m) q (closed mean m) deep t.entered in
          ap (closed_beyond k depth) is ∙ step ∙ sym (ap (closed_beyond k depth) was) ∙ inv.3 reg,
      l.pairs ∙ p.pairs ∙ inv.4,
    )

pub returns : goal.returns
returns g c =
    let k = g.O.Output.kind in
    let mean = g.O.Output.meaning in
    let a = c.loop.core in
    let inv = c.loop.invariant in
    let n : length (opened mean a) ≡ openings a = count_opened mean a in
    let done : openings a ≡ c.args.depth + 1 = omega (arith, inv.2, c.loop-test.false, c.loop.auto.counter-end, c.highs-end.ensures, c.requires) in
    record {
      registered = inv.0;
      within = inv.1;
      opens = done;
      pairs = inv.4;
      holds = λ reg. sym (beyond_none k a.pairs (mean a.start) (closed mean a) c.args.depth (opened mean a) (omega (arith, n, done))) ∙ inv.3 reg;
    }
