use Rattle.std.proofs.Common.{◌≡◌, ℕ, length, sym, ap, ◌∙◌, subst, arith}
use Rattle.stacks.specs.Stacks.{capacity}
use Rattle.machines.specs.Keys.{common_length}
use Rattle.construction.specs.Records.{Held, newest_key}
use Rattle.closing.specs.Closing.{closed_beyond}
use Rattle.records.specs.Holding.{held}
use Rattle.records.proofs.Counting.{count_open, count_edges}
use Rattle.records.proofs.Moving.{registered_still}
use Rattle.pushing.specs.Pushing.{push_held, PushHeldStorable}
use Rattle.adding.specs.Admission.{Admitted}
use Rattle.adding.specs.Extending.{rooted, extended}
use Rattle.adding.proofs.FiveSteps.{after_steps, steps_add, steps_storable}
use Rattle.adding.proofs.NewestKey.{newest_length}
use Rattle.adding.proofs.Parting.{common_within}
use Rattle.adding.proofs.add.add.Goals as goal

pub close_beyond-requires : goal.close_beyond-requires
close_beyond-requires g c =
    let mean = g.O.Output.meaning in
    let b = c.args.core.now in
    let a = c.in_ok-depth.ensures in
    let r = c.open_root.ensures in
    let os = (held mean b).open' in
    let within = common_within c.args.key.now (newest_key os) in
    omega (arith, a.shared, within.1, newest_length os, count_open mean b, r.openings)

pub extend-requires-clause-within : goal.extend-requires-clause-within
extend-requires-clause-within g c =
    let within = common_within c.args.key.now (newest_key (held g.O.Output.meaning c.args.core.now).open') in
    omega (arith, c.in_ok-depth.ensures.shared, within.0)

pub extend-requires-clause-arcs : goal.extend-requires-clause-arcs
extend-requires-clause-arcs g c =
    let mean = g.O.Output.meaning in
    let b = c.args.core.now in
    let a = c.in_ok-depth.ensures in
    let r = c.open_root.ensures in
    let e = c.close_beyond.ensures in
    let p = c.push_along-left.ensures.shape in
    let a1 = ap length r.keeps.arcs in
    let a3 = ap length p.keeps.arcs in
    omega (arith, a.arcroom, a.shared, count_edges mean b, a1, a3, r.arcs, p.arcs, e.within.arcs, e.within.arcrooms, r.keeps.arcrooms, p.keeps.arcrooms)

pub returns-clause-adds : goal.returns-clause-adds
returns-clause-adds g c =
    let k = g.O.Output.kind in
    let mean = g.O.Output.meaning in
    let x = mean c.args.output in
    let key = c.args.key.now in
    let b = c.args.core.now in
    let h = held mean b in
    let d = c.in_ok-depth.depth in
    let a = c.in_ok-depth.ensures in
    let r = c.open_root.ensures in
    let e = c.close_beyond.ensures in
    let p = c.push_along-left.ensures in
    let t = c.extend.ensures in
    let w = p.shape.keeps in
    let v = t.keeps in
    let first : length h.open' ≡ 0 → h.pairs ≡ 0 = λ z. c.requires.first (sym (count_open mean b) ∙ z) in
    let dig = g.O.Output.digested in
    let o = r.keeps in
    record {
      admitted = subst (λ (n : ℕ). Admitted (capacity b.states) (capacity b.arcs) h key n) a.shared a;
      registered = λ reg.
          let rooted_reg = registered_still mean b o.states o.arcs dig o.slots reg in
          let pushed_reg = registered_still mean c.close_beyond.new.core w.states w.arcs dig w.slots (e.registered rooted_reg) in
          registered_still mean c.push_along-left.new.core v.states v.arcs dig v.slots pushed_reg;
      holds = λ reg s.
          let rooted_reg = registered_still mean b o.states o.arcs dig o.slots reg in
          let path : held mean c.close_beyond.new.core ≡ closed_beyond k d (rooted x h) = e.holds rooted_reg ∙ ap (closed_beyond k d) r.holds in
          let known : held mean c.close_beyond.new.core ≡ closed_beyond k (common_length key (newest_key h.open')) (rooted x h) = path ∙ ap (λ (n : ℕ). closed_beyond k n (rooted x h)) a.shared in
          let storable : PushHeldStorable k (held mean c.close_beyond.new.core) x = subst (λ (z : Held k.Ideal). PushHeldStorable k z x) (sym known) (steps_storable k key x h s) in
          t.holds
          ∙ (λ i. extended k key d (p.left storable i) (p.holds storable i))
          ∙ ap (λ (z : Held k.Ideal). extended k key d (push_held k z x).1 (push_held k z x).0) path
          ∙ ap (λ (n : ℕ). after_steps k g.met.O.Output.lawful key x n h) a.shared
          ∙ steps_add k g.met.O.Output.lawful key x h first;
    }
