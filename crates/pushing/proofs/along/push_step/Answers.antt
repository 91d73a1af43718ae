use Rattle.std.proofs.Common.{◌≡◌, ◌<◌, List, length, ap, ◌∙◌, arith}
use Rattle.construction.specs.Records.{Open, blank}
use Rattle.construction.specs.Steps.{push, lead, last_output}
use Rattle.records.specs.Holding.{held}
use Rattle.records.proofs.Counting.{count_open}
use Rattle.pushing.specs.Altering.{alter}
use Rattle.pushing.specs.Changes.{arcs_at}
use Rattle.pushing.specs.Pushing.{whole, shared, stepped}
use Rattle.pushing.proofs.Keeping.{shape_both}
use Rattle.pushing.proofs.Steps.{at_depth, alter_at, alter_twice, alter_at_place}
use Rattle.pushing.proofs.along.push_step.Goals as goal

pub returns : goal.returns
returns g c =
    let k = g.O.Output.kind in
    let mean = g.O.Output.meaning in
    let carry = mean c.args.before.carry in
    let left = mean c.args.before.left in
    let d = c.args.depth in
    let b = c.args.core.now in
    let os = (held mean b).open' in
    let p = c.push_record.ensures in
    let q = c.lead.ensures in
    let t = c.part-parted.ensures in
    let sh = mean c.part-parted.result.shared in
    let h : d < length os = omega (arith, count_open mean b, c.requires) in
    record {
      shape = shape_both b c.push_record.new.core c.lead.new.core p.shape q.shape;
      start = q.start ∙ p.start;
      steps = λ joins.
          let w : mean c.last_arc.result.output ≡ whole k carry left (at_depth k d os) = c.last_arc.ensures.output ∙ ap (λ (ns : List (Open k.Ideal)). last_output k (arcs_at d ns)) (p.records joins) ∙ ap (λ (o : Open k.Ideal). last_output k o.arcs) (alter_at (push k carry) d os (blank 0) h) in
          let s : sh ≡ shared k carry left (at_depth k d os) = t.shared ∙ ap (λ (z : k.Ideal). k.common z left) w in
          record {
            records = q.records ∙ ap (alter d (lead k sh)) (p.records joins) ∙ alter_twice (lead k sh) (push k carry) d os
                ∙ alter_at_place (λ o. lead k sh (push k carry o)) (stepped k carry left) d os (blank 0) (ap (λ (z : k.Ideal). lead k z (push k carry (at_depth k d os))) s);
            carried = t.carry ∙ (λ i. k.rest (k.common (w i) left) (w i));
            remains = t.left ∙ ap (λ (z : k.Ideal). k.rest (k.common z left) left) w;
          };
    }
