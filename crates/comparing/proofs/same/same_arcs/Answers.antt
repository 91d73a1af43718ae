use Rattle.std.proofs.Common.{◌≡◌, rules}
use Rattle.std.proofs.lemmas.Iterator.{YieldsList-from_slice, YieldsList-from_zip, cases_from_all}
use Rattle.records.specs.Holding.{arc_of}
use Rattle.comparing.proofs.Mapped.{told_by_pairs}
use Rattle.comparing.proofs.same.same_arcs.Goals as goal

pub returns-then-a-b : goal.returns-then-a-b
returns-then-a-b g c =
    let mean = g.O.Output.meaning in
    told_by_pairs (arc_of mean) c.args.a.now c.args.b.now c.all.result c.if-a-b.true
    (cases_from_all c.all.new.self _ c.all.result (λ p. arc_of mean p.0 ≡ arc_of mean p.1) (λ p. arc_of mean p.0 ≡ arc_of mean p.1 → ⊥) c.all.ensures.ran (YieldsList-from_zip (YieldsList-from_slice c.args.a.now cc) (YieldsList-from_slice c.args.b.now cc)) (λ x q k. search rules) (λ x q k. search rules))
