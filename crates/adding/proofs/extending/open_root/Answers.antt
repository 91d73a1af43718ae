use Rattle.std.proofs.Common.{◌≡◌, List, [], ◌∷◌, ◌++◌, sym, ap, ◌∙◌, arith}
use Rattle.std.proofs.lemmas.List.{nil_from_length}
use Rattle.construction.specs.Records.{Open, blank}
use Rattle.records.specs.Holding.{held}
use Rattle.records.proofs.Counting.{count_open}
use Rattle.records.proofs.Moving.{closed_still}
use Rattle.adding.proofs.LastRecord.{rooted_first}
use Rattle.adding.proofs.extending.open_root.Goals as goal

pub returns-then-highs-eq0 : goal.returns-then-highs-eq0
returns-then-highs-eq0 g c =
    let mean = g.O.Output.meaning in
    let b = c.args.core.now in
    let a = c.open_record.new.core in
    let e = c.open_record.ensures in
    let w = e.keeps in
    let h = held mean b in
    let none : h.open' ≡ [] = nil_from_length h.open' (omega (arith, count_open mean b, c.highs.ensures, c.if-highs-eq0.true)) in
    let r : (held mean a).open' ≡ blank b.pairs ∷ [] = e.records ∙ ap (λ (os : List (Open g.O.Output.kind.Ideal)). os ++ (blank b.pairs ∷ [])) none in
    let f = closed_still mean b w.states w.arcs in
    record {
      keeps = record { states = w.states; arcs = w.arcs; slots = w.slots; staterooms = w.staterooms; arcrooms = w.arcrooms };
      openings = omega (arith, e.openings, c.highs.ensures, c.if-highs-eq0.true);
      arcs = e.arcs;
      holds = (λ i. record { closed = f i; open' = r i; start = mean (e.start i); pairs = e.pairs i }) ∙ sym (rooted_first (mean c.args.output) h none);
    }
