use Rattle.std.proofs.Common.{◌≡◌, get_or, take, drop, sym, ap, ◌∙◌, arith}
use Rattle.std.proofs.lemmas.List.{length-map, get_or-map}
use Rattle.stacks.specs.Stacks.{lows, highs}
use Rattle.construction.specs.Records.{Open, blank, last_byte}
use Rattle.construction.specs.Steps.{last_output}
use Rattle.records.specs.Holding.{arc_of, arcs_of}
use Rattle.pushing.proofs.LastArcs.{EndsIn, last_part}
use Rattle.pushing.proofs.OneRecord.{record_there}
use Rattle.pushing.proofs.reading.last_arc.Goals as goal

pub returns : goal.returns
returns g c =
    let k = g.O.Output.kind in
    let mean = g.O.Output.meaning in
    let b = c.args.core.now in
    let xs = lows b.arcs in
    let l = c.last_place.result in
    let t = c.last_place.ensures in
    let x = t.of in
    let a = c.at_low.result in
    let q : arc_of mean a ≡ get_or (arcs_of mean xs) l (arc_of mean a) = ap (arc_of mean) (c.at_low.ensures a) ∙ sym (get_or-map (arc_of mean) xs l a (arc_of mean a) t.fits) in
    let e : EndsIn k (arc_of mean a) (take x.count (drop x.first (arcs_of mean xs))) = last_part k x.first x.count l (arcs_of mean xs) (arc_of mean a) t.last t.some (simp length-map t.fits) q in
    let there = record_there mean (arcs_of mean xs) (highs b.states) c.args.depth x (blank 0) (omega (arith, c.requires)) (t.at x) in
    record { byte = e.0 ∙ ap (λ (o : Open k.Ideal). last_byte o.arcs) (sym there); output = e.1 ∙ ap (λ (o : Open k.Ideal). last_output k o.arcs) (sym there) }
