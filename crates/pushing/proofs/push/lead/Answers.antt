use Rattle.std.proofs.Common.{◌≡◌, List, map, reverse, length, get_or, set, sym, refl, ap, ◌∙◌, arith}
use Rattle.std.proofs.lemmas.List.{map-set, length-map, length-set, get_or-map}
use Rattle.stacks.specs.Stacks.{lows, highs}
use Rattle.machines.specs.Machines.{Arc as Edge}
use Rattle.records.specs.Holding.{arc_of, arcs_of, open_record}
use Rattle.pushing.proofs.LastArcs.{with_output}
use Rattle.pushing.proofs.OneRecord.{records_led_by}
use Rattle.pushing.proofs.push.lead.Goals as goal

pub returns : goal.returns
returns g c =
    let k = g.O.Output.kind in
    let mean = g.O.Output.meaning in
    let b = c.args.core.now in
    let xs = lows b.arcs in
    let hs = highs b.states in
    let l = c.last_place-last.result in
    let t = c.last_place-last.ensures in
    let a = c.at_low-arc.result in
    let s = c.set_low.ensures in
    let q : arc_of mean a ≡ get_or (arcs_of mean xs) l (arc_of mean a) = ap (arc_of mean) (c.at_low-arc.ensures a) ∙ sym (get_or-map (arc_of mean) xs l a (arc_of mean a) t.fits) in
    let v : arcs_of mean (lows c.set_low.new.self) ≡ set (arcs_of mean xs) l (with_output k (mean c.args.output) (arc_of mean a)) = ap (arcs_of mean) s.lows ∙ map-set (arc_of mean) xs l _ in
    record {
      shape = record {
        keeps = record { states = refl; arcs = s.highs; slots = refl; staterooms = refl; arcrooms = s.capacity };
        pairs = refl;
        openings = refl;
        arcs = ap length s.lows ∙ length-set _ _ _;
      };
      start = refl;
      records = ap (λ (es : List (Edge k.Ideal)). reverse (map (open_record mean es) hs)) v
          ∙ records_led_by k mean (mean c.args.output) (arcs_of mean xs) t.of l (arc_of mean a) t.last t.some (simp length-map t.fits) q (length xs) hs c.args.depth b.sound.laid (omega (arith, c.requires)) (t.at t.of);
    }
