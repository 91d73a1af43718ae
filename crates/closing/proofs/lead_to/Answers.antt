use Rattle.std.proofs.Common.{◌≡◌, ℕ, ◌-◌, ◌<◌, List, map, length, get_or, set, sym, refl, ap, ◌∙◌, subst, arith}
use Rattle.std.proofs.lemmas.List.{map-set, length-map, length-set, get_or-map}
use Rattle.stacks.specs.Stacks.{lows, highs}
use Rattle.machines.specs.Machines.{Arc as Edge}
use Rattle.records.specs.Lying.{Led}
use Rattle.records.specs.Holding.{arc_of, arcs_of, open_record}
use Rattle.records.proofs.Laying.{led_some}
use Rattle.records.proofs.Moving.{closed_still}
use Rattle.closing.proofs.Aiming.{aimed, opens_aimed}
use Rattle.closing.proofs.lead_to.Goals as goal

pub returns : goal.returns
returns g c =
    let mean = g.O.Output.meaning in
    let b = c.args.core.now in
    let so = b.sound in
    let s = c.set_low.ensures in
    let L = lows b.arcs in
    let es = arcs_of mean L in
    let x = c.at_low-arc.result in
    let i = c.lows-last.result - 1 in
    let q = c.args.number in
    let some_arc : 0 < length L = led_some _ (highs b.states) c.requires.top c.requires.led in
    let k : i < length L = omega (arith, c.lows-last.ensures) in
    let n : length es ≡ length L = length-map L (arc_of mean) in
    let a = c.set_low.new.self in
    let l : length (lows a) ≡ length L = ap length s.lows ∙ length-set L i _ in
    let at : arc_of mean x ≡ get_or es i (arc_of mean x) = ap (arc_of mean) (c.at_low-arc.ensures x) ∙ sym (get_or-map (arc_of mean) L i x (arc_of mean x) k) in
    let written : arcs_of mean (lows a) ≡ set es i (aimed q (arc_of mean x)) = ap (arcs_of mean) s.lows ∙ map-set (arc_of mean) L i _ in
    let led : Led (length es) (highs b.states) = subst (λ (m : ℕ). Led m (highs b.states)) (sym n) c.requires.led in
    record {
      within = record { staterooms = refl; arcrooms = s.capacity; states = omega arith; arcs = omega (arith, l, ap length s.highs) };
      opens = refl;
      opened = ap (λ (r : List (Edge g.O.Output.kind.Ideal)). map (open_record mean r) (highs b.states)) written ∙ opens_aimed q mean es i (arc_of mean x) (omega (arith, n, c.lows-last.ensures)) at (highs b.states) led;
      closed = closed_still mean b refl s.highs;
      slots = refl;
      pairs = refl;
      start = refl;
    }
