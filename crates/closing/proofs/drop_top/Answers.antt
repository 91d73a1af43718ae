use Rattle.std.proofs.Common.{List, ◌∷◌, map, length, sym, refl, ap, ◌∙◌, subst, arith}
use Rattle.stacks.specs.Stacks.{lows, highs}
use Rattle.construction.specs.Records.{Open}
use Rattle.records.specs.Lying.{Laid, Since}
use Rattle.records.specs.Holding.{arcs_of, open_record}
use Rattle.records.proofs.Moving.{closed_still}
use Rattle.closing.proofs.Popping.{left, led_left, opens_left}
use Rattle.closing.proofs.drop_top.Goals as goal

pub returns : goal.returns
returns g c =
    let mean = g.O.Output.meaning in
    let b = c.args.core.now in
    let so = b.sound in
    let p = c.pop_high-top.ensures in
    let f = c.forget_low.ensures in
    let top = c.pop_high-top.result in
    let hs = highs c.pop_high-top.new.self in
    let L = lows b.arcs in
    let L' = lows c.forget_low.new.self in
    let lain : Laid (length L) (top ∷ hs) = subst (Laid (length L)) p.highs so.laid in
    let sin : Since b.pairs (top ∷ hs) = subst (Since b.pairs) p.highs so.since in
    let led = led_left L top hs lain L' f.lows in
    let record_at = open_record mean (arcs_of mean L) in
    record {
      popped = record {
        within = record { staterooms = p.capacity; arcrooms = f.capacity; states = omega (arith, ap length p.lows, ap length p.highs); arcs = omega (arith, ap length f.highs, left L top hs lain L' f.lows, lain.0) };
        opens = omega (arith, ap length p.highs);
        led = led;
        pairs = refl;
        start = refl;
      };
      dropped = record {
        top = record_at top;
        was = ap (map record_at) p.highs ∙ ap (λ (os : List (Open g.O.Output.kind.Ideal)). record_at top ∷ os) (sym (opens_left L top hs lain L' f.lows mean));
        closed = closed_still mean b p.lows f.highs;
        slots = refl;
      };
    }
