use Rattle.std.proofs.Common.{◌≡◌, ◌+◌, ◌-◌, List, [], ◌∷◌, ◌++◌, map, length, sym, refl, ap, ◌∙◌, subst, arith}
use Rattle.std.proofs.lemmas.List.{length_push}
use Rattle.stacks.specs.Stacks.{lows, highs}
use Rattle.construction.specs.Records.{Open}
use Rattle.records.specs.declared.record.State.{State}
use Rattle.records.specs.Lying.{Laid, Led, Since, Packed, Placed}
use Rattle.records.specs.Holding.{arcs_of, open_record, closed_state, counts}
use Rattle.records.proofs.Laying.{led_laid, packed_placed, packed_push}
use Rattle.closing.proofs.Popping.{left, led_left, opens_left, longer, states_after, counts_after}
use Rattle.closing.proofs.settle_top.Goals as goal

pub returns : goal.returns
returns g c =
    let mean = g.O.Output.meaning in
    let b = c.args.core.now in
    let so = b.sound in
    let p = c.pop_high-top.ensures in
    let a = c.settle_all.ensures in
    let u = c.push_low.ensures in
    let top = c.pop_high-top.result in
    let hs = highs c.pop_high-top.new.self in
    let L = lows b.arcs in
    let L' = lows c.settle_all.new.self in
    let H = highs b.arcs in
    let H' = highs c.settle_all.new.self in
    let ls = lows b.states in
    let first = c.highs-first.result in
    let t : State g.row.O.Denot = record { end = top.end; count = top.count; first = first; keys = b.pairs - top.keys } in
    let lain : Laid (length L) (top ∷ hs) = subst (Laid (length L)) p.highs so.laid in
    let sin : Since b.pairs (top ∷ hs) = subst (Since b.pairs) p.highs so.since in
    let placed : Placed (length H) ls = packed_placed 0 (length H) ls so.packed in
    let more : length H' ≡ length H + top.count = longer L top hs lain mean H H' a.highs ls placed b.pairs in
    let hs' : highs c.push_low.new.self ≡ hs = u.highs in
    let ls' : lows c.push_low.new.self ≡ ls ++ (t ∷ []) = u.lows ∙ ap (λ (x : List (State g.row.O.Denot)). x ++ (t ∷ [])) p.lows in
    let n : length (lows c.push_low.new.self) ≡ length ls + 1 = ap length ls' ∙ length_push ls t in
    let o : length (highs b.states) ≡ length (highs c.push_low.new.self) + 1 = ap length p.highs ∙ omega (arith, ap length hs') in
    let led : Led (length L') (highs c.push_low.new.self) = subst (Led (length L')) (sym hs') (led_left L top hs lain L' a.lows) in
    let record_at = open_record mean (arcs_of mean L) in
    record {
      popped = record {
        within = record { staterooms = u.capacity ∙ p.capacity; arcrooms = a.capacity; states = omega (arith, n, o); arcs = omega (arith, more, left L top hs lain L' a.lows, lain.0) };
        opens = sym o;
        led = led;
        pairs = refl;
        start = refl;
      };
      settled = record {
        top = record_at top;
        was = ap (map record_at) p.highs ∙ ap (λ (os : List (Open g.O.Output.kind.Ideal)). record_at top ∷ os) (sym (opens_left L top hs lain L' a.lows mean)) ∙ ap (λ (xs : List (State g.row.O.Denot)). record_at top ∷ map (open_record mean (arcs_of mean L')) xs) (sym hs');
        closed =
            let sa = ap (map (closed_state mean (arcs_of mean H'))) ls' ∙ states_after L top hs lain mean H H' a.highs ls placed b.pairs first c.highs-first.ensures in
            let ca = ap (counts mean) ls' ∙ counts_after L top hs lain mean H H' a.highs ls placed b.pairs first in
            λ i. record { states = sa i; counts = ca i };
        next = c.lows-number.ensures;
        slots = refl;
      };
    }

pub invariant_of-core : goal.invariant_of-core
invariant_of-core g c =
    let mean = g.O.Output.meaning in
    let b = c.args.core.now in
    let so = b.sound in
    let p = c.pop_high-top.ensures in
    let a = c.settle_all.ensures in
    let u = c.push_low.ensures in
    let top = c.pop_high-top.result in
    let hs = highs c.pop_high-top.new.self in
    let L = lows b.arcs in
    let L' = lows c.settle_all.new.self in
    let H = highs b.arcs in
    let H' = highs c.settle_all.new.self in
    let ls = lows b.states in
    let first = c.highs-first.result in
    let t : State g.row.O.Denot = record { end = top.end; count = top.count; first = first; keys = b.pairs - top.keys } in
    let lain : Laid (length L) (top ∷ hs) = subst (Laid (length L)) p.highs so.laid in
    let sin : Since b.pairs (top ∷ hs) = subst (Since b.pairs) p.highs so.since in
    let placed : Placed (length H) ls = packed_placed 0 (length H) ls so.packed in
    let more : length H' ≡ length H + top.count = longer L top hs lain mean H H' a.highs ls placed b.pairs in
    let hs' : highs c.push_low.new.self ≡ hs = u.highs in
    let ls' : lows c.push_low.new.self ≡ ls ++ (t ∷ []) = u.lows ∙ ap (λ (x : List (State g.row.O.Denot)). x ++ (t ∷ [])) p.lows in
    let n : length (lows c.push_low.new.self) ≡ length ls + 1 = ap length ls' ∙ length_push ls t in
    let o : length (highs b.states) ≡ length (highs c.push_low.new.self) + 1 = ap length p.highs ∙ omega (arith, ap length hs') in
    let led : Led (length L') (highs c.push_low.new.self) = subst (Led (length L')) (sym hs') (led_left L top hs lain L' a.lows) in
    record {
      sound = record {
        few = omega (arith, so.few, u.capacity, p.capacity);
        arcfew = omega (arith, so.arcfew, a.capacity);
        slotroom = omega (arith, so.slotroom, u.capacity, p.capacity);
        laid = led_laid (length L') (highs c.push_low.new.self) led;
        since = subst (Since b.pairs) (sym hs') sin.1;
        packed = subst (Packed 0 (length H')) (sym ls') (packed_push 0 (length H) (length H') ls t so.packed c.highs-first.ensures more);
        known = λ i. omega (arith, so.known i, n);
        used = omega (arith, so.used, n);
        paired = so.paired;
      };
    }
