use Rattle.std.proofs.Common.{◌-◌, length, sym, ap, ◌∙◌, arith, length-drop, length-take}
use Rattle.machines.specs.Machines.{Machine, count_arcs}
use Rattle.records.proofs.Counting.{count_closed, count_closed_arcs}
use Rattle.builder.proofs.builder.Sealed.counts.Goals as goal

pub returns : goal.returns
returns g c =
    let mean = g.O.Output.meaning in
    let b = c.args.self.now in
    let states = c.lows.ensures ∙ sym (count_closed mean b.core) in
    let arcs = c.highs.ensures ∙ sym (count_closed_arcs mean b.core) in
    record {
      held = record { states = states; arcs = arcs };
      counts = λ P s. record {
        states = states ∙ ap (λ (m : Machine g.O.Output.kind.Ideal). length m.states) s.machine;
        arcs = arcs ∙ ap (λ (m : Machine g.O.Output.kind.Ideal). count_arcs m.states) s.machine;
        few_states = omega (arith, c.lows.ensures, length-take b.core.states.low b.core.states.cells.now, b.core.sound.few);
        few_arcs = omega (arith, c.highs.ensures, length-drop (length b.core.arcs.cells.now - b.core.arcs.high) b.core.arcs.cells.now, b.core.sound.arcfew);
      };
    }
