use Rattle.std.proofs.Common.{◌≡◌, ℕ, List, length, sym, ap, ◌∙◌, subst, arith}
use Rattle.stacks.specs.Stacks.{lows, highs}
use Rattle.construction.specs.Records.{Closed, state_of}
use Rattle.records.specs.Shape.{closings}
use Rattle.records.specs.Holding.{closed, closed_states, opened}
use Rattle.records.specs.Registering.{Register}
use Rattle.records.proofs.Counting.{count_closed}
use Rattle.comparing.specs.Newest.{newest}
use Rattle.records.proofs.Storing.{stored_closed}
use Rattle.closing.proofs.Finding.{stored_top, number_found}
use Rattle.closing.proofs.Entering.{enter_found}
use Rattle.closing.proofs.close_top.Goals as goal

pub returns-in-Ok : goal.returns-in-Ok
returns-in-Ok g c =
    let k = g.O.Output.kind in
    let mean = g.O.Output.meaning in
    let dig = g.O.Output.digested in
    let b = c.args.core.now in
    let a = c.drop_top.new.core in
    let d = c.drop_top.ensures.dropped in
    let ts = closed_states mean b in
    let q = c.in-Ok.number in
    let told = c.in-Ok.ensures in
    let n : length ts ≡ closings b = count_closed mean b in
    let top : newest (opened mean b) ≡ state_of d.top = ap newest d.was in
    let states : closed_states mean a ≡ ts = ap (λ (x : Closed k.Ideal). x.states) d.closed in
    record {
      popped = c.drop_top.ensures.popped;
      closes = λ reg.
          let there = number_found k g.met.O.Output.lawful (state_of d.top) (stored_top k mean g.met.O.Output.stored (lows b.arcs) (highs b.states) d.top _ d.was) ts q (stored_closed k mean g.met.O.Output.stored (highs b.arcs) (lows b.states))
          reg.distinct (omega (arith, told.0, n)) (sym top ∙ told.1) in
          record { top = d.top; was = d.was; entered = enter_found k b.pairs (closed mean b) d.top q there ∙ (λ i. (q, sym d.closed i)) };
      registered = λ reg. subst (λ (xs : List ℕ). Register dig xs (closed_states mean a)) (sym d.slots) (subst (Register dig b.slots.now) (sym states) reg);
    }
