use Rattle.std.proofs.Common.{◌≡◌, ◌+◌, sym, ◌∙◌, arith}
use Rattle.construction.specs.Records.{newest_key}
use Rattle.records.specs.Holding.{held}
use Rattle.records.proofs.Counting.{count_closed, count_open, count_edges}
use Rattle.adding.specs.Admission.{states_held, arcs_held}
use Rattle.adding.proofs.Parting.{common_within}
use Rattle.adding.proofs.admission.admit.Goals as goal

pub overflow_sub-growth : goal.overflow_sub-growth
overflow_sub-growth g c =
    let within = common_within c.args.key.now (newest_key (held g.O.Output.meaning c.args.core.now).open') in
    omega (arith, within.0, c.common_prefix-depth.ensures)

pub returns-then-arcs-growth : goal.returns-then-arcs-growth
returns-then-arcs-growth g c =
    let mean = g.O.Output.meaning in
    let b = c.args.core.now in
    let n : states_held (held mean b) ≡ c.lows.result + c.max.result = omega (arith, count_closed mean b, count_open mean b, c.lows.ensures, c.highs.ensures, c.max.ensures) in
    let m : arcs_held (held mean b) ≡ c.lows-2.result + c.highs-2.result = omega (arith, count_edges mean b, c.lows-2.ensures, c.highs-2.ensures) in (
      c.if-key-gt64.false,
      sym c.is_above.ensures ∙ c.if-not-is_above.false,
      c.if-core-ge1048575.false,
      omega (arith, n, c.capacity.ensures, c.common_prefix-depth.ensures, c.if-states-growth.false),
      omega (arith, m, c.capacity-2.ensures, c.common_prefix-depth.ensures, c.if-arcs-growth.true),
    )

pub returns : goal.returns
returns g c =
    let mean = g.O.Output.meaning in
    let b = c.args.core.now in
    let n : states_held (held mean b) ≡ c.lows.result + c.max.result = omega (arith, count_closed mean b, count_open mean b, c.lows.ensures, c.highs.ensures, c.max.ensures) in
    let m : arcs_held (held mean b) ≡ c.lows-2.result + c.highs-2.result = omega (arith, count_edges mean b, c.lows-2.ensures, c.highs-2.ensures) in
    record {
      short = c.if-key-gt64.false;
      above = sym c.is_above.ensures ∙ c.if-not-is_above.false;
      few = c.if-core-ge1048575.false;
      stateroom = omega (arith, n, c.capacity.ensures, c.common_prefix-depth.ensures, c.if-states-growth.false);
      arcroom = omega (arith, m, c.capacity-2.ensures, c.common_prefix-depth.ensures, c.if-arcs-growth.false);
      shared = c.common_prefix-depth.ensures;
    }
