use Rattle.std.proofs.Common.{◌<◌, ⊎_elim, arith}
use Rattle.builder.proofs.Allowed.{no_states, many_states, no_arcs, many_arcs, few_slots, not_refused}
use Rattle.builder.proofs.lent.check.Goals as goal

pub returns-then-states-eq0 : goal.returns-then-states-eq0
returns-then-states-eq0 c = ⊎_elim (λ z. no_states c.args.states c.args.arcs c.args.slots z) (λ w. many_states c.args.states c.args.arcs c.args.slots w.1) c.then-states-eq0.either

pub returns-then-arcs-eq0 : goal.returns-then-arcs-eq0
returns-then-arcs-eq0 c =
    let p : 0 < c.args.states = omega (arith, c.if-states-eq0.false) in
    let q = c.if-states-gt65535.false in
    ⊎_elim (λ z. no_arcs c.args.states c.args.arcs c.args.slots p q z) (λ w. many_arcs c.args.states c.args.arcs c.args.slots p q w.1) c.then-arcs-eq0.either

pub returns-then-slots-states : goal.returns-then-slots-states
returns-then-slots-states c =
    few_slots c.args.states c.args.arcs c.args.slots (omega (arith, c.if-states-eq0.false)) c.if-states-gt65535.false (omega (arith, c.if-arcs-eq0.false)) c.if-arcs-gt131071.false c.if-slots-states.true

pub returns : goal.returns
returns c =
    not_refused c.args.states c.args.arcs c.args.slots (omega (arith, c.if-states-eq0.false)) c.if-states-gt65535.false (omega (arith, c.if-arcs-eq0.false)) c.if-arcs-gt131071.false c.if-slots-states.false
