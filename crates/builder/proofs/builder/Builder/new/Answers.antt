use Rattle.std.proofs.Common.{length, sym, ◌∙◌, arith}
use Rattle.std.proofs.lemmas.List.{length-take-le}
use Rattle.builder.proofs.Allowed.{used_within, used_arcs}
use Rattle.builder.proofs.builder.Builder.new.Goals as goal

pub slice_bounds-new-end : goal.slice_bounds-new-end
slice_bounds-new-end g c =
    let u = used_within (length c.args.states.now) (length c.args.arcs.now) (length c.args.slots.now) in
    sym (length-take-le c.usable-n.result c.args.states.now (omega (arith, u.0, c.usable-n.ensures)))

pub new-core-requires : goal.new-core-requires
new-core-requires g c =
    let u = used_within (length c.args.states.now) (length c.args.arcs.now) (length c.args.slots.now) in
    let s = length-take-le c.usable-n.result c.args.states.now (omega (arith, u.0, c.usable-n.ensures)) in
    let a = length-take-le c.min-m.result c.args.arcs.now (omega (arith, c.min-m.ensures)) in
    record {
      few = omega (arith, s, u.1, c.usable-n.ensures);
      arcfew = omega (arith, a, c.min-m.ensures);
      slotroom = omega (arith, s, u.2, c.usable-n.ensures, c.clear.auto.slots);
      clear = c.clear.ensures;
    }

pub returns : goal.returns
returns g c =
    let e = c.new-core.ensures in
    let states = length c.args.states.now in
    let arcs = length c.args.arcs.now in
    let slots = length c.args.slots.now in
    let u = used_within states arcs slots in
    let s = length-take-le c.usable-n.result c.args.states.now (omega (arith, u.0, c.usable-n.ensures)) in
    let a = length-take-le c.min-m.result c.args.arcs.now (omega (arith, c.min-m.ensures)) in
    record {
      stateroom = e.stateroom ∙ s ∙ c.usable-n.ensures;
      arcroom = e.arcroom ∙ a ∙ c.min-m.ensures;
      registered = e.registered;
      holds = e.holds;
      stands = record {
        stateroom = e.stateroom ∙ s ∙ c.usable-n.ensures;
        arcroom = λ l. omega (arith, e.arcroom, a, c.min-m.ensures, used_arcs states arcs slots l);
        takeable = record { ascending = tt; bytes = tt; short = tt; few = omega arith; storable = tt };
        registered = e.registered;
        holds = e.holds;
      };
    }
