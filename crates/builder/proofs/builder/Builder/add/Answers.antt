use Rattle.builder.proofs.Octets.{slice_octets}
use Rattle.builder.proofs.Standing.{stands_after, refused_unchanged}
use Rattle.builder.proofs.builder.Builder.add.Goals as goal

pub returns : goal.returns
returns g c =
    let k = g.O.Output.kind in
    let laws = g.met.O.Output.lawful in
    let mean = g.O.Output.meaning in
    let digested = g.O.Output.digested in
    let key = c.args.key.now in
    let x = mean c.args.output in
    let before = c.args.self.now.core in
    let after = c.add.new.core in
    let e = c.add.ensures in
    let octets = slice_octets key c.type_inv.key in
    record {
      rooms = e.rooms;
      adds = e.adds;
      told = λ states arcs P s. (stands_after k laws mean digested before states arcs P key s x octets (g.met.O.Output.stored c.args.output) after e.rooms c.add.result e.adds).0;
      stands = λ states arcs P s. (stands_after k laws mean digested before states arcs P key s x octets (g.met.O.Output.stored c.args.output) after e.rooms c.add.result e.adds).1;
      unchanged = refused_unchanged k laws mean digested key x before after c.add.result e.adds;
      octets = octets;
    }
