use Rattle.builder.proofs.Standing.{sealed_pairs}
use Rattle.builder.proofs.builder.Builder.seal.Goals as goal

pub returns : goal.returns
returns g c = record {
  closed = c.close_all.ensures.holds;
  sealed = λ states arcs P s. sealed_pairs g.O.Output.kind g.met.O.Output.lawful g.O.Output.meaning g.O.Output.digested c.args.self.core c.close_all.new.core states arcs P s c.close_all.ensures.holds;
}
