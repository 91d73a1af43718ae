use Rattle.std.proofs.Common.{arith}
use Rattle.builder.proofs.Standing.{pairs_counted}
use Rattle.builder.proofs.builder.Builder.check_seal.Goals as goal

pub returns-then-self-eq0 : goal.returns-then-self-eq0
returns-then-self-eq0 g c = record { seals = omega arith; pairs = λ states arcs P s. omega (arith, pairs_counted g.O.Output.kind g.met.O.Output.lawful g.O.Output.meaning g.O.Output.digested c.args.self.now.core states arcs P s, c.if-self-eq0.true) }
