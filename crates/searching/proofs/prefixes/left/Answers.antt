use Rattle.std.proofs.Common.{rules}
use Rattle.searching.proofs.Prefixed.{left_told}
use Rattle.searching.proofs.prefixes.left.Goals as goal

pub returns : goal.returns
returns g c =
    left_told g.met.O.Output.lawful g.O.Output.meaning (g.O.Output.meaning c.args.part.now) (g.O.Output.meaning c.args.output.now) c.is_prefix.result c.then.result _ c.is_prefix.ensures c.then.ensures.variant c.then.ensures.some
    (λ y given. search rules)
