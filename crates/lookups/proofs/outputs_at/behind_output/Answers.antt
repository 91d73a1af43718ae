use Rattle.std.proofs.Common.{rules}
use Rattle.lookups.proofs.RowSteps.{behind_read}
use Rattle.lookups.proofs.outputs_at.behind_output.Goals as goal

pub returns : goal.returns
returns g c = λ x h.
    behind_read g.O.Output.kind g.O.Output.meaning c.args.place x c.output_at.result c.map_or.result _ c.map_or.ensures (λ y post. search rules) (c.output_at.ensures x h)
