use Rattle.std.proofs.Common.{◌∙◌}
use Rattle.machines.specs.Asked.{gives}
use Rattle.machines.specs.Lists.{at}
use Rattle.machines.specs.Machines.{arc_at}
use Rattle.lookups.specs.Lookups.{bits_of}
use Rattle.reading.proofs.Ways.{err_walk, step_lacks, step_refuses, step_joins}
use Rattle.reading.proofs.walking.step.Goals as goal

pub returns-in_default-arc_output : goal.returns-in_default-arc_output
returns-in_default-arc_output g c = λ m h.
    step_lacks g.O.Output.kind (bits_of g.S.Store.bytes c.args.loaded.now) (g.O.Output.meaning c.args.reached.output) (arc_at (at m.states c.args.reached.state) c.args.byte) c.in-Some.place (c.in-Some.ensures m h) c.in_default-arc_output.ensures

pub returns-in_err-output : goal.returns-in_err-output
returns-in_err-output g c = λ m h.
    err_walk g.O.Output.meaning c.from_residual.result c.from_residual.ensures.0
    ∙ step_refuses g.O.Output.kind (bits_of g.S.Store.bytes c.args.loaded.now) (g.O.Output.meaning c.args.reached.output) (arc_at (at m.states c.args.reached.state) c.args.byte) c.in-Some.place _ (c.in-Some.ensures m h)
    (λ arc s. (c.in-Some-arc_output.ensures arc s).0) c.in_err-output.ensures

pub returns : goal.returns
returns g c = λ m h.
    step_joins g.O.Output.kind (bits_of g.S.Store.bytes c.args.loaded.now) (g.O.Output.meaning c.args.reached.output) (arc_at (at m.states c.args.reached.state) c.args.byte) c.in-Some.place c.target_at-state.result _ (gives (g.O.Output.meaning c.in_ok-output.output)) (c.in-Some.ensures m h)
    (λ arc s. (c.in-Some-arc_output.ensures arc s).0) c.target_at-state.ensures.target c.in_ok-output.ensures
