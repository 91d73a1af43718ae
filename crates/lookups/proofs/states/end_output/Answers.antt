use Rattle.std.proofs.lemmas.Bool.{not-false}
use Rattle.lookups.specs.Lookups.{bits_of}
use Rattle.lookups.proofs.StateSteps.{end_lacks}
use Rattle.lookups.proofs.states.end_output.Goals as goal

pub returns-in_err-output : goal.returns-in_err-output
returns-in_err-output g c = λ s h. absurd (end_lacks g.O.Output.kind (bits_of g.S.Store.bytes c.args.loaded.now) c.args.opened s h (not-false c.args.opened.ends c.if-not-opened.false) c.in_err-output.ensures)
