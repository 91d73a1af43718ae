use Rattle.std.proofs.Common.{take, ap, ◌∙◌}
use Rattle.std.proofs.lemmas.List.{take_min}
use Rattle.output_trials.proofs.tape.Tape.new.Goals as goal

pub returns : goal.returns
returns c = ap (λ n. take n c.args.row.now) c.min.ensures ∙ take_min 256 c.args.row.now
