use Rattle.std.proofs.Common.{rules}
use Rattle.sheets.proofs.FirstPlace.{cut_there}
use Rattle.sheets.proofs.cutting.cut_at.Goals as goal

pub returns : goal.returns
returns c =
    cut_there c.args.byte c.args.line.now c.first-place.result
    (search rules) (c.first-place.ensures.found (search rules)) c.first-place.ensures.before
