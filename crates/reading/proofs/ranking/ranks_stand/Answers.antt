use Rattle.std.proofs.Common.{ℕ, List, ap, ◌∙◌}
use Rattle.machines.specs.Asked.{rank}
use Rattle.machines.specs.Minimal.{minimal}
use Rattle.machines.proofs.Theorems.{numbering, right_readings}
use Rattle.reading.proofs.ranking.ranks_stand.Goals as goal

pub returns : goal.returns
returns g c = λ P proper w.
    ap (λ (counts : List ℕ). rank (minimal g.O.Output.kind P) counts w) (numbering g.O.Output.kind g.met.O.Output.lawful P proper).counted
    ∙ (right_readings g.O.Output.kind g.met.O.Output.lawful P proper).ranks w
