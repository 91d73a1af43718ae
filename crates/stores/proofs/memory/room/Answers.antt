use Rattle.std.proofs.Common.{◌/◌, ◌*◌, ◌<◌, refl, subst}
use Rattle.stores.proofs.Celling.{too_many, too_few}
use Rattle.stores.proofs.memory.room.Goals.{then-cells-SIZE-via-then-cells-SIZE, then-cells-SIZE-via-else-cells-SIZE+then-used-SIZE}
use Rattle.stores.proofs.memory.room.Goals as goal

pub returns-then-cells-SIZE : goal.returns-then-cells-SIZE
returns-then-cells-SIZE g c =
    let cells = c.args.cells in
    let used = c.args.used in
    let laws = g.met.C.Cell.in_turn in (
      elim c.then-cells-SIZE.branch [
        | then-cells-SIZE-via-then-cells-SIZE w ↦ too_many laws cells used (subst (λ n. 16777216 / n < cells) c.SIZE.ensures w.if-cells-SIZE.true)
        | then-cells-SIZE-via-else-cells-SIZE+then-used-SIZE w ↦ too_few laws cells used (subst (λ n. n * cells < used) w.SIZE-else-cells-SIZE.ensures w.if-used-SIZE.true)
      ],
      refl,
    )
