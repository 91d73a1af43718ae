use Rattle.std.proofs.Common.{◌/◌, ap}
use Rattle.stores.proofs.Celling.{cell_there}
use Rattle.stores.proofs.memory.LentStore.cell.Goals as goal

pub returns : goal.returns
returns g c = record {
  place = ap (λ n. c.args.i / n) c.SIZE.ensures;
  there = cell_there g.met.C.Cell.in_turn c.args.self.now.memory.now c.args.i _ c.SIZE.ensures c.requires;
}
