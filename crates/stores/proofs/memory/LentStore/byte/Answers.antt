use Rattle.std.proofs.Common.{◌%◌, get_or, ap₂, ◌∙◌, arith}
use Rattle.stores.proofs.Celling.{read_byte}
use Rattle.stores.proofs.memory.LentStore.byte.Goals as goal

pub returns : goal.returns
returns g c =
    let cells = c.args.self.now.memory.now in
    let d = c.index-self-cell.result in
    c.byte.ensures
    ∙ ap₂ (λ m n. get_or (g.C.Cell.one (get_or cells m d)) (c.args.i % n) 0) c.cell.ensures.place c.SIZE.ensures
    ∙ read_byte g.met.C.Cell.in_turn cells c.args.i d (omega arith)
