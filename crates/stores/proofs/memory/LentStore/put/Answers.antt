use Rattle.std.proofs.Common.{◌%◌, get_or, set, sym, ap, ap₂, ◌∙◌, arith, length-set}
use Rattle.stores.proofs.Celling.{all_long, written_byte}
use Rattle.stores.proofs.memory.LentStore.put.Goals as goal

pub invariant_of-self : goal.invariant_of-self
invariant_of-self g c =
    let s = c.args.self.now in
    let cells = s.memory.now in
    let laws = g.met.C.Cell.in_turn in
    let place = c.cell-place.result in
    let long = all_long laws (set cells place c.with_byte.result) ∙ ap g.C.Cell.span (length-set cells place c.with_byte.result) ∙ sym (all_long laws cells) in
    record { ok = (omega arith, omega (arith, long), omega arith) }

pub returns-clause-memory : goal.returns-clause-memory
returns-clause-memory g c =
    let s = c.args.self.now in
    let cells = s.memory.now in
    let d = c.index-self-place.result in
    ap (λ n. g.C.Cell.all (set cells n c.with_byte.result)) c.cell-place.ensures.place
    ∙ written_byte g.met.C.Cell.in_turn cells s.used c.args.byte d c.with_byte.result (omega arith)
    (c.with_byte.ensures ∙ ap₂ (λ m n. set (g.C.Cell.one (get_or cells m d)) (s.used % n) c.args.byte) c.cell-place.ensures.place c.SIZE.ensures)
