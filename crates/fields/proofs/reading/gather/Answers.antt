use Rattle.std.proofs.Common.{◌≡◌, ℕ, ◌+◌, ◌<◌, get_or, drop, sym, subst, arith}
use Rattle.fields.proofs.FieldValues.{gather_none, gather_more, gather_below}
use Rattle.fields.proofs.reading.gather.Goals as goal

pub loop-i-init : goal.loop-i-init
loop-i-init g c = (gather_none (g.S.Store.bytes c.args.store.now) c.args.first, omega arith)

pub overflow_mul-row : goal.overflow_mul-row
overflow_mul-row g c = omega (arith, gather_below (drop c.args.first (g.S.Store.bytes c.args.store.now)) c.loop-i.i c.loop-i.row (omega arith) c.loop-i.invariant.0)

pub overflow_add-row : goal.overflow_add-row
overflow_add-row g c = omega (arith, gather_below (drop c.args.first (g.S.Store.bytes c.args.store.now)) c.loop-i.i c.loop-i.row (omega arith) c.loop-i.invariant.0)

pub loop-i-preserved : goal.loop-i-preserved
loop-i-preserved g c =
    let b = c.in_ok-at.ensures in
    let small : c.from.result < 256 = omega arith in
    (gather_more (g.S.Store.bytes c.args.store.now) c.args.first c.loop-i.i c.loop-i.row c.from.result b.0 (subst (λ (z : ℕ). z ≡ get_or (g.S.Store.bytes c.args.store.now) (c.args.first + c.loop-i.i) 0) (sym c.from.ensures) b.1) small c.loop-i.invariant.0, omega (arith, b.0))
