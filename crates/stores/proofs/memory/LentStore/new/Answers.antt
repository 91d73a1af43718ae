use Rattle.std.proofs.Common.{length, arith}
use Rattle.stores.proofs.Celling.{all_long, fits_within}
use Rattle.stores.proofs.memory.LentStore.new.Goals.{in-Ok, in-Err}
use Rattle.stores.proofs.memory.LentStore.new.Goals as goal

pub invariant_of-result : goal.invariant_of-result
invariant_of-result g c =
    let cells = c.args.memory.now in
    elim c.match-room.branch [
      | in-Ok w ↦
          let fit = fits_within (g.C.Cell.span (length cells)) c.args.used w.in-Ok.ensures.0 in
          rw w.used-is (record { ok = (omega (arith, fit.1, w.in-Ok.ensures.1), omega (arith, w.in-Ok.ensures.1, all_long g.met.C.Cell.in_turn cells), omega (arith, fit.0, w.in-Ok.ensures.1)) })
      | in-Err w ↦ rw w.used-is (record { ok = (omega arith, omega arith, omega arith) })
    ]
