use Rattle.std.proofs.Common.{◌≡◌, ℕ, ◌-◌, ◌<◌, length, get_or, subst, arith}
use Rattle.stacks.specs.Stacks.{lows, highs}
use Rattle.records.specs.declared.record.State.{State}
use Rattle.records.proofs.Laying.{laid_at}
use Rattle.pushing.proofs.reading.record.Goals as goal

pub returns : goal.returns
returns g c =
    let s = c.args.core.now in
    let hs = highs s.states in
    let x = c.at_high.result in
    let i = length hs - 1 - c.args.depth in
    let there : (e : State g.row.O.Denot) → x ≡ get_or hs i e = subst (λ (m : ℕ). (e : State g.row.O.Denot) → x ≡ get_or hs (m - 1 - c.args.depth) e) c.highs.ensures c.at_high.ensures in
    let h : i < length hs = omega arith in
    let r = laid_at (length (lows s.arcs)) hs i x h s.sound.laid (there x) in
    record { at = there; fits = r.0; leads = λ k. r.1 (omega arith) }
