use Rattle.std.proofs.Common.{◌≡◌, ◌-◌, length, arith}
use Rattle.stacks.specs.Stacks.{lows}
use Rattle.stacks.proofs.TwoEnds.{cut_low, cut_high}
use Rattle.stacks.proofs.stack.Stacks.settle_all.Goals as goal

pub returns : goal.returns
returns g c =
    let i = c.loop.invariant in
    let s = c.args.self.now in
    let n : length (lows c.loop.self) ≡ length (lows s) - c.args.k = omega (arith, i.1) in
    record {
      lows = cut_low _ _ _ _ (length (lows s) - c.args.k) i.0 n (omega arith);
      highs = cut_high _ _ _ _ (length (lows s) - c.args.k) i.0 n (omega arith);
      capacity = i.2;
    }
