use Rattle.std.proofs.Common.{◌<◌, arith, length-set}
use Rattle.stacks.proofs.TwoEnds.{length_high, high_set, low_kept_at}
use Rattle.stacks.proofs.stack.Stacks.set_high.Goals as goal

pub returns : goal.returns
returns g c =
    let s = c.args.self.now in
    let l = length_high s.cells.now s.low s.high c.args.self.now.room in
    let k : c.args.i < s.high = omega arith in
    record {
      lows = low_kept_at s.cells.now s.low s.high c.args.self.now.room c.args.i c.args.x k;
      highs = high_set s.cells.now s.low s.high c.args.self.now.room c.args.i c.args.x k;
      capacity = length-set _ _ _;
    }
