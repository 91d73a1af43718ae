use Rattle.std.proofs.Common.{◌<◌, arith, length-set}
use Rattle.stacks.proofs.TwoEnds.{length_low, high_kept, low_set}
use Rattle.stacks.proofs.stack.Stacks.set_low.Goals as goal

pub returns : goal.returns
returns g c =
    let s = c.args.self.now in
    let l = length_low s.cells.now s.low s.high c.args.self.now.room in
    let k : c.args.i < s.low = omega arith in
    record {
      lows = low_set s.cells.now s.low s.high c.args.self.now.room c.args.i c.args.x k;
      highs = high_kept s.cells.now s.low s.high c.args.self.now.room c.args.i c.args.x (omega arith);
      capacity = length-set _ _ _;
    }
