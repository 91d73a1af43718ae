use Rattle.std.proofs.Common.{◌≡◌, ◌+◌, ◌-◌, length, ap, ◌∙◌, arith}
use Rattle.outputs.proofs.TextArrays.{all_bytes_fit, put_whole, put_long, put_spare}
use Rattle.outputs.proofs.text.Text.followed_by.Goals as goal

pub invariant_of-result : goal.invariant_of-result
invariant_of-result c =
    let t = c.args.self.now in
    let more = c.args.more.now in
    let put = c.copy_from_slice.new.self in
    let e : put ≡ more = c.copy_from_slice.ensures.after in
    let long : length put ≡ t.len + length more - t.len = ap length e ∙ omega arith in
    record {
      fits = c.requires;
      whole = put_whole t.len _ t.bytes put t.whole (rw e (all_bytes_fit more (λ i. omega (arith, c.type_inv.more i))));
      row = put_long t.len _ t.bytes put (omega (arith, t.row, c.requires)) long ∙ t.row;
      spare = put_spare t.len _ 24 _ t.bytes put (omega arith) (omega (arith, t.row, c.requires)) long t.spare;
    }
