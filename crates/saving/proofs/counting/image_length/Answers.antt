use Rattle.std.proofs.Common.{arith}
use Rattle.saving.proofs.Laid.{image_small}
use Rattle.saving.proofs.counting.image_length.Goals as goal

pub returns : goal.returns
returns g c =
    let rows = c.args.rows.now in
    let small = image_small g.O.Output.kind g.O.Output.meaning g.met.O.Output.lawful g.met.O.Output.stored rows in
    record { is = omega (arith, c.new-counter.ensures, c.write_image.ensures, small); small = omega (arith, c.new-counter.ensures, c.write_image.ensures, small) }
