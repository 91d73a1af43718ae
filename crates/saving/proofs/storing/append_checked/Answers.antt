use Rattle.std.proofs.Common.{◌≡◌, ◌+◌, ◌<◌, ◌≤◌, length, Ok, Err, refl, arith}
use Rattle.outputs.specs.Bits.{packed}
use Rattle.images.proofs.Packing.{length_packed}
use Rattle.saving.specs.declared.refusal.SaveRefusal.TheVariants.{NoRoom}
use Rattle.saving.specs.Standing.{bits_of}
use Rattle.saving.proofs.Stood.{saves_pairs}
use Rattle.saving.proofs.storing.append_checked.Goals as goal

pub returns-then-spare-to : goal.returns-then-spare-to
returns-then-spare-to g c =
    let rows = c.args.rows.now in
    let old = c.args.store.now in
    let row = bits_of g.O.Output.kind g.O.Output.meaning rows in
    let some_keys : 0 < rows.keys = omega arith in
    let full : g.S.Store.room old < length (g.S.Store.bytes old) + length (packed row) =
    omega (arith, length_packed row, c.requires.place, c.requires.size, c.requires.spare, c.if-spare-to.true, (g.S.Store.sound old).within) in
    record {
      image = (some_keys, full, refl);
      pairs = saves_pairs g.S.Store.bytes g.S.Store.room g.O.Output.kind g.O.Output.meaning rows old old (Err NoRoom) (some_keys, full, refl);
      capacity = refl;
      follows = g.S.Store.chained.stay old;
    }

pub append_image-requires : goal.append_image-requires
append_image-requires g c =
    let old = c.args.store.now in
    let row = bits_of g.O.Output.kind g.O.Output.meaning c.args.rows.now in
    omega (arith, length_packed row, c.requires.place, c.requires.size, c.requires.spare, c.if-spare-to.false, (g.S.Store.sound old).within)

pub returns : goal.returns
returns g c =
    let rows = c.args.rows.now in
    let old = c.args.store.now in
    let row = bits_of g.O.Output.kind g.O.Output.meaning rows in
    let done = c.append_image.ensures in
    let some_keys : 0 < rows.keys = omega arith in
    let fits : length (g.S.Store.bytes old) + length (packed row) ≤ g.S.Store.room old =
    omega (arith, length_packed row, c.requires.place, c.requires.size, c.requires.spare, c.if-spare-to.false, (g.S.Store.sound old).within) in
    let size : c.args.to.length ≡ length (packed row) = omega (arith, length_packed row, c.requires.size) in
    record {
      image = (some_keys, fits, done.bytes, c.requires.place, size);
      pairs = saves_pairs g.S.Store.bytes g.S.Store.room g.O.Output.kind g.O.Output.meaning rows old c.append_image.new.store
          (Ok c.args.to) (some_keys, fits, done.bytes, c.requires.place, size);
      capacity = done.room;
      follows = done.follows;
    }
