use Rattle.std.proofs.Common.{◌≡◌, ◌∙◌, arith}
use Rattle.outputs.specs.Bits.{spread}
use Rattle.fields.specs.Reads.{cut_at}
use Rattle.fields.specs.Marks.{pair_number}
use Rattle.fields.proofs.RowTests.{holds_number}
use Rattle.fields.proofs.mark.holds_pair.Goals as goal

pub returns : goal.returns
returns g c =
    let bytes = g.S.Store.bytes c.args.store.now in
    let number : c.from.result ≡ pair_number c.args.pair = ◌∙◌ {c = pair_number c.args.pair} c.from.ensures c.from_be_bytes.ensures in
    let h = c.in_ok-number.ensures in
    holds_number (spread bytes) c.args.place c.in_ok-number.number c.from.result (pair_number c.args.pair) (cut_at c.args.place bytes) h.0 h.2 number (omega arith)
