use Rattle.std.proofs.Common.{◌++◌, length, get_or, take, sym, ap, ◌∙◌, subst, ap₂, arith, length-take-le}
use Rattle.std.proofs.lemmas.List.{take_all}
use Rattle.outputs.specs.Bits.{bits, spread}
use Rattle.outputs.specs.TextBytes.{spread_more}
use Rattle.outputs.proofs.text.calls.TextOutput.write.Goals as goal

pub loop-byte-preserved : goal.loop-byte-preserved
loop-byte-preserved g c =
    let t = c.args.self.now in
    let i = c.loop-byte.byte-index in
    let e = c.as_bytes-byte-items.ensures in
    subst (λ row. g.K.BitSink.took c.put.new.self row c.put-in-loop-byte.new.self)
    (ap (λ v. spread (take i (take t.len t.bytes)) ++ bits 8 v) (c.from.ensures ∙ ap (λ xs. get_or xs i 0) e) ∙ sym (spread_more (take t.len t.bytes) i (omega (arith, c.loop-byte-test.true, ap length e))))
    (g.K.BitSink.taking.in_turn _ _ _ _ _ c.loop-byte.invariant c.put-in-loop-byte.ensures)

pub returns : goal.returns
returns g c =
    let t = c.args.self.now in
    let e = c.as_bytes-byte-items.ensures in
    subst (λ row. g.K.BitSink.took c.args.sink.now row c.loop-byte.sink)
    (ap₂ (λ n xs. bits 5 n ++ spread xs)
    (sym (length-take-le t.len t.bytes (omega (arith, t.fits, t.row))))
    (take_all c.loop-byte.byte-index (take t.len t.bytes) (omega (arith, c.loop-byte-test.false, ap length e))))
    (g.K.BitSink.taking.in_turn _ _ _ _ _ c.put.ensures c.loop-byte.invariant)
