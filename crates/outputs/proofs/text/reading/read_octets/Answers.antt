use Rattle.std.proofs.Common.{◌≡◌, ℕ, List, ◌*◌, replicate, subst, [], ◌∷◌, ◌++◌, refl, take, drop, sym, ap, ◌∙◌, ap₂, add-one, arith, length-set, length-take-le}
use Rattle.std.proofs.lemmas.List.{take_more_set, take_all, drop-drop}
use Rattle.std.proofs.lemmas.Slice.{take-put_mid}
use Rattle.outputs.specs.Bits.{value}
use Rattle.outputs.specs.TextReading.{octets}
use Rattle.outputs.specs.TextBytes.{all_bytes_set, all_bytes_take}
use Rattle.outputs.proofs.TextReads.{octets_more}
use Rattle.outputs.proofs.TextArrays.{put_whole, put_long, put_spare}
use Rattle.outputs.proofs.text.reading.read_octets.Goals as goal

pub loop-i-init : goal.loop-i-init
loop-i-init g c = (omega (arith, c.requires), refl, all_bytes_take c.args.len _ refl, length-take-le c.args.len _ c.requires.0)

pub loop-i-preserved : goal.loop-i-preserved
loop-i-preserved g c =
    let all = g.B.BitSource.all c.args.source.now in
    let p = c.args.place in
    let i = c.loop-i.i in
    let v = c.in_ok-byte.field-0 in
    let h = c.in_ok-byte.ensures in
    let inv = c.loop-i.invariant in (
      omega (arith, h.0),
      take_more_set c.loop-i.byte-items i v (omega (arith, inv.3, c.loop-i-test.true, c.requires))
          ∙ ap₂ (λ xs x. xs ++ x ∷ []) inv.1 (h.2 ∙ ap (λ row. value (take 8 row)) (sym (drop-drop (8 * i) p all)))
          ∙ sym (octets_more i (drop p all))
          ∙ ap (λ n. octets n (drop p all)) (sym (add-one i)),
      all_bytes_set c.loop-i.byte-items i v inv.2 (omega (arith, h.3)),
      length-set c.loop-i.byte-items i v ∙ inv.3,
    )

pub returns-clause-read : goal.returns-clause-read
returns-clause-read g c =
    let inv = c.loop-i.invariant in
    let n = c.args.len in
    let items = c.loop-i.byte-items in
    let zeros : List ℕ = replicate 24 0 in
    let row = drop c.args.place (g.B.BitSource.all c.args.source.now) in
    let e : c.loop-i.i ≡ n = omega (arith, inv.3, c.loop-i-test.false, length-take-le n zeros c.requires.0) in (
      rw (sym e) inv.0,
      take-put_mid 0 n zeros items n (omega (arith, inv.3)) (omega arith)
          ∙ subst (λ k. items ≡ octets k row) e (sym (take_all c.loop-i.i items (omega (arith, inv.3, e))) ∙ inv.1),
      put_whole 0 n zeros items refl inv.2,
      put_long 0 n zeros items (omega (arith, c.requires.0)) inv.3,
    )

pub returns-clause-spare : goal.returns-clause-spare
returns-clause-spare g c = put_spare 0 c.args.len 24 c.args.len (replicate 24 0) c.loop-i.byte-items (omega arith) (omega (arith, c.requires.0)) c.loop-i.invariant.3 refl
