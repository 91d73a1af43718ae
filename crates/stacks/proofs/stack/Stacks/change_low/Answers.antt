use Rattle.std.proofs.Common.{◌≡◌, ℕ, ◌-◌, length, take, drop, ap, ◌∙◌, subst, arith}
use borrow.Rule.Slice.PartMut.{put_mid, same_len_mid}
use Rattle.std.proofs.lemmas.Slice.{drop-put_mid}
use Rattle.std.proofs.lemmas.List.{length-take-le, length-drop}
use Rattle.stacks.specs.Stacks.{Changed}
use Rattle.stacks.proofs.TwoEnds.{length_low}
use Rattle.stacks.proofs.Changing.{changed_none, changed_more, changed_part}
use Rattle.stacks.proofs.stack.Stacks.change_low.Goals as goal

pub loop-x-init : goal.loop-x-init
loop-x-init g c = changed_none _ _

pub loop-x-preserved : goal.loop-x-preserved
loop-x-preserved g c = changed_more _ c.loop-x.x-index _ c.loop-x.x-items c.x-item.result _ (omega (arith, c.loop-x.auto.x-items, c.loop-x-test.true)) c.loop-x.invariant c.change.ensures

pub returns-clause-lows : goal.returns-clause-lows
returns-clause-lows g c =
    let s = c.args.self.now in
    let cells = s.cells.now in
    let from = c.args.from in
    let k = c.args.to - from in
    let l = length_low cells s.low s.high s.room in
    let n : length (take k (drop from cells)) ≡ k = length-take-le k (drop from cells) (omega (arith, length-drop from cells)) in
    let i : c.loop-x.x-index ≡ k = omega (arith, n, c.loop-x.auto.x-index-end, c.loop-x-test.false) in
    changed_part _ from k c.args.to s.low cells c.loop-x.x-items (omega arith) (omega arith) (omega arith)
    (subst (λ (m : ℕ). Changed (λ x y. g.F.Fn.post c.args.change (x, tt) y) 0 m (take k (drop from cells)) c.loop-x.x-items) i c.loop-x.invariant)

pub returns-clause-highs : goal.returns-clause-highs
returns-clause-highs g c =
    let s = c.args.self.now in
    let cells = s.cells.now in
    let from = c.args.from in
    let k = c.args.to - from in
    let items = c.loop-x.x-items in
    let l = length_low cells s.low s.high s.room in
    let n : length items ≡ k = c.loop-x.auto.x-items ∙ length-take-le k (drop from cells) (omega (arith, length-drop from cells)) in
    let wide : length (put_mid from k cells items) ≡ length cells = same_len_mid from k cells items c.loop-x.auto.x-items in
    ap (λ (m : ℕ). drop (m - s.high) (put_mid from k cells items)) wide ∙ drop-put_mid from k cells items (length cells - s.high) (omega arith) (omega arith) n
