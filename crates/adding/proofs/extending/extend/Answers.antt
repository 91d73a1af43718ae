use Rattle.std.proofs.Common.{◌≡◌, ℕ, suc, ◌+◌, ◌<◌, ◌-◌, ◌≤◌, List, [], ◌∷◌, ◌++◌, length, get_or, take, drop, sym, ap, ◌∙◌, add-one, arith}
use Rattle.std.proofs.lemmas.List.{drop_more, drop_all, take_all, length-drop}
use Rattle.construction.specs.Records.{blank}
use Rattle.construction.specs.Steps.{add_arc, extend_last}
use Rattle.machines.specs.Keys.{Key}
use Rattle.records.specs.Holding.{held}
use Rattle.records.proofs.Counting.{count_open}
use Rattle.records.proofs.Moving.{closed_still}
use Rattle.pushing.proofs.Keeping.{keeps_both}
use Rattle.adding.specs.Extending.{at_last}
use Rattle.adding.proofs.LastRecord.{extend_more, extend_done}
use Rattle.adding.proofs.extending.extend.Goals as goal

pub loop-byte-preserved : goal.loop-byte-preserved
loop-byte-preserved g c =
    let k = g.O.Output.kind in
    let mean = g.O.Output.meaning in
    let b = c.args.core.now in
    let m = c.loop-byte.core in
    let n = c.add_arc.new.core in
    let a = c.open_record.new.core in
    let p = c.add_arc.ensures in
    let q = c.open_record.ensures in
    let inv = c.loop-byte.invariant in
    let i = c.loop-byte.byte-index in
    let key = c.args.key.now in
    let rest : List ℕ = take (length key - c.args.depth) (drop c.args.depth key) in
    let byte = get_or rest i 0 in
    let left = mean c.loop-byte.output in
    let os = (held mean m).open' in
    let within : i < length rest = omega (arith, c.loop-byte-test.true) in
    let some : 0 < length os = omega (arith, count_open mean m, inv.3) in
    let pp : n.pairs ≡ b.pairs = p.pairs ∙ inv.1 in
    let r : (held mean a).open' ≡ at_last (add_arc k byte left) os ++ (blank b.pairs ∷ []) = q.records ∙ (λ j. p.records j ++ (blank (pp j) ∷ [])) in
    let s0 = ap length p.keeps.states in
    let s1 = ap length q.keeps.states in
    let a0 = ap length p.keeps.arcs in
    let a1 = ap length q.keeps.arcs in (
      keeps_both b m a inv.0 (keeps_both m n a p.keeps q.keeps),
      q.pairs ∙ pp,
      q.start ∙ p.start ∙ inv.2,
      omega (arith, q.openings),
      omega (arith, inv.4, q.openings, p.openings, p.keeps.staterooms, q.keeps.staterooms),
      omega (arith, inv.5, q.arcs, p.arcs, p.keeps.arcrooms, q.keeps.arcrooms),
      (λ j. extend_last k b.pairs (r j) (drop (i + 1) rest) (c.empty-output.ensures j)) ∙ sym (extend_more k b.pairs os byte (drop (i + 1) rest) left some) ∙ ap (λ (w : Key). extend_last k b.pairs os w left) (sym (drop_more rest i 0 within)) ∙ inv.6,
    )

pub returns : goal.returns
returns g c =
    let k = g.O.Output.kind in
    let mean = g.O.Output.meaning in
    let b = c.args.core.now in
    let m = c.loop-byte.core in
    let a = c.accept.new.core in
    let e = c.accept.ensures in
    let inv = c.loop-byte.invariant in
    let key = c.args.key.now in
    let rest : List ℕ = take (length key - c.args.depth) (drop c.args.depth key) in
    let left = mean c.loop-byte.output in
    let os = (held mean m).open' in
    let some : 0 < length os = omega (arith, count_open mean m, inv.3) in
    let w = keeps_both b m a inv.0 e.keeps in
    let f = closed_still mean b w.states w.arcs in
    let over : length rest ≤ c.loop-byte.byte-index = omega (arith, c.loop-byte-test.false) in
    let whole : rest ≡ drop c.args.depth key = take_all (length key - c.args.depth) (drop c.args.depth key) (omega (arith, length-drop c.args.depth key)) in
    let r = e.records ∙ sym (extend_done k b.pairs os left some) ∙ ap (λ (v : Key). extend_last k b.pairs os v left) (sym (drop_all c.loop-byte.byte-index rest over)) ∙ inv.6 ∙ ap (λ (v : Key). extend_last k b.pairs (held mean b).open' v (mean c.args.left)) whole in
    let p : a.pairs ≡ suc b.pairs = e.pairs ∙ ap (λ (j : ℕ). j + 1) inv.1 ∙ add-one b.pairs in
    record { keeps = w; opened = omega (arith, e.openings, inv.3); holds = λ i. record { closed = f i; open' = r i; start = mean ((e.start ∙ inv.2) i); pairs = p i } }
