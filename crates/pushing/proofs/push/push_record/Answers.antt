use Rattle.std.proofs.Common.{◌≡◌, ℕ, ◌-◌, ◌<◌, List, map, reverse, length, get_or, set, sym, refl, ap, ◌∙◌, subst, arith, length-set}
use Rattle.stacks.specs.Stacks.{lows, highs}
use Rattle.outputs.specs.Joins.{join_or_empty}
use Rattle.machines.specs.Machines.{Arc as Edge}
use Rattle.records.specs.declared.record.State.{State}
use Rattle.records.specs.Lying.{Laid, Since}
use Rattle.records.specs.Holding.{arcs_of, open_record, held}
use Rattle.records.proofs.Laying.{laid_set, since_set, since_at}
use Rattle.records.proofs.Moving.{moved}
use Rattle.pushing.proofs.Joining.{pushes, pushes_nothing}
use Rattle.pushing.proofs.Keeping.{shape_none}
use Rattle.pushing.proofs.OneRecord.{records_under}
use Rattle.pushing.proofs.push.push_record.Goals as goal

pub returns : goal.returns
returns g c =
    let k = g.O.Output.kind in
    let mean = g.O.Output.meaning in
    let front = mean c.args.front in
    let b = c.args.core.now in
    let m = c.push_arcs.new.core in
    let p = c.push_arcs.ensures in
    let w = p.shape.keeps in
    let s = c.set_high.ensures in
    let x = c.record-state.result in
    let y = c.with_end.result in
    let e = c.with_end.ensures in
    let hs = highs b.states in
    let d = c.args.depth in
    let i = length hs - 1 - d in
    let at : x ≡ get_or hs i x = c.record-state.ensures.at x in
    let h : i < length hs = omega (arith, c.requires) in
    let n : c.highs.result ≡ length hs = c.highs.ensures ∙ ap length p.records in
    let put_in : highs c.set_high.new.self ≡ set hs i y = s.highs ∙ ap (λ (xs : List (State g.row.O.Denot)). set xs (c.highs.result - 1 - d) y) p.records ∙ ap (λ (j : ℕ). set hs (j - 1 - d) y) n in
    let E = arcs_of mean (lows b.arcs) in
    record {
      shape = record {
        keeps = record {
          states = s.lows ∙ w.states;
          arcs = w.arcs;
          slots = w.slots;
          staterooms = s.capacity ∙ w.staterooms;
          arcrooms = w.arcrooms;
        };
        pairs = p.shape.pairs;
        openings = ap length put_in ∙ length-set _ _ _;
        arcs = p.shape.arcs;
      };
      start = p.start;
      records = λ joins. ap (λ (xs : List (State g.row.O.Denot)). reverse (map (open_record mean (arcs_of mean (lows m.arcs))) xs)) put_in
          ∙ ap (λ (es : List (Edge k.Ideal)). reverse (map (open_record mean es) (set hs i y))) p.arcs
          ∙ records_under mean (join_or_empty k front) E x y e (length (lows b.arcs)) hs d b.sound.laid c.requires at
          ∙ pushes k front d (held mean b).open' joins;
    }

pub returns-then-same : goal.returns-then-same
returns-then-same g c =
    let k = g.O.Output.kind in
    let mean = g.O.Output.meaning in
    let b = c.args.core.now in
    let e : mean c.args.front ≡ k.empty = c.same.ensures.equal c.if-same.true ∙ c.empty.ensures in
    record { shape = shape_none b; start = refl; records = λ joins. sym (pushes_nothing k g.met.O.Output.lawful (mean c.args.front) e c.args.depth (held mean b).open') }

pub invariant_of-core : goal.invariant_of-core
invariant_of-core g c =
    let b = c.args.core.now in
    let m = c.push_arcs.new.core in
    let p = c.push_arcs.ensures in
    let s = c.set_high.ensures in
    let x = c.record-state.result in
    let y = c.with_end.result in
    let e = c.with_end.ensures in
    let hs = highs b.states in
    let i = length hs - 1 - c.args.depth in
    let at : x ≡ get_or hs i x = c.record-state.ensures.at x in
    let h : i < length hs = omega (arith, c.requires) in
    let n : c.highs.result ≡ length hs = c.highs.ensures ∙ ap length p.records in
    let put_in : highs c.set_high.new.self ≡ set hs i y = s.highs ∙ ap (λ (xs : List (State g.row.O.Denot)). set xs (c.highs.result - 1 - c.args.depth) y) p.records ∙ ap (λ (j : ℕ). set hs (j - 1 - c.args.depth) y) n in
    let lain : Laid (length (lows m.arcs)) hs = subst (Laid (length (lows m.arcs))) p.records m.sound.laid in
    let sin : Since m.pairs hs = subst (Since m.pairs) p.records m.sound.since in
    let key = since_at m.pairs hs i x h sin at in
    record {
      sound = moved m c.set_high.new.self m.arcs m.slots.now refl s.lows refl s.capacity refl
          (subst (Laid (length (lows m.arcs))) (sym put_in) (laid_set (length (lows m.arcs)) hs i y x lain at e.first e.count))
          (subst (Since m.pairs) (sym put_in) (since_set m.pairs hs i y sin (omega (arith, e.keys))))
          m.sound.paired;
    }
