use Rattle.std.proofs.Common.{◌<◌, length, Some, None, sym, refl, ap, ◌∙◌, subst, arith}
use Rattle.loading.specs.Loading.{Holds}
use Rattle.lookups.specs.declared.rows.Arcs.{Arcs}
use Rattle.lookups.specs.Lookups.{bits_of}
use Rattle.lookups.proofs.HeldStates.{held_stored}
use Rattle.searching.proofs.SearchSteps.{Passing, given_by, seek_missing, seek_ends, seek_deep, passing_none, seek_passed, passing_other, passing_behind, seek_found}
use Rattle.searching.proofs.seeking.+seek.Goals as goal

pub returns-in_err-opened : goal.returns-in_err-opened
returns-in_err-opened g t c =
    let k = g.O.Output.kind in
    let loaded = c.args.loaded.now in
    seek_missing k g.met.O.Output.lawful g.O.Output.meaning (bits_of g.S.Store.bytes loaded) (Holds k g.O.Output.meaning g.S.Store.bytes loaded)
    c.args.state (g.O.Output.meaning c.args.output.now) c.args.depth
    c.args.buffer.now c.from_residual.result c.from_residual.ensures c.in_err-opened.ensures

pub returns-then-ends_with : goal.returns-then-ends_with
returns-then-ends_with g t c =
    let k = g.O.Output.kind in
    let loaded = c.args.loaded.now in
    seek_ends k g.met.O.Output.lawful g.O.Output.meaning (bits_of g.S.Store.bytes loaded) (Holds k g.O.Output.meaning g.S.Store.bytes loaded)
    c.args.state (g.O.Output.meaning c.args.output.now) c.args.depth c.in_ok-opened.opened c.in_ok-opened.ensures
    c.ends_with.result c.ends_with.ensures c.if-ends_with.true c.requires.depth c.args.buffer.now

pub returns-then-depth-eq64 : goal.returns-then-depth-eq64
returns-then-depth-eq64 g t c =
    let k = g.O.Output.kind in
    let loaded = c.args.loaded.now in
    seek_deep k g.met.O.Output.lawful g.O.Output.meaning (bits_of g.S.Store.bytes loaded) (Holds k g.O.Output.meaning g.S.Store.bytes loaded)
    c.args.state (g.O.Output.meaning c.args.output.now) c.args.depth c.in_ok-opened.opened c.in_ok-opened.ensures
    c.ends_with.result c.ends_with.ensures c.if-ends_with.false (omega arith) c.args.buffer.now

pub loop-arc-init : goal.loop-arc-init
loop-arc-init g t c =
    let k = g.O.Output.kind in
    let loaded = c.args.loaded.now in
    let all = bits_of g.S.Store.bytes loaded in
    let Held = Holds k g.O.Output.meaning g.S.Store.bytes loaded in
    let x = g.O.Output.meaning c.args.output.now in
    let begun = c.into_iter-arc-iterator.ensures.into_iter_gives in
    let row = ap (λ (a : Arcs g.row.O.Denot g.row.S.Denot). a.row) begun ∙ c.new-arc-items.ensures.row in (
      refl,
      ap (λ (a : Arcs g.row.O.Denot g.row.S.Denot). a.loaded.now) begun ∙ c.new-arc-items.ensures.loaded,
      subst (Passing k all Held c.args.state x c.args.depth) (sym row)
          (passing_none k g.met.O.Output.lawful g.O.Output.meaning all Held c.args.state x c.args.depth c.in_ok-opened.opened c.in_ok-opened.ensures c.arcs_of.result c.arcs_of.ensures),
    )

pub returns-in-Some-seek : goal.returns-in-Some-seek
returns-in-Some-seek g t c =
    let k = g.O.Output.kind in
    let loaded = c.args.loaded.now in
    let arcs = c.loop-arc.arc-iterator in
    let rest = c.next.new.self.row in
    let room : c.args.depth < length c.args.buffer.now = omega arith in
    seek_found k g.met.O.Output.lawful g.O.Output.meaning (bits_of g.S.Store.bytes loaded) (Holds k g.O.Output.meaning g.S.Store.bytes loaded)
    c.args.state (g.O.Output.meaning c.args.output.now) c.args.depth c.in_ok-opened.opened c.in_ok-opened.ensures
    arcs.row c.loop-arc.invariant.2 c.args.buffer.now c.loop-arc.buffer c.loop-arc.invariant.0
    (c.in-Some.arc, rest) (given_by k g.O.Output.meaning g.S.Store.bytes arcs.loaded.now loaded arcs.row rest (Some c.in-Some.arc) c.loop-arc.invariant.1 c.in-Some.ensures.steps.1)
    c.in-Some-left.rest c.in-Some-left.ensures c.seek.new.buffer
    (λ m h s here. ((held_stored k g.O.Output.meaning g.S.Store.bytes loaded m h).states c.args.state s here).rising) c.in-Some-seek.end room c.in-Some-seek.ensures _ refl

pub loop-arc-preserved-in_default-seek : goal.loop-arc-preserved-in_default-seek
loop-arc-preserved-in_default-seek g t c =
    let k = g.O.Output.kind in
    let loaded = c.args.loaded.now in
    let arcs = c.loop-arc.arc-iterator in
    let rest = c.next.new.self.row in (
      c.in_default-seek.ensures.0 ∙ c.loop-arc.invariant.0,
      c.in-Some.ensures.steps.0 ∙ c.loop-arc.invariant.1,
      passing_behind k g.met.O.Output.lawful g.O.Output.meaning (bits_of g.S.Store.bytes loaded) (Holds k g.O.Output.meaning g.S.Store.bytes loaded)
          c.args.state (g.O.Output.meaning c.args.output.now) c.args.depth c.in_ok-opened.opened c.in_ok-opened.ensures
          arcs.row c.loop-arc.invariant.2 c.args.buffer.now c.loop-arc.buffer c.loop-arc.invariant.0
          (c.in-Some.arc, rest) (given_by k g.O.Output.meaning g.S.Store.bytes arcs.loaded.now loaded arcs.row rest (Some c.in-Some.arc) c.loop-arc.invariant.1 c.in-Some.ensures.steps.1)
          c.in-Some-left.rest c.in-Some-left.ensures c.seek.new.buffer c.in_default-seek.ensures,
    )

pub loop-arc-preserved : goal.loop-arc-preserved
loop-arc-preserved g t c =
    let k = g.O.Output.kind in
    let loaded = c.args.loaded.now in
    let arcs = c.loop-arc.arc-iterator in
    let rest = c.next.new.self.row in (
      c.loop-arc.invariant.0,
      c.in-Some.ensures.steps.0 ∙ c.loop-arc.invariant.1,
      passing_other k g.met.O.Output.lawful g.O.Output.meaning (bits_of g.S.Store.bytes loaded) (Holds k g.O.Output.meaning g.S.Store.bytes loaded)
          c.args.state (g.O.Output.meaning c.args.output.now) c.args.depth c.in_ok-opened.opened c.in_ok-opened.ensures
          arcs.row c.loop-arc.invariant.2 c.args.buffer.now c.loop-arc.buffer c.loop-arc.invariant.0
          (c.in-Some.arc, rest) (given_by k g.O.Output.meaning g.S.Store.bytes arcs.loaded.now loaded arcs.row rest (Some c.in-Some.arc) c.loop-arc.invariant.1 c.in-Some.ensures.steps.1)
          c.in_default.ensures,
    )

pub returns : goal.returns
returns g t c =
    let k = g.O.Output.kind in
    let loaded = c.args.loaded.now in
    let arcs = c.loop-arc.arc-iterator in
    seek_passed k g.met.O.Output.lawful g.O.Output.meaning (bits_of g.S.Store.bytes loaded) (Holds k g.O.Output.meaning g.S.Store.bytes loaded)
    c.args.state (g.O.Output.meaning c.args.output.now) c.args.depth c.in_ok-opened.opened c.in_ok-opened.ensures
    arcs.row c.loop-arc.invariant.2 c.args.buffer.now c.loop-arc.buffer c.loop-arc.invariant.0
    c.ends_with.result c.ends_with.ensures c.if-ends_with.false
    (given_by k g.O.Output.meaning g.S.Store.bytes arcs.loaded.now loaded arcs.row c.next.new.self.row None c.loop-arc.invariant.1 c.in-None.ensures.steps.1)
