use Rattle.std.proofs.Common.{◌≡◌, ℕ, ◌+◌, ◌-◌, ◌<◌, List, length, get_or, take, drop, sym, ap, ◌∙◌, subst, arith, rules}
use Rattle.std.proofs.lemmas.List.{get_or-map}
use Rattle.stacks.specs.Stacks.{lows, highs}
use Rattle.stacks.proofs.TwoEnds.{total}
use Rattle.machines.specs.Machines.{State as Node}
use Rattle.records.specs.declared.record.State.{State}
use Rattle.records.specs.declared.record.Arc.{Arc}
use Rattle.records.specs.declared.memory.Core.{Core}
use Rattle.records.specs.Lying.{Placed}
use Rattle.records.specs.Shape.{openings}
use Rattle.records.specs.Holding.{arcs_of, end_of, closed_state, closed_states, opened, open_record}
use Rattle.records.specs.Registering.{state_at, home}
use Rattle.records.proofs.Cutting.{arcs_part}
use Rattle.records.proofs.Laying.{packed_placed}
use Rattle.register.specs.Answers.{Told}
use Rattle.comparing.specs.Newest.{newest}
use Rattle.comparing.proofs.Looking.{told_as, newest_is, laid_top, part_to_end}
use Rattle.comparing.proofs.newest.equal_state.Goals as goal

-- where the newest record's arcs end
ends : {O : Type 0} (b : Core O) (x : State O) → 0 < openings b → x ≡ get_or (highs b.states) 0 x → x.first + x.count ≡ length (lows b.arcs)
ends b x h e = laid_top (length (lows b.arcs)) (highs b.states) x h b.sound.laid e

pub offset_bounds-open-top : goal.offset_bounds-open-top
offset_bounds-open-top g c = let x = c.at_high-top.result in omega (arith, ends c.args.core.now x c.requires (c.at_high-top.ensures x), ap length c.below-open.ensures)

pub slice_bounds-arcs-count : goal.slice_bounds-arcs-count
slice_bounds-arcs-count g c = let x = c.at_high-top.result in omega (arith, ends c.args.core.now x c.requires (c.at_high-top.ensures x), ap length c.below-open.ensures)

pub slice_bounds-arcs-start : goal.slice_bounds-arcs-start
slice_bounds-arcs-start g c = let x = c.at_high-top.result in omega (arith, ends c.args.core.now x c.requires (c.at_high-top.ensures x), ap length c.below-open.ensures)

pub look_up-requires : goal.look_up-requires
look_up-requires g c =
    let b = c.args.core.now in
    let so = b.sound in
    let t = total b.states.cells.now b.states.low b.states.high b.states.room in
    let n = ap length c.below.ensures in
    record {
      sound = subst (λ (xs : List (Arc g.row.O.Denot)). Placed (length xs) c.below.result.now) (sym c.above.ensures) (subst (Placed (length (highs b.arcs))) (sym c.below.ensures) (packed_placed 0 _ (lows b.states) so.packed));
      known = λ i. omega (arith, so.known i);
      fits = search rules;
      few = omega (arith, so.used, so.slotroom, c.requires);
    }

pub returns : goal.returns
returns g c =
    let mean = g.O.Output.meaning in
    let dig = g.O.Output.digested in
    let b = c.args.core.now in
    let x = c.at_high-top.result in
    let L = lows b.arcs in
    let hs = highs b.states in
    let opens = c.below-open.result.now in
    let below = c.below.result.now in
    let above = c.above.result.now in
    let slots = b.slots.now in
    let arcs = arcs_of mean (take (length opens - x.first) (drop x.first opens)) in
    let node : Node g.O.Output.kind.Ideal = record { end = end_of mean x; arcs = arcs } in
    let w = ends b x c.requires (c.at_high-top.ensures x) in
    let part : arcs ≡ take x.count (drop x.first (arcs_of mean L)) = ap (arcs_of mean) (part_to_end opens L x.first x.count c.below-open.ensures w) ∙ arcs_part mean x.count x.first L in
    let top = newest (opened mean b) in
    let is : node ≡ top = (λ i. record { end = end_of mean x; arcs = part i }) ∙ sym (newest_is (open_record mean (arcs_of mean L)) hs x c.requires (c.at_high-top.ensures x)) in
    let f = closed_state mean (arcs_of mean (highs b.arcs)) in
    let there : (q : ℕ) → q < length below → closed_state mean (arcs_of mean above) (get_or below q x) ≡ state_at (closed_states mean b) q = λ q l.
    ap (λ (es : List (Arc g.row.O.Denot)). closed_state mean (arcs_of mean es) (get_or below q x)) c.above.ensures ∙ ap (λ (ss : List (State g.row.O.Denot)). f (get_or ss q x)) c.below.ensures ∙ sym (get_or-map f (lows b.states) q x _ (omega (arith, ap length c.below.ensures))) in
    let t = told_as (length below) (λ q. node ≡ closed_state mean (arcs_of mean above) (get_or below q x)) (λ q. top ≡ state_at (closed_states mean b) q) slots c.first_slot-home.result c.look_up.result (λ q l e. sym is ∙ e ∙ there q l) (λ q l e. is ∙ e ∙ sym (there q l)) c.look_up.ensures in
    subst (λ (n : ℕ). Told n (λ q. top ≡ state_at (closed_states mean b) q) slots (home dig (length slots) top) c.look_up.result) (ap length c.below.ensures)
    (subst (λ (h : ℕ). Told (length below) (λ q. top ≡ state_at (closed_states mean b) q) slots h c.look_up.result) (c.first_slot-home.ensures.slot ∙ ap (home dig (length slots)) is) t)
