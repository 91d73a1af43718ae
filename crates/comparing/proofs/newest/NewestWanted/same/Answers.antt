use Rattle.std.proofs.Common.{◌≡◌, ◌-◌, length, get_or, take, drop, sym, ap, ◌∙◌}
use Rattle.machines.specs.Machines.{State as Node}
use Rattle.records.specs.Holding.{arcs_of, end_of, closed_state}
use Rattle.records.proofs.Laying.{placed_at}
use Rattle.records.proofs.Cutting.{arcs_part_last}
use Rattle.comparing.proofs.newest.NewestWanted.same.Goals as goal

pub closed_arcs-requires : goal.closed_arcs-requires
closed_arcs-requires g c =
    let s = c.args.self.now in
    let x = c.state_at-state.result in
    let p = placed_at (length s.closed.now) s.states.now c.args.q x c.requires.below c.requires.sound (c.state_at-state.ensures x) in
    record { first = p.0; count = p.1 }

pub returns-then-same_end : goal.returns-then-same_end
returns-then-same_end g c =
    let mean = g.O.Output.meaning in
    let s = c.args.self.now in
    let x = c.state_at-state.result in
    let H = s.closed.now in
    let at : x ≡ get_or s.states.now c.args.q s.state = c.state_at-state.ensures s.state in
    let there : closed_state mean (arcs_of mean H) x ≡ closed_state mean (arcs_of mean H) (get_or s.states.now c.args.q s.state) = ap (closed_state mean (arcs_of mean H)) at in
    let part : arcs_of mean c.closed_arcs.result.now ≡ take x.count (drop (length (arcs_of mean H) - x.first) (arcs_of mean H)) = ap (arcs_of mean) c.closed_arcs.ensures ∙ arcs_part_last mean x.count x.first H in
    record {
      equal = λ t.
          let e = c.same_end.ensures.equal c.if-same_end.true in
          let a = c.same_arcs.ensures.equal t ∙ part in
          let n : ◌≡◌ {A = Node g.O.Output.kind.Ideal} (record { end = end_of mean s.state; arcs = arcs_of mean s.arcs.now }) (closed_state mean (arcs_of mean H) x) = λ i. record { end = e i; arcs = a i } in
          n ∙ there;
      different = λ t q. c.same_arcs.ensures.different t (ap (λ (n : Node g.O.Output.kind.Ideal). n.arcs) (q ∙ sym there) ∙ sym part);
    }
