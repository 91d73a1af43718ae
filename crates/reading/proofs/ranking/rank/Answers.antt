use Rattle.std.proofs.Common.{◌≡◌, ℕ, ◌+◌, ◌^◌, ◌<◌, ◌≤◌, length, get_or, sym, refl, ap, ◌∙◌, arith}
use Rattle.std.proofs.lemmas.List.{drop_all}
use Rattle.machines.specs.Lists.{at}
use Rattle.machines.specs.Counts.{counts_of}
use Rattle.machines.specs.Asked.{rank, rank_from}
use Rattle.machines.proofs.Lists.{at_below}
use Rattle.lookups.proofs.HeldStates.{held_stored}
use Rattle.reading.specs.Told.{told_rank}
use Rattle.reading.proofs.LowerKeys.{rank_stops, rank_goes, lower_within, rank_ends}
use Rattle.reading.proofs.ranking.rank.Goals as goal

pub loop-byte-init : goal.loop-byte-init
unfolding rank
loop-byte-init g c = λ m h.
    let q = c.start.result in
    let stored = held_stored g.O.Output.kind g.O.Output.meaning g.S.Store.bytes c.args.loaded.now m h in
    let inside : q < length m.states = omega (arith, h.many) in
    let s = at_below m.states q inside in
    (ap (λ (n : ℕ). rank_from m.states (counts_of m.states) n 0 c.args.key.now) (sym (c.start.ensures.state ∙ h.start)), omega (arith, stored.few_keys q s.0 s.1))

pub returns-in_err-next : goal.returns-in_err-next
returns-in_err-next g c = λ m h.
    ap told_rank c.from_residual.ensures
    ∙ sym (rank_stops m.states (counts_of m.states) c.args.key.now c.loop-byte.byte-index c.loop-byte.lower.target _ c.loop-byte.lower.keys c.loop-byte-test.true refl _ (c.loop-byte.invariant m h).0 (c.in_err-next.ensures m h))

pub loop-byte-preserved : goal.loop-byte-preserved
loop-byte-preserved g c = λ m h.
    let q = c.loop-byte.lower.target in
    let counts = counts_of m.states in
    let next = c.in_ok-next.next in
    let stored = held_stored g.O.Output.kind g.O.Output.meaning g.S.Store.bytes c.args.loaded.now m h in
    let few : c.loop-byte.lower.keys + get_or counts q 0 < 2 ^ 20 = (c.loop-byte.invariant m h).1 in
    let within : next.keys + get_or counts next.target 0 ≤ get_or counts q 0 = lower_within m.states counts (at m.states q) _ (get_or counts q 0) next (λ s e. stored.counted q s e) (c.in_ok-next.ensures m h) in
    let sum : c.saturating_add.result ≡ c.loop-byte.lower.keys + next.keys = omega (arith, few, within, c.saturating_add.ensures) in (
      rank_goes m.states counts c.args.key.now c.loop-byte.byte-index q _ c.loop-byte.lower.keys c.loop-byte-test.true refl _ (c.loop-byte.invariant m h).0 next (c.in_ok-next.ensures m h) c.saturating_add.result sum,
      omega (arith, few, within, sum),
    )

pub returns : goal.returns
returns g c = λ m h.
    let counts = counts_of m.states in
    let lower = c.loop-byte.lower in
    ap told_rank c.then_some.ensures ∙ rank_ends m.states counts lower.target lower.keys c.ends.result (c.ends.ensures m h)
    ∙ sym ((c.loop-byte.invariant m h).0 ∙ ap (rank_from m.states counts lower.target lower.keys) (drop_all c.loop-byte.byte-index c.args.key.now c.loop-byte-test.false))
