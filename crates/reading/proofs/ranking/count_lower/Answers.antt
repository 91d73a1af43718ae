use Rattle.std.proofs.Common.{ℕ, ◌^◌, ◌<◌, ap, ◌∙◌, subst}
use mir.Val.{bool_byte}
use Rattle.machines.specs.Lists.{at}
use Rattle.machines.specs.Counts.{counts_of}
use Rattle.lookups.specs.Lookups.{bits_of}
use Rattle.lookups.proofs.HeldStates.{held_stored}
use Rattle.reading.proofs.LowerKeys.{lower_some}
use Rattle.reading.proofs.ranking.count_lower.Goals as goal

pub returns : goal.returns
returns g c = λ m h.
    let stored = held_stored g.O.Output.kind g.O.Output.meaning g.S.Store.bytes c.args.loaded.now m h in
    lower_some g.O.Output.kind (bits_of g.S.Store.bytes c.args.loaded.now) (counts_of m.states) c.args.byte (at m.states c.args.state) c.in_ok-opened.opened c.arcs_of-row.result c.from.result c.sum_lower.result
    (c.in_ok-opened.ensures m h) (λ e. c.from.ensures ∙ ap bool_byte e) (λ e. c.from.ensures ∙ ap bool_byte e) c.arcs_of-row.ensures (c.sum_lower.ensures m h)
    (λ s e. ((stored.states c.args.state s e).rising, subst (λ (n : ℕ). n < 2 ^ 20) (stored.counted c.args.state s e) (stored.few_keys c.args.state s e)))
