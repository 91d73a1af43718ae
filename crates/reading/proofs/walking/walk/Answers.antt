use Rattle.std.proofs.Common.{ℕ, ◌+◌, drop, Ok, Err, Option, sym, refl, ap, ◌∙◌, ap₂}
use Rattle.std.proofs.lemmas.List.{drop_all}
use Rattle.machines.specs.Asked.{Told, and_tell, walk, walk_from}
use Rattle.reading.specs.declared.walking.Reached.{Reached}
use Rattle.reading.specs.Told.{told_walk}
use Rattle.reading.proofs.Ways.{err_walk, walk_on}
use Rattle.reading.proofs.walking.walk.Goals as goal

pub loop-byte-init : goal.loop-byte-init
loop-byte-init g c = λ m h.
    ap₂ (λ (n : ℕ) (x : g.O.Output.kind.Ideal). walk_from g.O.Output.kind m.states n x c.args.string.now) (sym (c.start.ensures.state ∙ h.start)) (sym (ap g.O.Output.meaning c.start_output.ensures ∙ h.start_output))

pub returns-in_err-further : goal.returns-in_err-further
returns-in_err-further g c = λ m h.
    err_walk g.O.Output.meaning c.from_residual.result c.from_residual.ensures.0
    ∙ sym (walk_on g.O.Output.kind m.states g.O.Output.meaning (walk g.O.Output.kind m c.args.string.now) c.args.string.now c.loop-byte.byte-index c.loop-byte.reached.state _ (g.O.Output.meaning c.loop-byte.reached.output) (Err c.in_err-further.field-0.0) c.loop-byte-test.true refl (c.loop-byte.invariant m h) (c.in_err-further.ensures m h))

pub returns-in_default : goal.returns-in_default
returns-in_default g c = λ m h.
    let k = g.O.Output.kind in
    let w = c.args.string.now in
    let i = c.loop-byte.byte-index in
    sym (walk_on k m.states g.O.Output.meaning (walk k m w) w i c.loop-byte.reached.state _ (g.O.Output.meaning c.loop-byte.reached.output) (Ok c.in_ok-further.field-0) c.loop-byte-test.true refl (c.loop-byte.invariant m h) (c.in_ok-further.ensures m h)
    ∙ ap {A = Option (Reached g.row.O.Denot)} {B = Told (ℕ × k.Ideal)} (λ o. and_tell (told_walk g.O.Output.meaning (Ok o)) (λ s. walk_from k m.states s.0 s.1 (drop (i + 1) w))) c.in_default.is)

pub loop-byte-preserved : goal.loop-byte-preserved
loop-byte-preserved g c = λ m h.
    let k = g.O.Output.kind in
    let w = c.args.string.now in
    let i = c.loop-byte.byte-index in
    walk_on k m.states g.O.Output.meaning (walk k m w) w i c.loop-byte.reached.state _ (g.O.Output.meaning c.loop-byte.reached.output) (Ok c.in_ok-further.field-0) c.loop-byte-test.true refl (c.loop-byte.invariant m h) (c.in_ok-further.ensures m h)
    ∙ ap {A = Option (Reached g.row.O.Denot)} {B = Told (ℕ × k.Ideal)} (λ o. and_tell (told_walk g.O.Output.meaning (Ok o)) (λ s. walk_from k m.states s.0 s.1 (drop (i + 1) w))) c.in-Some.is

pub returns : goal.returns
returns g c = λ m h.
    sym (c.loop-byte.invariant m h ∙ ap (walk_from g.O.Output.kind m.states c.loop-byte.reached.state (g.O.Output.meaning c.loop-byte.reached.output)) (drop_all c.loop-byte.byte-index c.args.string.now c.loop-byte-test.false))
