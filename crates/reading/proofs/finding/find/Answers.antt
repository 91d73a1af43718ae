use Rattle.std.proofs.Common.{ℕ, Ok, Option, sym, ap, ◌∙◌}
use Rattle.machines.specs.Asked.{Told, and_tell, find, end_tell}
use Rattle.reading.specs.declared.walking.Reached.{Reached}
use Rattle.reading.specs.Told.{told_walk}
use Rattle.reading.proofs.Ways.{err_of}
use Rattle.reading.proofs.finding.find.Goals as goal

pub returns-in_err-reached : goal.returns-in_err-reached
unfolding find
returns-in_err-reached g c = λ m h.
    let k = g.O.Output.kind in
    err_of g.O.Output.meaning c.from_residual.result c.from_residual.ensures.0
    ∙ ap {A = Told (ℕ × k.Ideal)} {B = Told k.Ideal} (λ t. and_tell t (λ s. end_tell k m.states s.0 s.1)) (c.in_err-reached.ensures m h)

pub returns-in_default : goal.returns-in_default
unfolding find
returns-in_default g c = λ m h.
    let k = g.O.Output.kind in
    sym (ap {A = Option (Reached g.row.O.Denot)} {B = Told k.Ideal} (λ o. and_tell (told_walk g.O.Output.meaning (Ok o)) (λ s. end_tell k m.states s.0 s.1)) c.in_default.is)
    ∙ ap {A = Told (ℕ × k.Ideal)} {B = Told k.Ideal} (λ t. and_tell t (λ s. end_tell k m.states s.0 s.1)) (c.in_ok-reached.ensures m h)

pub returns : goal.returns
unfolding find
returns g c = λ m h.
    let k = g.O.Output.kind in
    c.finish.ensures m h
    ∙ sym (ap {A = Option (Reached g.row.O.Denot)} {B = Told k.Ideal} (λ o. and_tell (told_walk g.O.Output.meaning (Ok o)) (λ s. end_tell k m.states s.0 s.1)) c.in-Some.is)
    ∙ ap {A = Told (ℕ × k.Ideal)} {B = Told k.Ideal} (λ t. and_tell t (λ s. end_tell k m.states s.0 s.1)) (c.in_ok-reached.ensures m h)
