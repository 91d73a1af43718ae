use Rattle.std.proofs.Common.{ℕ, ◌<◌, ◌≤◌, sym, ap, ◌∙◌, subst, arith}
use Rattle.std.proofs.lemmas.List.{get_or-take, length-take-le}
use Rattle.outputs.specs.Bits.{spread}
use Rattle.images.specs.Steps.{Step, refuses, refusal_at}
use Rattle.loading.specs.declared.refusal.LoadRefusal.TheVariants.{Target}
use Rattle.loading.proofs.Walking.{is_passed, is_failed}
use Rattle.loading.proofs.MarkPass.{marked_stop, marked_all}
use Rattle.loading.proofs.ending.pass_targets.Goals as goal

pub returns-in-Some-clause-passes : goal.returns-in-Some-clause-passes
returns-in-Some-clause-passes g c =
    let k = g.O.Output.kind in
    let all = spread (g.S.Store.bytes c.args.store.now) in
    let w = c.args.working.now in
    let q = c.in-Some.state in
    let f = c.in-Some.ensures in
    let l : q < c.args.states = omega (arith, f.0, length-take-le c.from.result w (omega arith), c.from.ensures) in
    let h = marked_stop k all c.args.index c.args.states c.args.place w q l
    (subst (λ (n : ℕ). n < 128) (get_or-take c.from.result w q 0 (omega arith)) f.1)
    (λ t b. subst (λ (n : ℕ). 128 ≤ n) (get_or-take c.from.result w t 0 (omega arith)) (f.2 t b)) in
    is_failed _ (Target c.record_place.result) (h ∙ ap {A = ℕ} {B = Step (Unit {0})} (λ p. refuses (refusal_at 25 p)) (sym (c.record_place.ensures.place (c.requires.there q l).entry)))

pub returns-in-None-clause-passes : goal.returns-in-None-clause-passes
returns-in-None-clause-passes g c =
    let w = c.args.working.now in
    is_passed _ tt c.args.place (marked_all g.O.Output.kind (spread (g.S.Store.bytes c.args.store.now)) c.args.index c.args.states c.args.place w (λ t l.
    let b : t < c.from.result = omega arith in
    subst (λ (n : ℕ). 128 ≤ n) (get_or-take c.from.result w t 0 b) (c.in-None.ensures t (omega (arith, length-take-le c.from.result w (omega arith))))))
