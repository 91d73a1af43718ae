use Rattle.std.proofs.Common.{◌≡◌, Ok, sym, ap, ◌∙◌, subst}
use Rattle.outputs.specs.Bits.{packed}
use Rattle.fields.specs.Packs.{Gave, pending}
use Rattle.fields.proofs.Filling.{finished_run}
use Rattle.fields_trials.proofs.tests.append_code.Goals as goal

pub returns : goal.returns
returns g c =
    let first = c.new-packer.ensures in
    let (packs, grown) = c.write.ensures in
    let done = c.finish.ensures in
    let s = c.new-packer.result in
    let t = c.write.new.sink in
    let u = c.finish.new.self in
    let row = g.O.Output.kind.code (g.O.Output.meaning c.args.output.now) in
    let begun : s.store.now ≡ c.args.store.now = ap (λ x. x.now) first.store in
    let (exit, lent) = c.store-1.given in
    let ends : exit ≡ u.store.now = lent (sym (done.follows.same ∙ grown.same ∙ ap (λ x. x.ghost_name) first.store)) in
    let P : g.row.S.Denot → Type 0 = λ z. Gave (g.S.Store.room c.args.store.now) (g.S.Store.bytes c.args.store.now) (Ok tt) (packed row) (g.S.Store.bytes z) c.finish.result in
    let Q : g.row.S.Denot → Type 0 = λ z. g.S.Store.follows z u.store.now in
    let R : g.row.S.Denot → Type 0 = λ z. g.S.Store.follows c.args.store.now z in
    record {
      given = subst P (sym ends) (finished_run (g.S.Store.room c.args.store.now) (g.S.Store.room s.store.now) (g.S.Store.room t.store.now)
          (g.S.Store.bytes c.args.store.now) (g.S.Store.bytes s.store.now) (g.S.Store.bytes t.store.now) (g.S.Store.bytes u.store.now)
          s.outcome t.outcome c.finish.result (pending s.filled s.partial) (pending t.filled t.partial) row
          (ap g.S.Store.room begun) (ap g.S.Store.bytes begun) first.outcome first.waits packs done.packed);
      room = ap g.S.Store.room ends ∙ done.room ∙ packs.capacity ∙ ap g.S.Store.room begun;
      follows = subst R (sym ends) (subst Q begun (g.S.Store.chained.more _ _ _ grown.grown done.follows.grown));
    }
