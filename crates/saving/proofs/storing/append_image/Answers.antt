use Rattle.std.proofs.Common.{◌≡◌, ◌++◌, sym, ap, ◌∙◌, subst, arith, length-append}
use Rattle.std.proofs.lemmas.List.{take_all}
use Rattle.outputs.specs.Bits.{packed}
use Rattle.fields.specs.Packs.{pending}
use Rattle.fields.proofs.Filling.{finished_run}
use Rattle.saving.specs.Standing.{bits_of}
use Rattle.saving.proofs.storing.append_image.Goals as goal

pub returns : goal.returns
returns g c =
    let first = c.new-packer.ensures in
    let (packs, grown) = c.write_image.ensures in
    let done = c.finish.ensures in
    let s = c.new-packer.result in
    let t = c.write_image.new.sink in
    let u = c.finish.new.self in
    let old = c.args.store.now in
    let row = bits_of g.O.Output.kind g.O.Output.meaning c.args.rows.now in
    let bytes = g.S.Store.bytes in
    let room = g.S.Store.room in
    let begun : s.store.now ≡ old = ap (λ x. x.now) first.store in
    let (exit, lent) = c.store-1.given in
    let ends : exit ≡ u.store.now = lent (sym (done.follows.same ∙ grown.same ∙ ap (λ x. x.ghost_name) first.store)) in
    let given = finished_run (room old) (room s.store.now) (room t.store.now) (bytes old) (bytes s.store.now) (bytes t.store.now) (bytes u.store.now)
    s.outcome t.outcome c.finish.result (pending s.filled s.partial) (pending t.filled t.partial) row
    (ap room begun) (ap bytes begun) first.outcome first.waits packs done.packed in
    let Q : g.row.S.Denot → Type 0 = λ z. g.S.Store.follows z u.store.now in
    let R : g.row.S.Denot → Type 0 = λ z. g.S.Store.follows old z in
    record {
      bytes = ap bytes ends ∙ given.0 ∙ take_all (room old) (bytes old ++ packed row) (omega (arith, length-append (bytes old) (packed row), c.requires));
      room = ap room ends ∙ done.room ∙ packs.capacity ∙ ap room begun;
      follows = subst R (sym ends) (subst Q begun (g.S.Store.chained.more _ _ _ grown.grown done.follows.grown));
    }
