use Rattle.lookups.proofs.Places.{place_on}
use Rattle.lookups.proofs.rows.further.Goals as goal

pub returns : goal.returns
returns g c = λ h.
    let s = c.args.loaded.now.store in
    place_on (g.S.Store.bytes s) c.args.place c.args.by c.saturating_add.result (g.S.Store.short s) h c.saturating_add.ensures
