use Rattle.std.proofs.Common.{ℕ, ◌+◌, ◌*◌, refl, ap, arith}
use Rattle.lookups.proofs.Places.{number_at}
use Rattle.lookups.proofs.StateSteps.{opens_none, opens_some}
use Rattle.lookups.proofs.states.open.Goals as goal

pub returns-then-state-start : goal.returns-then-state-start
returns-then-state-start g c = λ m h. opens_none g.O.Output.kind g.O.Output.meaning g.S.Store.bytes c.args.loaded.now m h c.args.state (omega arith)

pub returns : goal.returns
returns g c =
    let bytes = g.S.Store.bytes in
    let l = c.args.loaded.now in
    let q = c.args.state in
    let place = c.record_place-place in
    let opening = c.number_in-opening in
    λ m h. opens_some g.O.Output.kind g.O.Output.meaning bytes l m h q place.result opening.result (omega arith)
    (λ w. number_at bytes c.store.result.now l.store 32 (l.index + 32 * q) _ place.result c.store.ensures (ap (λ (n : ℕ). n + 32 * q) c.index.ensures) w place.ensures.place)
    (λ w. number_at bytes c.store-2.result.now l.store 10 place.result _ opening.result c.store-2.ensures refl w opening.ensures.value)
