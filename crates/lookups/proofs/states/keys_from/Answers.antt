use Rattle.std.proofs.Common.{arith}
use Rattle.lookups.proofs.Places.{keys_by}
use Rattle.lookups.proofs.StateSteps.{keys_none, keys_some}
use Rattle.lookups.proofs.states.keys_from.Goals as goal

pub returns-then-state-start-clause-keys : goal.returns-then-state-start-clause-keys
returns-then-state-start-clause-keys g c = λ m h. keys_none g.O.Output.kind g.O.Output.meaning g.S.Store.bytes c.args.loaded.now m h c.args.state (omega arith)

pub returns-clause-keys : goal.returns-clause-keys
returns-clause-keys g c =
    let k = g.O.Output.kind in
    let bytes = g.S.Store.bytes in
    let l = c.args.loaded.now in
    let q = c.args.state in
    let keys = c.keys_at in
    λ m h. keys_some k g.O.Output.meaning bytes l m h q keys.result (omega arith)
    (keys_by k bytes c.store.result.now l.store c.index.result l.index q keys.result c.store.ensures c.index.ensures keys.ensures.keys)
