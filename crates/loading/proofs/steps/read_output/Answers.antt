use Rattle.std.proofs.Common.{drop, subst, rules}
use Rattle.outputs.specs.Bits.{spread}
use Rattle.outputs.specs.Joins.{Read}
use Rattle.stores.specs.declared.Refusal.{Refusal}
use Rattle.fields.specs.Reads.{missing}
use Rattle.loading.proofs.Leaves.{output_told}
use Rattle.loading.proofs.steps.read_output.Goals as goal

pub returns : goal.returns
returns g c =
    let k = g.O.Output.kind in
    let m = g.O.Output.meaning in
    let p = c.args.place in
    let bytes = g.S.Store.bytes c.args.store.now in
    let h = subst (λ s. Read {E = Refusal} k m (k.read (drop p (spread (g.S.Store.bytes s)))) p (missing p (g.S.Store.bytes s)) c.read.result) c.new.ensures c.read.ensures in
    let f = output_told k m bytes p g.met.O.Output.lawful c.requires c.read.result c.map_err.result _ h c.map_err.ensures.cases (λ e d turned. search rules) in
    record { answers = f.0; within = f.1 }
