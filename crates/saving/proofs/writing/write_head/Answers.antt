use Rattle.std.proofs.Common.{sym, ◌∙◌, subst}
use Rattle.std.proofs.lemmas.List.{length-map}
use Rattle.outputs.specs.Bits.{bits}
use Rattle.records.specs.Holding.{arcs_of, closed_state}
use Rattle.saving.proofs.Laid.{arcs_counted}
use Rattle.saving.proofs.writing.write_head.Goals as goal

pub returns : goal.returns
returns g c =
    let took = g.K.BitSink.took in
    let taking = g.K.BitSink.taking in
    let mean = g.O.Output.meaning in
    let rows = c.args.rows.now in
    let number = subst (λ v. took c.write_mark.new.sink (bits 8 v) c.put.new.self) (c.from.ensures ∙ c.kind_number.ensures) c.put.ensures in
    let states = subst (λ v. took c.put.new.self (bits 16 v) c.put-2.new.self) (sym (length-map rows.states.now (closed_state mean (arcs_of mean rows.arcs.now)))) c.put-2.ensures in
    let arcs = subst (λ v. took c.put-2.new.self (bits 17 v) c.put-3.new.self) (sym (arcs_counted g.O.Output.kind mean rows)) c.put-3.ensures in
    taking.in_turn _ _ _ _ _ (taking.in_turn _ _ _ _ _ (taking.in_turn _ _ _ _ _ (taking.in_turn _ _ _ _ _ (taking.in_turn _ _ _ _ _ c.write_mark.ensures number) states) arcs) c.put-4.ensures) c.write.ensures
