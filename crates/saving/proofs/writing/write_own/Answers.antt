use Rattle.std.proofs.Common.{sym, ap, ◌∙◌, subst}
use mir.Val.{bool_byte}
use Rattle.std.proofs.lemmas.List.{length-map}
use Rattle.outputs.specs.Bits.{bits}
use Rattle.records.specs.Holding.{arc_of}
use Rattle.saving.proofs.Laid.{flag_of}
use Rattle.saving.proofs.writing.write_own.Goals as goal

pub returns : goal.returns
returns g c =
    let took = g.K.BitSink.took in
    let taking = g.K.BitSink.taking in
    let mean = g.O.Output.meaning in
    let s = c.args.state.now in
    let flag = subst (λ v. took c.args.sink.now (bits 1 v) c.put.new.self) (c.from.ensures ∙ ap bool_byte c.is_some.ensures ∙ flag_of mean s.end) c.put.ensures in
    let count = subst (λ v. took c.put.new.self (bits 9 v) c.put-2.new.self) (sym (length-map c.args.own.now (arc_of mean) ∙ c.requires.own)) c.put-2.ensures in
    taking.in_turn _ _ _ _ _ (taking.in_turn _ _ _ _ _ (taking.in_turn _ _ _ _ _ (taking.in_turn _ _ _ _ _ flag count) c.put-3.ensures) c.write_end.ensures) c.write_arcs.ensures
