use Rattle.std.proofs.Common.{◌++◌, take, sym, ap, ◌∙◌}
use Rattle.std.proofs.lemmas.Bool.{cond-true, cond-false}
use Rattle.outputs.proofs.text.calls.TextOutput.join.Goals.{then-joins, else-joins}
use Rattle.outputs.proofs.text.calls.TextOutput.join.Goals as goal

pub returns : goal.returns
returns c =
    let a = c.args.self.now in
    elim c.if-joins.branch [
      | then-joins w ↦
          ap (λ r. take r.1.0 r.0) w.result-is ∙ w.followed_by.ensures ∙ ap (λ l. take a.len a.bytes ++ l) w.as_bytes.ensures
          ∙ sym (cond-true _ _ _ (sym c.joins.ensures ∙ w.if-joins.true))
      | else-joins w ↦ ap (λ r. take r.1.0 r.0) w.result-is ∙ sym (cond-false _ _ _ (sym c.joins.ensures ∙ w.if-joins.false))
    ]
