use Rattle.std.proofs.Common.{None, Some, sym, ap, ap₂, ◌∙◌}
use Rattle.std.proofs.lemmas.Bool.Decides.{Decides-eqb}
use Rattle.std.proofs.lemmas.Slice.Eq.{strip_prefix_is}
use Rattle.outputs.specs.Texts.{after}
use Rattle.outputs.specs.TextParts.{after_is, after_else}
use Rattle.outputs.proofs.text.calls.TextOutput.rest.Goals.{in-Some, in-None}
use Rattle.outputs.proofs.text.calls.TextOutput.rest.Goals as goal

pub returns : goal.returns
returns c =
    let z = c.as_bytes.result.now in
    let x = c.as_bytes-2.result.now in
    let e = ap₂ after c.as_bytes-2.ensures c.as_bytes.ensures in
    elim c.match-strip_prefix.branch [
      | in-Some w ↦
          let told = strip_prefix_is Decides-eqb z x (Some w.in-Some.behind) w.in-Some.ensures.cases in
          rw w.result-is (w.followed_by.ensures ∙ sym (after_is x w.in-Some.behind.now) ∙ ap (after x) (sym told) ∙ e)
      | in-None w ↦
          let told = strip_prefix_is Decides-eqb z x None w.in-None.ensures.cases in
          rw w.result-is (sym (after_else x z (λ p. told p.0 (sym p.1))) ∙ e)
    ]
