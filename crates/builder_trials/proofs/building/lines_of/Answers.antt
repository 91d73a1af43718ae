use Rattle.std.proofs.Common.{◌≡◌, [], ◌∷◌, ◌++◌, map, take, sym, refl, ap, ◌∙◌, subst}
use Rattle.std.proofs.Math.Option.{none}
use Rattle.std.specs.List.{All, each_same}
use Rattle.std.proofs.lemmas.List.{map-append}
use Rattle.std.proofs.lemmas.List.Elements.{All-push}
use Rattle.std.proofs.lemmas.Grind.{take_at_read}
use Rattle.adding.specs.Refusals.{told}
use Rattle.builder_trials.specs.Lists.{keys_of}
use Rattle.builder_trials.proofs.building.lines_of.Goals as goal

pub loop-pair-preserved : goal.loop-pair-preserved
loop-pair-preserved g c =
    let pairs = c.args.pairs.now in
    let i = c.loop-pair.pair-index in
    let lines = c.loop-pair.lines.items in
    let copy : c.in_ok-clone.field-0.items ≡ c.pair-item.result.key.items = each_same _ _ c.in_ok-clone.ensures.cases.0 in
    let grown = (take_at_read pairs i c.pair-item.result c.loop-pair-test.true).1 in (
      ap (λ ls. keys_of (map (λ l. l.pair) ls)) c.in_ok-push.ensures.items
          ∙ ap keys_of (map-append (λ l. l.pair) lines _) ∙ map-append (λ p. p.key.items) (map (λ l. l.pair) lines) _
          ∙ ap (λ ks. ks ++ (c.in_ok-clone.field-0.items ∷ [])) c.loop-pair.invariant.0
          ∙ ap (λ w. keys_of (take i pairs) ++ (w ∷ [])) (copy ∙ ap (λ p. p.key.items) c.pair-item.is)
          ∙ sym (ap keys_of grown ∙ map-append (λ p. p.key.items) (take i pairs) _),
      subst (All (λ l. told l.answer ≡ none)) (sym c.in_ok-push.ensures.items) (All-push (λ l. told l.answer ≡ none) lines _ c.loop-pair.invariant.1 refl),
    )
