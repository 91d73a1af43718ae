use Rattle.std.proofs.Common.{◌≡◌, get_or, arith, rules, tests, min, length, ap, ◌∙◌}
use Rattle.std.proofs.lemmas.Iterator.{first_from_Range}
use Rattle.construction.specs.Records.{newest_key}
use Rattle.records.specs.Holding.{held}
use Rattle.adding.proofs.Parting.{common_first}
use Rattle.adding.proofs.admission.common_prefix.Goals as goal

pub returns : goal.returns
returns g c =
    let newest = newest_key (held g.O.Output.meaning c.args.core.now).open' in
    let key = c.args.key.now in
    let found = first_from_Range _ _ _ _ (λ i. get_or key i 0 ≡ get_or newest i 0 → ⊥) (λ i. get_or key i 0 ≡ get_or newest i 0) c.find.ensures.ran
    (λ x q k. grind (arith, tests)) (λ x q k. (search rules, grind (arith, tests))) in
    c.unwrap_or.ensures ∙ common_first c.min-most.result key newest c.find.result (c.min-most.ensures ∙ ap (min (length key)) c.length.ensures) found
