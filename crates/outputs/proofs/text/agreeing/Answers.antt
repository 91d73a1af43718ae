use Rattle.std.proofs.Common.{ℕ, eqb, take, ap, ◌∙◌, rules, tests}
use Rattle.std.specs.List.{zip}
use Rattle.std.proofs.lemmas.Iterator.{YieldsList-from_slice, YieldsList-from_zip}
use Rattle.std.proofs.lemmas.Iterator.Consumers.{YieldsList-at, count_from_yields_List}
use Rattle.std.proofs.lemmas.Iterator.Search.{YieldsList-from_take_while}
use Rattle.std.proofs.lemmas.List.Folds.{length-prefix_len}
use Rattle.outputs.proofs.TextArrays.{shared_prefix}
use Rattle.outputs.proofs.text.agreeing.Goals as goal

pub returns-clause-shared : goal.returns-clause-shared
returns-clause-shared c =
    let a = c.args.a.now in
    let b = c.args.b.now in
    let pairs = YieldsList-at c.take_while.ensures.source (YieldsList-from_zip (YieldsList-at c.zip.ensures.first (YieldsList-from_slice a cc)) (YieldsList-from_slice b cc)) in
    ap (λ k. take k a)
    (count_from_yields_List _ _ c.count.ensures.ran (YieldsList-from_take_while _ (λ (p : ℕ × ℕ). eqb p.0 p.1) pairs c.take_while.ensures.closure c.take_while.ensures.done (λ x r q k. search (rules, tests)))
    ∙ length-prefix_len (λ (p : ℕ × ℕ). eqb p.0 p.1) (zip a b))
    ∙ shared_prefix a b
