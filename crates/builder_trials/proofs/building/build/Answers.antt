use Rattle.std.proofs.Common.{◌≡◌, ℕ, ◌+◌, ◌<◌, [], ◌∷◌, ◌++◌, length, map, take, slice_index_or, slice_set, sym, refl, ap, ap₂, ◌∙◌, subst, arith}
use Rattle.std.proofs.Math.Seq.{map-set_same}
use Rattle.std.proofs.lemmas.List.{map-append, take_all, take_more_set}
use Rattle.machines.specs.Keys.{Key}
use Rattle.machines.specs.Pairs.{Pairs}
use Rattle.machines.specs.Memory.{refusal}
use Rattle.machines.specs.Runs.{taken, put_unless}
use Rattle.machines.specs.Runs as Runs
use Rattle.machines.proofs.RunFacts.{taken_more, told_more}
use Rattle.adding.specs.Refusals.{told}
use Rattle.builder.specs.Standing.{Stands}
use Rattle.builder_trials.specs.Lists.{meant, states_in, arcs_in, Ran}
use Rattle.builder_trials.specs.declared.building.Line.{Line}
use Rattle.builder_trials.proofs.building.build.Goals as goal

pub loop-line-preserved : goal.loop-line-preserved
loop-line-preserved g c =
    let k = g.O.Output.kind in
    let mean = g.O.Output.meaning in
    let S : ℕ = states_in c.args.lent.now in
    let A : ℕ = arcs_in c.args.lent.now in
    let items = c.loop-line.line-items in
    let i = c.loop-line.line-index in
    let old = slice_index_or items i c.line-item.result in
    let line : Line g.row.O.Denot = record { pair = old.pair; answer = c.add-line.result } in
    let done = take i items in
    let P : Pairs k.Ideal = meant k mean (map (λ l. l.pair) done) in
    let e : Key × k.Ideal = (old.pair.key.items, mean old.pair.output) in
    let inside : i < length items = omega (arith, c.loop-line.auto.line-items, c.loop-line-test.true) in
    let grown : take (i + 1) (slice_set items i line) ≡ done ++ (line ∷ []) = take_more_set items i line inside in
    let key : c.as_slice.result.now ≡ old.pair.key.items = c.as_slice.ensures.value in
    let stood = c.loop-line.invariant.2 in
    let is_told : told c.add-line.result ≡ refusal k S A (taken k S A [] P) e.0 =
    subst (λ w. told c.add-line.result ≡ refusal k S A (taken k S A [] P) w) key (c.add-line.ensures.told S A (taken k S A [] P) stood) in
    let stands =
    subst (λ w. Stands k mean g.O.Output.digested c.add-line.new.self.core S A (put_unless (told c.add-line.result) (taken k S A [] P) (w, e.1))) key (c.add-line.ensures.stands S A (taken k S A [] P) stood) in
    let pairs : meant k mean (map (λ l. l.pair) (done ++ (line ∷ []))) ≡ P ++ (e ∷ []) = ap (meant k mean) (map-append (λ l. l.pair) done (line ∷ [])) ∙ map-append _ (map (λ l. l.pair) done) (line.pair ∷ []) in (
      map-set_same (λ l. l.pair) items i line c.line-item.result refl ∙ c.loop-line.invariant.0,
      subst (λ d. map (λ l. told l.answer) d ≡ Runs.told k S A [] (meant k mean (map (λ l. l.pair) d))) (sym grown)
          (map-append (λ l. told l.answer) done (line ∷ []) ∙ ap₂ (λ ts t. ts ++ (t ∷ [])) c.loop-line.invariant.1 is_told ∙ sym (told_more k S A [] P e) ∙ ap (Runs.told k S A []) (sym pairs)),
      subst (λ d. Stands k mean g.O.Output.digested c.add-line.new.self.core S A (taken k S A [] (meant k mean (map (λ l. l.pair) d)))) (sym grown)
          (subst (Stands k mean g.O.Output.digested c.add-line.new.self.core S A) (ap (λ t. put_unless t (taken k S A [] P) e) is_told ∙ sym (taken_more k S A [] P e) ∙ ap (taken k S A []) (sym pairs)) stands),
    )

pub returns-clause-ran : goal.returns-clause-ran
returns-clause-ran g c =
    let k = g.O.Output.kind in
    let mean = g.O.Output.meaning in
    let S : ℕ = states_in c.args.lent.now in
    let A : ℕ = arcs_in c.args.lent.now in
    let items = c.loop-line.line-items in
    let whole : take c.loop-line.line-index items ≡ items = take_all c.loop-line.line-index items (omega (arith, c.loop-line.auto.line-items, c.loop-line-test.false)) in
    let ran : Ran k mean c.args.lent.now (meant k mean (map (λ l. l.pair) (take c.loop-line.line-index items))) (map (λ l. told l.answer) (take c.loop-line.line-index items)) c.seal.result.core =
    record { told = c.loop-line.invariant.1; sealed = c.seal.ensures.sealed S A _ c.loop-line.invariant.2 } in
    subst (λ ps. Ran k mean c.args.lent.now (meant k mean ps) (map (λ l. told l.answer) items) c.seal.result.core) c.loop-line.invariant.0
    (subst (λ d. Ran k mean c.args.lent.now (meant k mean (map (λ l. l.pair) d)) (map (λ l. told l.answer) d) c.seal.result.core) whole ran)
