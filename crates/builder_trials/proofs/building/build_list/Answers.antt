use Rattle.std.proofs.Common.{◌≡◌, ℕ, [], ◌∷◌, ◌++◌, map, take, sym, refl, ap, ap₂, ◌∙◌, subst}
use Rattle.std.proofs.lemmas.List.{map-append, take_all}
use Rattle.std.proofs.lemmas.Grind.{take_at_read}
use Rattle.machines.specs.Keys.{Key}
use Rattle.machines.specs.Pairs.{Pairs}
use Rattle.machines.specs.Runs.{taken, put_unless}
use Rattle.machines.proofs.RunFacts.{taken_more, told_more}
use Rattle.adding.specs.Refusals.{told}
use Rattle.builder.specs.Standing.{Stands}
use Rattle.builder_trials.specs.Lists.{keys_of, states_in, arcs_in}
use Rattle.builder_trials.proofs.building.build_list.Goals as goal

pub loop-pair-init : goal.loop-pair-init
loop-pair-init g c = ([], refl, ap (map told) c.new-answers.ensures.items, c.builder-builder.ensures)

pub loop-pair-preserved : goal.loop-pair-preserved
loop-pair-preserved g c =
    let k = g.V.Proved.Output.kind in
    let mean = g.V.Proved.Output.meaning in
    let S : ℕ = states_in c.args.lent.now in
    let A : ℕ = arcs_in c.args.lent.now in
    let i = c.loop-pair.pair-index in
    let P : Pairs k.Ideal = c.loop-pair.invariant.0 in
    let e : Key × k.Ideal = (c.as_slice.result.now, mean c.in_ok-output.output) in
    let stood = c.loop-pair.invariant.3 in
    let is_told = c.add.ensures.told S A (taken k S A [] P) stood in
    let key : keys_of (c.pair-item.result ∷ []) ≡ e.0 ∷ [] = ap (λ w. w ∷ []) (sym c.as_slice.ensures.value) in
    let grown = (take_at_read c.args.pairs.now i c.pair-item.result c.loop-pair-test.true).1 in (
      P ++ (e ∷ []),
      map-append (λ p. p.0) P (e ∷ []) ∙ ap (λ ks. ks ++ (e.0 ∷ [])) c.loop-pair.invariant.1 ∙ ap (λ ks. keys_of (take i c.args.pairs.now) ++ ks) (sym key ∙ ap (λ p. keys_of (p ∷ [])) c.pair-item.is)
          ∙ sym (ap keys_of grown ∙ map-append (λ p. p.key.items) (take i c.args.pairs.now) _),
      ap (map told) c.in_ok-push.ensures.items ∙ map-append told c.loop-pair.answers.items (c.add.result ∷ []) ∙ ap₂ (λ ts t. ts ++ (t ∷ [])) c.loop-pair.invariant.2 is_told ∙ sym (told_more k S A [] P e),
      subst (Stands k mean g.V.Proved.Output.digested c.add.new.self.core S A) (ap (λ t. put_unless t (taken k S A [] P) e) is_told ∙ sym (taken_more k S A [] P e)) (c.add.ensures.stands S A (taken k S A [] P) stood),
    )

pub returns : goal.returns
returns g c =
    let S : ℕ = states_in c.args.lent.now in
    let A : ℕ = arcs_in c.args.lent.now in
    record {
      ran = record {
        pairs = c.loop-pair.invariant.0;
        keyed = c.loop-pair.invariant.1 ∙ ap keys_of (take_all c.loop-pair.pair-index c.args.pairs.now c.loop-pair-test.false);
        ran = record { told = c.loop-pair.invariant.2; sealed = c.seal.ensures.sealed S A _ c.loop-pair.invariant.3 };
      };
    }
