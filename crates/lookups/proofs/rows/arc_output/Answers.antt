use Rattle.std.proofs.Common.{ℕ, sym, subst}
use Rattle.lookups.specs.Standing.{OutputStands}
use Rattle.lookups.specs.Lookups.{bits_of, OutputRead}
use Rattle.lookups.proofs.rows.arc_output.Goals as goal

pub returns : goal.returns
returns g c = λ arc h.
    let k = g.O.Output.kind in
    let all = bits_of g.S.Store.bytes c.args.loaded.now in
    let e = c.further.ensures h.within in
    subst (λ (n : ℕ). OutputRead k g.O.Output.meaning n arc.output c.output_at.result) e (c.output_at.ensures arc.output (subst (λ (n : ℕ). OutputStands k all n arc.output) (sym e) h.output))
