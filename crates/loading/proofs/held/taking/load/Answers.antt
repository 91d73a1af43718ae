use Rattle.std.proofs.Common.{ℕ, length, replicate, refl, ap, ◌∙◌}
use Rattle.loading.proofs.Takings.{load_refuses, load_reads}
use Rattle.loading.proofs.held.taking.load.Goals as goal

pub returns-in_err-head : goal.returns-in_err-head
returns-in_err-head g c =
    record {
      loads = load_refuses g.O.Output.kind g.O.Output.meaning g.S.Store.bytes (length c.args.working.now) c.args.store c.in_err-head.field-0.0 c.from_residual.result c.in_err-head.ensures.answers c.from_residual.ensures.1;
      cleared = c.fill.ensures.after (λ y h. h) ∙ ap (λ (n : ℕ). replicate {A = ℕ} n 0) c.read_whole-answer.auto.working;
    }

pub returns : goal.returns
returns g c =
    record {
      loads = load_reads g.O.Output.kind g.O.Output.meaning g.S.Store.bytes (length c.args.working.now) c.args.store _ c.in_ok-head.head c.in_ok-head._behind refl c.in_ok-head.ensures.within refl refl refl c.in_ok-head.ensures.answers;
      cleared = c.fill.ensures.after (λ y h. h) ∙ ap (λ (n : ℕ). replicate {A = ℕ} n 0) c.read_whole-answer.auto.working;
    }
