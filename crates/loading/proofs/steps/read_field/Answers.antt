use Rattle.std.proofs.Common.{◌≡◌, ℕ}
use Rattle.outputs.specs.Bits.{spread}
use Rattle.images.specs.Steps.{field}
use Rattle.loading.specs.declared.refusal.LoadRefusal.TheVariants.{Cut}
use Rattle.loading.proofs.Walking.{has_refused, is_refused}
use Rattle.loading.proofs.Leaves.{field_reads, field_refuses}
use Rattle.loading.proofs.steps.read_field.Goals as goal

pub returns-in_err-value : goal.returns-in_err-value
returns-in_err-value g c =
    let bytes = g.S.Store.bytes c.args.store.now in
    let cut = c.in_err-value.field-0.0 in
    let h = has_refused (λ (v x : ℕ). v ≡ x) (field (spread bytes) c.args.width c.args.place) (Cut cut) (field_refuses bytes c.args.place c.args.width cut c.requires.0 c.requires.1 c.in_err-value.ensures) in
    let f = is_refused (λ (v x : ℕ). v ≡ x) _ (Cut cut) c.from_residual.result _ h c.from_residual.ensures.1 in
    record { answers = f.0; within = f.1 }

pub returns : goal.returns
returns g c =
    let f = field_reads (g.S.Store.bytes c.args.store.now) c.args.place c.args.width c.in_ok-value.value c.requires.0 c.requires.1 c.in_ok-value.ensures in
    record { answers = f.0; within = f.1 }
