use Rattle.std.proofs.Common.{◌≡◌, ◌+◌, ◌-◌, ◌*◌, ◌/◌, ◌%◌, Ok, Err, refl, ap, subst, arith}
use Rattle.std.proofs.lemmas.Result.{err_from_is_err_and}
use Rattle.fields.specs.Reads.{Gathered}
use Rattle.fields.proofs.FieldValues.{window_there, window_lacks}
use Rattle.fields.proofs.reading.window_at.Goals as goal

pub returns : goal.returns
returns g c =
    let bytes = g.S.Store.bytes c.args.store.now in
    let p = c.args.place in
    let w = c.clamp-width.result in
    let count : c.div_ceil-count.result ≡ (p % 8 + w + 7) / 8 = omega arith in
    window_there bytes p c.args.width w _ c.clamp-width.ensures (g.S.Store.short c.args.store.now) (ap (λ n. n * 8 - (p % 8 + w)) count) refl
    (subst (λ n. Gathered bytes (p / 8) n (Ok c.in_ok-row.row)) count c.in_ok-row.ensures)

pub returns-in_err-row : goal.returns-in_err-row
returns-in_err-row g c =
    let bytes = g.S.Store.bytes c.args.store.now in
    let p = c.args.place in
    let w = c.clamp-width.result in
    let e = err_from_is_err_and c.from_residual.result c.from_residual.ensures.1 in
    let count : c.div_ceil-count.result ≡ (p % 8 + w + 7) / 8 = omega arith in
    rw (e.1, e.2) (window_lacks bytes p c.args.width w c.in_err-row.field-0.0 c.clamp-width.ensures (subst (λ n. Gathered bytes (p / 8) n (Err c.in_err-row.field-0.0)) count c.in_err-row.ensures))
