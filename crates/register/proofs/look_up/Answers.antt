use Rattle.std.proofs.Common.{ℕ, ◌<◌, ◌≤◌, length, ⊎_elim, arith}
use Rattle.std.proofs.lemmas.Bool.{cases_lt}
use Rattle.register.specs.Slots.{Taken}
use Rattle.register.proofs.Probing.{used_all}
use Rattle.register.proofs.look_up.Goals as goal

pub unreachable-requires : goal.unreachable-requires
unreachable-requires g c =
    let home = c.args.home in
    let each : (j : ℕ) → j < length c.args.slots.now → Taken c.args.slots.now j = λ j v. ⊎_elim (λ (lt : j < home). (c.in-None.ensures j (omega arith) lt).taken) (λ (ge : home ≤ j). (c.in_default.ensures j ge v).taken) (cases_lt j home) in
    omega (arith, used_all c.args.slots.now each, c.requires.few)
