use Rattle.std.proofs.Common.{sym}
use Rattle.builder.specs.Refusals.{memory_number}
use Rattle.builder.proofs.Allowed.{all_used, none_used}
use Rattle.builder.proofs.lent.usable.Goals as goal

pub returns-in-Ok : goal.returns-in-Ok
returns-in-Ok c = sym (all_used c.args.states c.args.arcs c.args.slots c.in-Ok.ensures)

pub returns-in-Err : goal.returns-in-Err
returns-in-Err c = sym (none_used c.args.states c.args.arcs c.args.slots (memory_number c.in-Err.field-0) c.in-Err.ensures)
