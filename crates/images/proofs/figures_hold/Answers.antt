use Rattle.std.proofs.Common.{refl}
use Rattle.outputs.specs.Bits.{bits}
use Rattle.machines.specs.Memory.{refusal}
use Rattle.images.specs.Steps.{field, output}
use Rattle.images.specs.Loads.{entries, arcs, end_output, records, all_targeted, load}
use Rattle.images.proofs.figures_hold.Goals as goal

pub returns : goal.returns
unfolding bits refusal field output entries arcs end_output records all_targeted load
returns c = refl
