use Rattle.std.proofs.Common.{refl, lit<, lit≤}
use Rattle.outputs.specs.Bits.{bits}
use Rattle.images.proofs.limits_are_met.Goals as goal

pub returns : goal.returns
unfolding bits
returns c = record {
  proper = record { nonempty = lit< tt; ascending = ((refl, tt), (tt, tt)); bytes = (refl, (refl, tt)); storable = (refl, (refl, tt)) };
  short = (lit≤ tt, (lit≤ tt, tt));
  few_keys = lit≤ tt;
  few_states = lit≤ tt;
  few_arcs = lit≤ tt;
}
