-- Kind 1: whole numbers, joined by addition; those of 32 bits are storable. Assumes nothing.
use Rattle.std.specs.Prelude.{ℕ, ◌+◌, ◌-◌, ◌^◌, min, nat_lt}
use Rattle.outputs.specs.Bits.{bits}
use Rattle.outputs.specs.Kinds.{Kind, read_field}

abbrev pub numbers : Kind
numbers = record {
  Ideal = ℕ;
  empty = 0;
  join = λ x y. x + y;
  common = λ x y. min x y;
  rest = λ x z. z - x;
  storable = λ x. nat_lt x (2 ^ 32);
  code = λ x. bits 32 x;
  read = read_field 32;
  number = 1;
}
