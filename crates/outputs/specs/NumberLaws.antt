-- The laws of numbers. Assumes nothing.
use Rattle.std.specs.Prelude.{◌+◌, ◌-◌, ◌^◌, ◌<◌, min, refl}
use Rattle.std.proofs.Common.{arith, lit<, inl, inr, ltb-true, lt-ltb}
use Rattle.std.proofs.Math.Nat.{ℕ_set}
use Rattle.std.proofs.lemmas.Bool.{cases_lt}
use Rattle.outputs.specs.Kinds.{Laws}
use Rattle.outputs.specs.Numbers.{numbers}
use Rattle.outputs.specs.BitRows.{length_bits, field_code, field_got, field_begun, field_not_no}

pub numbers_lawful : Laws numbers
numbers_lawful = record {
  set = ℕ_set;
  associative = λ x y z. omega arith;
  neutral_left = λ x. omega arith;
  neutral_right = λ x. omega arith;
  left_cancel = λ x y z e. omega arith;
  empty_parts = λ x y e. (omega arith, omega arith);
  common_of_left = λ x y. (x - min x y, omega arith);
  common_of_right = λ x y. (y - min x y, omega arith);
  common_greatest = λ x y b p q. (min x y - b, omega (arith, p.1, q.1));
  empty_storable = refl;
  parts_storable = λ x y s. let h : x + y < 2 ^ 32 = ltb-true (x + y) (2 ^ 32) s in (lt-ltb x (2 ^ 32) (omega arith), lt-ltb y (2 ^ 32) (omega arith));
  code_short = λ x s. omega (arith, length_bits 32 x);
  read_code = field_code 32;
  read_got = field_got 32;
  read_begun = field_begun 32;
  read_no_code = λ bs r x s more e. field_not_no 32 bs r;
  rest_of_join = λ x y. omega arith;
  rest_else_empty = λ x z no. elim (cases_lt z x) [ inl h ↦ omega arith | inr h ↦ absurd (no (z - x, omega arith)) ];
  number_fits = lit< tt;
}
