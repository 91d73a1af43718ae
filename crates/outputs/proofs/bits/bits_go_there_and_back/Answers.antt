use Rattle.outputs.specs.BitRows.{value_bits, bits_value, length_bits}
use Rattle.outputs.proofs.bits.bits_go_there_and_back.Goals as goal

pub returns : goal.returns
returns c = record { there = value_bits; back = bits_value; long = length_bits }
