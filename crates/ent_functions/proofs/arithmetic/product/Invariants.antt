use Rattle.std.proofs.Common.{◌≡◌, true, pos, ◌*ℤ◌, drop}
use Rattle.ent_values.specs.Reading.{is_within_64_bits}
use Rattle.ent_functions.specs.Arguments.{integers_of}
use Rattle.ent_functions.specs.Integers.{from_left}
use Rattle.ent_functions.proofs.arithmetic.product.Given as goal

abbrev pub invariant-loop-argument : goal.invariant-loop-argument
invariant-loop-argument l = record {
  within : is_within_64_bits l.total ≡ true;
  left : from_left ◌*ℤ◌ l.total (integers_of (drop l.argument-index l.arguments)) ≡ from_left ◌*ℤ◌ (pos 1) (integers_of l.arguments);
}
