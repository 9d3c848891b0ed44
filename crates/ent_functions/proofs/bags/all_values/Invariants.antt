use Rattle.std.proofs.Common.{◌≡◌, take}
use Rattle.std.specs.Prelude.{All}
use Rattle.ent_functions.specs.Arguments.{values_of}
use Rattle.ent_functions.specs.proofs_only.Reading.{IsHeld}
use Rattle.ent_functions.proofs.bags.all_values.Given as goal

abbrev pub invariant-loop-argument : goal.invariant-loop-argument
invariant-loop-argument l = record {
  value : l.all ≡ values_of (take l.argument-index l.arguments);
  held : All IsHeld (take l.argument-index l.arguments);
}
