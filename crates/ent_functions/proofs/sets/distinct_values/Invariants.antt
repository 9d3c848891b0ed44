use Rattle.std.proofs.Common.{take}
use Rattle.std.specs.Prelude.{All}
use Rattle.ent_functions.specs.Arguments.{values_of}
use Rattle.ent_functions.specs.proofs_only.Found.{AreFound}
use Rattle.ent_functions.specs.proofs_only.Reading.{IsHeld}
use Rattle.ent_functions.proofs.sets.distinct_values.Given as goal

abbrev pub invariant-loop-argument : goal.invariant-loop-argument
invariant-loop-argument l = record {
  value : AreFound (values_of (take l.argument-index l.arguments)) l.found l.seen;
  held : All IsHeld (take l.argument-index l.arguments);
}
