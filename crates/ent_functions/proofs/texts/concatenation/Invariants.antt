use Rattle.std.proofs.Common.{◌≡◌, string_bytes, take}
use Rattle.ent_functions.specs.Arguments.{texts_of}
use Rattle.ent_functions.specs.Texts.{joined}
use Rattle.ent_functions.proofs.texts.concatenation.Given as goal

abbrev pub invariant-loop-argument : goal.invariant-loop-argument
invariant-loop-argument l = string_bytes l.whole ≡ joined (texts_of (take l.argument-index l.arguments))
