use Rattle.std.specs.Prelude.{option_copied}
use Rattle.ent_functions.specs.proofs_only.Reading.{seen_arguments}
use Rattle.ent_functions.proofs.Comparing.{test_of_two, two_values_taken}
use Rattle.ent_functions.proofs.logic.holds.Goals as goal

pub two_values-requires : goal.two_values-requires
two_values-requires c =
    two_values_taken c.args.function (seen_arguments (option_copied c.args.value) c.args.arguments.now)
    (test_of_two c.args.function c.in_default.not-Or c.in_default.not-And c.in_default.not-Not c.requires.test) c.requires.taken
