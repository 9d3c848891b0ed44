use Rattle.std.proofs.Common.{◌≡◌, ◌++◌}
use Rattle.std.specs.Option.{option_to_list}
use Rattle.ent_trace.proofs.distinct.listed.Given as goal

abbrev pub invariant-loop-cause : goal.invariant-loop-cause
invariant-loop-cause l = l.list ++ l.cause-iterator ≡ option_to_list l.fn.named ++ l.fn.causes.keys
