use Rattle.std.proofs.Common.{take, cond, Some, None}
use Rattle.ent_policy.specs.proofs_only.Measure.{AreMeasured, found}
use Rattle.ent_policy.proofs.measure.+measure.Given as goal

abbrev pub invariant-all_measured-loop-argument : goal.invariant-all_measured-loop-argument
invariant-all_measured-loop-argument l = AreMeasured (found l.table) (take l.argument-index l.arguments) l.nodes l.depth (cond l.typed (Some l.types.items) None)
