use Rattle.std.proofs.Common.{take}
use Rattle.std.specs.List.{flat_map}
use Rattle.lint_meaning.specs.proofs_only.Adding.{Adds}
use Rattle.lint_meaning.proofs.names.put_each.Given as goal

abbrev pub invariant-loop-part : goal.invariant-loop-part
invariant-loop-part g l = Adds l.fn.names (flat_map g.N.Naming.named (take l.part-index l.parts)) l.names
