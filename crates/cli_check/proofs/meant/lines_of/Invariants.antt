use Rattle.std.proofs.Common.{map, take}
use Rattle.std.specs.Prelude.{string_bytes}
use Rattle.cli_check.specs.Meant.{AreToldOf}
use Rattle.cli_check.proofs.meant.lines_of.Given as goal

-- the lines of those that were passed
abbrev pub invariant-loop-warning : goal.invariant-loop-warning
invariant-loop-warning l = AreToldOf (take l.warning-index l.warnings) (map string_bytes l.lines.items)
