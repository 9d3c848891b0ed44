use Rattle.std.proofs.Common.{◌≡◌, map}
use Rattle.ent_table.specs.Tables.{change_of}
use Rattle.ent_table.proofs.since.all_named.Given as goal

abbrev pub invariant-loop-change : goal.invariant-loop-change
invariant-loop-change l = l.changes.items ≡ map change_of l.yielded
