use Rattle.std.proofs.Common.{◌≡◌, ◌++◌, drop}
use Rattle.law_rebuild.specs.Rebuilding.{name_edits}
use Rattle.ent_dump.specs.proofs_only.Walk.{line_tokens}
use Rattle.ent_dump.proofs.dump.write_names.Given as goal

abbrev pub invariant-loop-name : goal.invariant-loop-name
invariant-loop-name l = l.out ++ line_tokens (name_edits l.list (drop l.name-index l.names)) ≡ l.fn.out ++ line_tokens (name_edits l.list l.names)
