use Rattle.std.proofs.Common.{◌≡◌, ◌||◌, map, take}
use Rattle.lint_declared.specs.Settings.{has_name, names_in}
use Rattle.lint_declared.specs.declared.listed.ListedName.{ListedName}
use Rattle.lint_declared.proofs.listed.add_all.Given as goal

-- the names of the lines so far were added
abbrev pub invariant-loop-line : goal.invariant-loop-line
invariant-loop-line l = (name : ListedName) → has_name name l.names.keys ≡ (has_name name l.fn.names.keys || has_name name (names_in (map (λ l. l.now) (take l.line-index l.lines))))
