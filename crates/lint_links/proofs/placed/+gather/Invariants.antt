use Rattle.std.proofs.Common.{◌≡◌, ◌++◌, drop, map}
use Rattle.lint_links.specs.References.{numbered, references_below}
use Rattle.lint_links.proofs.placed.+gather.Given as goal

abbrev pub invariant-gather_set-loop-number : goal.invariant-gather_set-loop-number
invariant-gather_set-loop-number l =
    l.all ++ numbered l.number (map references_below (drop l.number l.children)) l.path ≡ l.fn.all ++ numbered 0 (map references_below l.children) l.path
