use Rattle.std.proofs.Common.{◌≡◌, take}
use Rattle.std.specs.List.{filter}
use Rattle.ent_finder.specs.Slots.{held}
use Rattle.lint_links.specs.Together.{finds_none}
use Rattle.lint_links.proofs.missing.unfound_among.Given as goal

abbrev pub invariant-loop-one : goal.invariant-loop-one
invariant-loop-one l = l.all ≡ filter (finds_none (held l.docs)) (take l.one-index l.placed)
