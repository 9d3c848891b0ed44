use Rattle.std.proofs.Common.{◌≡◌}
use Rattle.std.specs.FinMap.{entries}
use Rattle.std.specs.Option.{option_map}
use Rattle.ent_finder.specs.Slots.{held}
use Rattle.lint_links.proofs.Numbers.{last_named}
use Rattle.lint_links.specs.proofs_only.Rows.{numbered}
use Rattle.lint_links.proofs.links.number_found.Given as goal

abbrev pub invariant-loop-number : goal.invariant-loop-number
invariant-loop-number l = option_map (numbered (entries (held l.docs))) l.found ≡ last_named l.reference (entries (held l.docs)) l.number
