use Rattle.std.proofs.Common.{◌≡◌, Some, map, take}
use Rattle.std.specs.FinMap.{entries}
use Rattle.std.specs.List.{filter_map}
use Rattle.ent_finder.specs.Finding.{most_recent}
use Rattle.ent_finder.specs.Slots.{held}
use Rattle.lint_links.specs.proofs_only.Found.{AreFound}
use Rattle.lint_links.specs.proofs_only.Rows.{numbered}
use Rattle.lint_links.proofs.links.row.Given as goal

abbrev pub invariant-loop-one : goal.invariant-loop-one
invariant-loop-one l = record {
  row : map (numbered (entries (held l.docs))) l.row.items
      ≡ map Some (filter_map (λ p. most_recent p.reference (held l.docs)) (take l.one-index l.placed));
  found : AreFound (held l.docs) l.found;
}
