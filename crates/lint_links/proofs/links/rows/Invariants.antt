use Rattle.std.proofs.Common.{◌≡◌, Some, map, take}
use Rattle.std.specs.FinMap.{entries}
use Rattle.ent_finder.specs.Slots.{held}
use Rattle.lint_links.specs.Together.{leads_to}
use Rattle.lint_links.specs.proofs_only.Found.{AreFound}
use Rattle.lint_links.specs.proofs_only.Rows.{numbered}
use Rattle.lint_links.proofs.links.rows.Given as goal

abbrev pub invariant-loop-one : goal.invariant-loop-one
invariant-loop-one l = record {
  rows : map (λ row. map (numbered (entries (held l.docs))) row.items) l.rows.items
      ≡ map (λ one. map Some (leads_to (held l.docs) one.document.now)) (take l.one-index l.all);
  found : AreFound (held l.docs) l.found;
}
