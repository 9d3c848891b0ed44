use Rattle.std.proofs.Common.{◌∙◌, ap, map}
use Rattle.std.specs.FinMap.{entries}
use Rattle.ent_finder.specs.Finding.{most_recent}
use Rattle.ent_finder.specs.Slots.{held}
use Rattle.lint_links.proofs.Numbers.{row_step}
use Rattle.lint_links.specs.proofs_only.Rows.{numbered}
use Rattle.lint_links.proofs.links.row.Goals as goal

pub loop-one-preserved : goal.loop-one-preserved
loop-one-preserved c =
    let docs = held c.args.docs.now in
    record {
      row = ap (map (numbered (entries docs))) c.in_ok-put.ensures
          ∙ row_step (numbered (entries docs)) (λ p. most_recent p.reference docs) _ c.loop-one.one-index c.one-item.result c.loop-one-test.true c.one-item.is c.loop-one.row.items
          c.in_ok-number.number c.in_ok-number.ensures.number c.loop-one.invariant.row;
      found = c.in_ok-number.ensures.found;
    }
