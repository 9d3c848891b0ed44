use Rattle.std.proofs.Common.{◌∙◌, Some, ap, map}
use Rattle.std.proofs.lemmas.List.{take_all}
use Rattle.ent_finder.specs.Slots.{held}
use Rattle.lint_links.proofs.Flags.{rows_all}
use Rattle.lint_links.specs.Together.{leads_to}
use Rattle.lint_links.proofs.links.rows.Goals as goal

pub returns-clause-rows : goal.returns-clause-rows
returns-clause-rows c =
    rows_all (held c.args.docs.now) (λ row. row.items) c.loop-one.rows.items c.args.all.now c.requires.listed
    (c.loop-one.invariant.rows ∙ ap (λ all. map (λ one. map Some (leads_to (held c.args.docs.now) one.document.now)) all) (take_all c.loop-one.one-index c.args.all.now c.loop-one-test.false))
