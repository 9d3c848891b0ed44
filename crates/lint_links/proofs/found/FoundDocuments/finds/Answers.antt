use Rattle.std.proofs.Common.{◌≡◌, ◌∙◌, Some, ap, sym}
use Rattle.std.specs.BTreeMap.{get}
use Rattle.std.specs.FinMap.{entries}
use Rattle.std.specs.Option.{option_copied}
use Rattle.ent_finder.specs.Finding.{most_recent}
use Rattle.ent_finder.specs.Slots.{held}
use Rattle.lint_links.specs.proofs_only.Found.{reference_cmp}
use Rattle.lint_links.specs.proofs_only.Rows.{numbered}
use Rattle.lint_links.proofs.Searched.{found_some}
use Rattle.lint_links.proofs.found.FoundDocuments.finds.Goals as goal

pub returns-in-Some : goal.returns-in-Some
returns-in-Some c =
    let docs = held c.args.docs.now in
    let there : get reference_cmp c.args.self.now.numbers c.args.reference.now ≡ Some c.in-Some.number.now =
    sym c.get.ensures.value ∙ ap option_copied c.in-Some.is in
    c.is_some.ensures
    ∙ found_some (numbered (entries docs)) c.in-Some.number.now (most_recent c.args.reference.now docs)
    (c.requires c.args.reference.now c.in-Some.number.now there)
