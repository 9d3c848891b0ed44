use Rattle.std.proofs.Common.{◌≡◌, ◌∙◌, Some, ap, subst, sym}
use Rattle.std.specs.BTreeMap.{get}
use Rattle.std.specs.Option.{option_copied}
use Rattle.ent_finder.specs.Slots.{held}
use Rattle.lint_links.specs.proofs_only.Found.{reference_cmp}
use Rattle.lint_links.proofs.Searched.{HasOneMore, found_more}
use Rattle.lint_links.proofs.found.FoundDocuments.number.Goals as goal

pub returns-in-Some-clause-number : goal.returns-in-Some-clause-number
returns-in-Some-clause-number c =
    let there : get reference_cmp c.args.self.now.numbers c.args.reference.now ≡ Some c.in-Some.number.now =
    sym c.get.ensures.value ∙ ap option_copied c.in-Some.is in
    c.requires.found c.args.reference.now c.in-Some.number.now there

pub returns-clause-found : goal.returns-clause-found
returns-clause-found c =
    let n = c.number_found-number.result in
    found_more (held c.args.docs.now) c.args.self.now (record { numbers = c.insert.new.self }) c.args.reference.now n c.requires.found c.number_found-number.ensures
    (subst (λ r. HasOneMore c.args.self.now (record { numbers = c.insert.new.self }) r n) c.in_ok-copy.ensures c.in_ok-insert.ensures.updates.0)
