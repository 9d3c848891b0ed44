use Rattle.std.proofs.Common.{◌≡◌, ◌≤◌, ◌∙◌, ap, subst, sym}
use Rattle.serde_json.specs.Data.{depth}
use Rattle.serde_json.specs.View.{view}
use Rattle.ent_polform.specs.ReadBack.{ReadsBack}
use Rattle.ent_polform.specs.Written.{written}
use Rattle.ent_polform.proofs.BackWhole.{documents_back}
use Rattle.ent_polform.proofs.FittingDocuments.{documents_are_shallow}
use Rattle.ent_polform.proofs.ReadTexts.{text_is}
use Rattle.ent_polform.proofs.written_documents.write_document.Goals as goal

pub returns-in-Ok-clause-written : goal.returns-in-Ok-clause-written
returns-in-Ok-clause-written c =
    text_is c.tree-tree.result.now c.args.document.now c.tree-tree.ensures.same c.tree-tree.ensures.checked _ (c.as_str.ensures.value ∙ c.in_ok-text.ensures)
    (view c.in-Ok.json) c.in-Ok.ensures.ok
    ∙ ap written c.tree-tree.ensures.same

pub returns-in-Ok-clause-read_back : goal.returns-in-Ok-clause-read_back
returns-in-Ok-clause-read_back c =
    let t = c.tree-tree.result.now in
    let same = c.tree-tree.ensures.same in
    let is : view c.in-Ok.json ≡ written t =
    text_is t c.args.document.now same c.tree-tree.ensures.checked _ (c.as_str.ensures.value ∙ c.in_ok-text.ensures) (view c.in-Ok.json) c.in-Ok.ensures.ok in
    subst (λ d. ReadsBack d (view c.in-Ok.json)) same (subst (ReadsBack t) (sym is) (documents_back t c.tree-tree.ensures.checked))

pub returns-in-Ok-clause-shallow : goal.returns-in-Ok-clause-shallow
returns-in-Ok-clause-shallow c =
    let t = c.tree-tree.result.now in
    let is : view c.in-Ok.json ≡ written t =
    text_is t c.args.document.now c.tree-tree.ensures.same c.tree-tree.ensures.checked _ (c.as_str.ensures.value ∙ c.in_ok-text.ensures) (view c.in-Ok.json) c.in-Ok.ensures.ok in
    subst (λ d. depth d ≤ 100) (sym is) (documents_are_shallow t c.tree-tree.ensures.checked)
