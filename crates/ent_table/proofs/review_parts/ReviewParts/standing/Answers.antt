use Rattle.std.proofs.Common.{sym, ap, subst, ◌∙◌}
use Rattle.ent_finder.specs.Slots.{document_at, module_at}
use Rattle.ent_table.specs.proofs_only.Exchange.{IsWithin, document_in, taken}
use Rattle.ent_table.specs.Fresh.{point_of, state_of}
use Rattle.ent_eval.proofs.SlotsSwapped.{held-taken, held_within}
use Rattle.ent_eval.specs.Point.{Point}
use Rattle.ent_table.proofs.review_parts.ReviewParts.standing.Goals as goal

pub returns-in-Document : goal.returns-in-Document
returns-in-Document g c =
    let ms = (point_of c.args.self.now).slots in
    let s = state_of c.args.self.now in
    let number = c.in-Document.number in
    let key = c.in-Document.key in
    c.document_at.ensures
    ∙ (λ t. document_at (module_at ((c.policies.ensures ∙ ap (λ (p : Point). p.slots) c.pdp.ensures) t) number) key)
    ∙ held-taken ms number key (held_within ms number (subst (IsWithin s) c.in-Document.is c.requires).0)
    ∙ ap (λ x. document_in (taken s x)) (sym c.in-Document.is)
