use Rattle.std.proofs.Common.{Some, sym, ap, ◌∙◌}
use Rattle.ent_policy.specs.Key.{key_of}
use Rattle.ent_policy.specs.declared.key.DocKey.{DocKey}
use Rattle.ent_finder.specs.Slots.{document_count}
use Rattle.ent_table.specs.Fresh.{state_of}
use Rattle.ent_table.specs.Step.{with_policy}
use Rattle.ent_table.proofs.Exchanges.{count_replaced}
use Rattle.ent_table.proofs.Steps.{replaced_is_held}
use Rattle.ent_table.proofs.review_parts.ReviewParts.replace_policy.Goals as goal

pub make-requires-clause-documents : goal.make-requires-clause-documents
make-requires-clause-documents g c =
    let s = state_of c.args.self.now in
    let old = replaced_is_held s c.args.number c.args.document c.in_ok-key.ensures.tested in
    c.requires.documents
    ∙ sym (count_replaced s c.args.number (key_of c.args.document) c.args.document old.0 old.1)
    ∙ ap (λ (k : DocKey). document_count (with_policy s c.args.number k (Some c.args.document)).held.modules) (sym c.in_ok-key.ensures.key)
