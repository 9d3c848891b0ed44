use Rattle.std.proofs.Common.{◌+◌, Some, sym, ap, ◌∙◌}
use Rattle.ent_policy.specs.Key.{key_of}
use Rattle.ent_policy.specs.declared.key.DocKey.{DocKey}
use Rattle.ent_finder.specs.Slots.{document_count}
use Rattle.ent_table.specs.Fresh.{state_of}
use Rattle.ent_table.specs.Step.{with_policy}
use Rattle.ent_table.proofs.Exchanges.{count_added}
use Rattle.ent_table.proofs.Steps.{added_is_new}
use Rattle.ent_table.proofs.review_parts.ReviewParts.add_policy.Goals as goal

pub make-requires-clause-documents : goal.make-requires-clause-documents
make-requires-clause-documents g c =
    let s = state_of c.args.self.now in
    let new = added_is_new s c.args.number c.args.document c.in_ok-key.ensures.tested in
    ap (λ n. n + 1) c.requires.documents
    ∙ sym (count_added s c.args.number (key_of c.args.document) c.args.document new.0 new.1)
    ∙ ap (λ (k : DocKey). document_count (with_policy s c.args.number k (Some c.args.document)).held.modules) (sym c.in_ok-key.ensures.key)
