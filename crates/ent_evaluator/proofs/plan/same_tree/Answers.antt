use Rattle.std.proofs.Common.{sym, ◌∙◌}
use Rattle.ent_policy.proofs.Documents.{same_document-Decides}
use Rattle.ent_evaluator.proofs.plan.same_tree.Goals as goal

pub returns : goal.returns
returns c = λ h. (same_document-Decides c.args.first.now c.args.second.now).0 (sym c.eq.ensures ∙ h)
