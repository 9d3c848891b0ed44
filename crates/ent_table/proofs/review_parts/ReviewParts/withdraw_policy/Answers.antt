use Rattle.std.proofs.Common.{arith}
use Rattle.ent_table.specs.Fresh.{state_of}
use Rattle.ent_table.proofs.Exchanges.{count_withdrawn}
use Rattle.ent_table.proofs.Steps.{withdrawn_is_held}
use Rattle.ent_table.proofs.review_parts.ReviewParts.withdraw_policy.Goals as goal

pub overflow_sub-documents : goal.overflow_sub-documents
overflow_sub-documents g c =
    let s = state_of c.args.self.now in
    let old = withdrawn_is_held s c.args.number c.args.key c.in_ok-withdrawal_fault.ensures in
    omega (arith, c.requires.documents, count_withdrawn s c.args.number c.args.key old.0 old.1)

pub make-requires-clause-documents : goal.make-requires-clause-documents
make-requires-clause-documents g c =
    let s = state_of c.args.self.now in
    let old = withdrawn_is_held s c.args.number c.args.key c.in_ok-withdrawal_fault.ensures in
    omega (arith, c.requires.documents, count_withdrawn s c.args.number c.args.key old.0 old.1)
