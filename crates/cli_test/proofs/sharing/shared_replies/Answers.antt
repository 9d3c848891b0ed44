use Rattle.std.proofs.Common.{◌∙◌, ◌++◌, ap, subst}
use Rattle.std.proofs.lemmas.Result.{IfOk-weaker}
use Rattle.cli_serve.specs.Replying.{AreRepliesTo}
use Rattle.cli_replies.specs.Comparing.{asked}
use Rattle.cli_test.specs.proofs_only.Sharing.{shared_steps}
use Rattle.cli_test.proofs.Shared.{shared}
use Rattle.cli_test.proofs.sharing.shared_replies.Goals as goal

pub returns-clause-replies : goal.returns-clause-replies
returns-clause-replies c =
    let plan = c.args.plan in
    let sessions = c.args.sessions.now in
    let sent = c.as_slice.ensures.value ∙ c.in_ok-push_shared.ensures.lines
    ∙ ap (λ l. l ++ asked (shared_steps plan sessions)) (c.in_ok-push_asked.ensures ∙ ap (λ l. l ++ asked plan.state.now) c.new-lines.ensures.items) in
    IfOk-weaker c.replies_to.result _ _
    (λ v h. shared plan sessions v.items c.replies_are_fresh.ensures c.questions_leave_all.ensures (subst (λ l. AreRepliesTo plan.limits 2 l v.items) sent h))
    c.replies_to.ensures.replies
