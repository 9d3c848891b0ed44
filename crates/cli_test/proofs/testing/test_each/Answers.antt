use Rattle.std.proofs.Common.{◌∙◌, false, refl, sym}
use Rattle.cli_test.specs.proofs_only.Sharing.{shares}
use Rattle.cli_test.proofs.Shared.{at_hand, not_chosen, others_at_hand}
use Rattle.cli_test.proofs.Tests.{tested_more, tested_none, tested_same}
use Rattle.cli_test.proofs.testing.test_each.Goals as goal
use Rattle.cli_test.proofs.testing.test_each.Goals.{then-is_chosen+in_ok-case+in_ok-push, else-is_chosen}

pub loop-session-init : goal.loop-session-init
loop-session-init g c = record {
  tested = tested_none c.args.plan c.args.name.now (g.W.Write.contents c.args.writer.now) c.new-cases.result c.new-cases.ensures;
  at_hand = rw (c.split_replies.ensures.front, c.split_replies.ensures.behind, c.as_slice.ensures.value) c.in_ok-replies.ensures.replies;
}

pub loop-session-preserved : goal.loop-session-preserved
loop-session-preserved g c =
    let contents = g.W.Write.contents in
    let plan = c.args.plan in
    let all = c.args.sessions.now in
    let l = c.loop-session in
    let session = c.session-item.result in
    let first = c.split_replies.result.0.now in
    elim c.if-is_chosen.branch [
      | then-is_chosen+in_ok-case+in_ok-push w ↦ record {
        tested = rw (w.cases-is, w.writer-is)
            (tested_more plan c.args.name.now all l.session-index session
            (contents c.args.writer.now) (contents l.writer) (contents w.run_next.new.writer) l.cases w.push.new.self w.in_ok-case.case
            c.loop-session-test.true c.session-item.is (sym c.is_chosen.ensures ∙ w.if-is_chosen.true) w.in_ok-case.ensures.ran w.in_ok-case.ensures.told
            w.in_ok-push.ensures.ok l.invariant.tested);
        at_hand = rw (w.rest-is, w.in_ok-case.ensures.left)
            (others_at_hand plan all l.session-index session c.loop-session-test.true c.session-item.is first l.rest.now (shares plan session) refl l.invariant.at_hand);
      }
      | else-is_chosen w ↦ record {
        tested = rw (w.cases-is, w.writer-is)
            (tested_same plan c.args.name.now all l.session-index session (contents c.args.writer.now) (contents l.writer) l.cases
            c.loop-session-test.true c.session-item.is (sym c.is_chosen.ensures ∙ w.if-is_chosen.false) l.invariant.tested);
        at_hand = rw w.rest-is
            (others_at_hand plan all l.session-index session c.loop-session-test.true c.session-item.is first l.rest.now false
            (not_chosen plan session (sym c.is_chosen.ensures ∙ w.if-is_chosen.false)) l.invariant.at_hand);
      }
    ]

pub run_next-requires-clause-at_hand : goal.run_next-requires-clause-at_hand
run_next-requires-clause-at_hand g c =
    at_hand c.args.plan c.args.sessions.now c.loop-session.session-index c.session-item.result c.loop-session-test.true c.session-item.is
    c.split_replies.result.0.now c.loop-session.rest.now c.loop-session.invariant.at_hand
