use Rattle.cli_replies.specs.Comparing.{is_sure, meets}
use Rattle.cli_replies.proofs.Compared.{behind_more, each_more, each_so, told_more}
use Rattle.cli_replies.proofs.comparing.compare.Goals as goal

pub loop-step-preserved : goal.loop-step-preserved
loop-step-preserved g c =
    let contents = g.W.Write.contents in record {
      passed = each_more c.args.steps.now c.args.replies.now c.loop-step.step-index c.step-item.result c.loop-step.rest.now
          c.split_reply.result.0.now c.split_reply.result.1.now c.loop-step-test.true c.step-item.is c.split_reply.ensures.first c.split_reply.ensures.behind
          meets c.loop-step.passed c.in_ok-passed.field-0 c.in_ok-passed.ensures.met c.loop-step.invariant.passed;
      sure = each_so c.args.steps.now c.args.replies.now c.loop-step.step-index c.step-item.result c.loop-step.rest.now
          c.split_reply.result.0.now c.split_reply.result.1.now c.loop-step-test.true c.step-item.is c.split_reply.ensures.first c.split_reply.ensures.behind
          is_sure c.in_ok-passed.ensures.sure c.loop-step.invariant.sure;
      behind = behind_more c.args.steps.now c.args.replies.now c.loop-step.step-index c.step-item.result c.loop-step.rest.now
          c.split_reply.result.0.now c.split_reply.result.1.now c.loop-step-test.true c.step-item.is c.split_reply.ensures.first c.split_reply.ensures.behind
          c.loop-step.invariant.behind;
      told = told_more c.args.steps.now c.args.replies.now c.loop-step.step-index c.step-item.result c.loop-step.rest.now
          c.split_reply.result.0.now c.split_reply.result.1.now c.loop-step-test.true c.step-item.is c.split_reply.ensures.first c.split_reply.ensures.behind
          c.args.name.now (contents c.args.writer.now) (contents c.loop-step.writer) (contents c.compare_one.new.writer) c.loop-step.invariant.told c.in_ok-passed.ensures.told;
    }
