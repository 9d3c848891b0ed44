use Rattle.std.proofs.Common.{◌+◌, ◌∙◌, drop, arith}
use Rattle.memo_plan.specs.Heard.{came_of_rule}
use Rattle.memo_replay.proofs.Passed.{first_left, one_passed}
use Rattle.memo_replay.proofs.over.Over.pass_rules.Goals as goal

pub loop-preserved : goal.loop-preserved
loop-preserved g c = (
  λ w definitions here rules count cs stands.
      let next = first_left rules c.loop.counter (omega (arith, count, c.loop-test.true)) in
      one_passed c.args.self.now (came_of_rule w.looks w.request definitions here) (drop c.loop.counter rules) (drop (c.loop.counter + 1) rules) next.0 c.loop.state c.pass_rule.new.state cs next.1
      (c.in_ok-pass_rule.ensures.passes w definitions here next.0) (c.loop.invariant.0 w definitions here rules count cs stands),
  (c.pass_rule.ensures.heard.0 ∙ c.loop.invariant.1.0, c.pass_rule.ensures.heard.1 ∙ c.loop.invariant.1.1),
)
