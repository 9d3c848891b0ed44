use Rattle.std.proofs.Common.{ap, arith, ◌∙◌}
use Rattle.ent_request.specs.Questions.{at_numbers}
use Rattle.ent_request.proofs.Numbered.{begins_itself, begins_more, begins_same, given_all, given_more, given_none}
use Rattle.ent_trace.proofs.asking.number_all.Goals as goal

pub returns-in_err-given-clause-begins : goal.returns-in_err-given-clause-begins
returns-in_err-given-clause-begins c = begins_itself c.args.questions.now

pub loop-number-init : goal.loop-number-init
loop-number-init c = given_none c.args.asked.now c.args.numbers.now c.args.questions.now c.in_ok-given.given.items c.in_ok-given.ensures.items

pub loop-number-preserved : goal.loop-number-preserved
loop-number-preserved c =
    given_more c.args.asked.now c.args.numbers.now c.loop-number.number-index c.args.questions.now c.loop-number.questions c.number_one.new.questions c.loop-number.given.items c.push.new.self.items
    c.index-asked-number.result c.in_ok-next.next c.requires c.loop-number-test.true c.index-asked-number.is c.in_ok-next.ensures.ok c.in_ok-next.ensures.number c.in_ok-push.ensures.items c.loop-number.invariant

pub returns-in_err-next-clause-begins : goal.returns-in_err-next-clause-begins
returns-in_err-next-clause-begins c =
    begins_same c.loop-number.questions c.number_one.new.questions c.args.questions.now c.in_err-next.ensures.err c.loop-number.invariant.begins

pub returns-in_err-push-clause-begins : goal.returns-in_err-push-clause-begins
returns-in_err-push-clause-begins c =
    begins_more c.loop-number.questions c.number_one.new.questions c.args.questions.now c.index-asked-number.result c.in_ok-next.ensures.ok c.loop-number.invariant.begins

pub returns-clause-asked : goal.returns-clause-asked
returns-clause-asked c =
    ap (at_numbers c.loop-number.questions) c.from_vec.ensures
    ∙ given_all c.args.asked.now c.args.numbers.now c.loop-number.number-index c.args.questions.now c.loop-number.questions c.loop-number.given.items (omega (arith, c.loop-number-test.false)) c.loop-number.invariant
