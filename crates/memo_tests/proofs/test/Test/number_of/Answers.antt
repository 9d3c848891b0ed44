use Rattle.std.proofs.Common.{[], ◌∷◌, arith, refl}
use Rattle.memo_bags.proofs.Growing.{at_end, starts_itself}
use Rattle.memo_tests.proofs.test.Test.number_of.Goals as goal

pub returns-in-Some-clause-begins : goal.returns-in-Some-clause-begins
returns-in-Some-clause-begins c = starts_itself c.args.self.now.outcomes.items c.args.self.now.outcomes.items refl

pub returns-in_err-push-clause-begins : goal.returns-in_err-push-clause-begins
returns-in_err-push-clause-begins c = starts_itself c.args.self.now.outcomes.items c.push.new.self.items c.in_err-push.ensures.items

pub returns-clause-there : goal.returns-clause-there
returns-clause-there c =
    let outcomes = c.args.self.now.outcomes in
    at_end outcomes.items c.push.new.self.items c.args.outcome c.len-number.result c.in_ok-push.ensures.items (omega (arith, outcomes.ok.0, c.len-number.ensures))

pub returns-clause-begins : goal.returns-clause-begins
returns-clause-begins c = (c.args.outcome ∷ [], c.in_ok-push.ensures.items)
