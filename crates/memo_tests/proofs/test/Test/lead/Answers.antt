use Rattle.std.proofs.Common.{refl, subst}
use Rattle.std.specs.Prelude.{IfSome}
use Rattle.memo_bags.specs.Ways.{way_of}
use Rattle.memo_bags.specs.proofs_only.Led.{IsMade}
use Rattle.memo_bags.proofs.Growing.{starts_itself}
use Rattle.memo_tests.proofs.Telling.{test_more, test_same}
use Rattle.memo_tests.proofs.test.Test.lead.Goals as goal

pub returns-in_err-make_way-clause-leads : goal.returns-in_err-make_way-clause-leads
returns-in_err-make_way-clause-leads c = λ at questions bags test o about there tells is.
    let outcomes = c.args.self.now.outcomes.items in
    test_same at questions bags test c.args.self.now _ (starts_itself outcomes outcomes refl) is c.in_err-make_way.ensures.leads (c.in_err-make_way.ensures.asks questions about is.asks)

pub returns-in-None-clause-leads : goal.returns-in-None-clause-leads
returns-in-None-clause-leads c = λ at questions bags test o about there tells is.
    let outcomes = c.args.self.now.outcomes.items in
    test_same at questions bags test c.args.self.now _ (starts_itself outcomes outcomes refl) is c.in_ok-make_way.ensures.leads (c.in_ok-make_way.ensures.asks questions about is.asks)

pub end-requires : goal.end-requires
end-requires c = (subst (λ o. IfSome o (IsMade c.make_way.new.tree.nodes.items c.args.found.now)) c.in-Some.is c.in_ok-make_way.ensures.made).0

pub returns-in-Some-clause-leads : goal.returns-in-Some-clause-leads
returns-in-Some-clause-leads c = λ at questions bags test o about there tells is.
    let outcomes = c.args.self.now.outcomes.items in
    let made = subst (λ r. IfSome r (IsMade c.make_way.new.tree.nodes.items c.args.found.now)) c.in-Some.is c.in_ok-make_way.ensures.made in
    test_more at questions bags test c.args.self.now _ (starts_itself outcomes outcomes refl) is c.make_way.new.tree.nodes.items (way_of c.args.found.now) c.args.number o
    c.in_ok-make_way.ensures.leads (c.in_ok-make_way.ensures.asks questions about is.asks) (c.end.ensures (way_of c.args.found.now) made.1) there tells
