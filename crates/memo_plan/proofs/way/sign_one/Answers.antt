use Rattle.std.proofs.Common.{refl, ap, ◌∙◌}
use Rattle.memo_plan.specs.Plan.{item_is_test}
use Rattle.memo_plan.proofs.Noting.{nothing_noted, nothing_passed}
use Rattle.memo_plan.proofs.way.sign_one.Goals as goal

pub returns-in-Named-clause-notes : goal.returns-in-Named-clause-notes
returns-in-Named-clause-notes g c = nothing_noted (g.O.Outcomes.tells c.args.outcomes.now) c.args.place c.args.entry.now (g.O.Outcomes.scene c.args.outcomes.now) c.args.entry.now.item c.args.way.now.items refl (ap item_is_test c.in-Named.is)

pub returns-in-Named-clause-passed : goal.returns-in-Named-clause-passed
returns-in-Named-clause-passed g c = nothing_passed c.args.entry.now (g.O.Outcomes.scene c.args.outcomes.now) c.args.entry.now.item refl (ap item_is_test c.in-Named.is)

pub returns-in-Given-clause-notes : goal.returns-in-Given-clause-notes
returns-in-Given-clause-notes g c = nothing_noted (g.O.Outcomes.tells c.args.outcomes.now) c.args.place c.args.entry.now (g.O.Outcomes.scene c.args.outcomes.now) c.args.entry.now.item c.args.way.now.items refl (ap item_is_test c.in-Given.is)

pub returns-in-Given-clause-passed : goal.returns-in-Given-clause-passed
returns-in-Given-clause-passed g c = nothing_passed c.args.entry.now (g.O.Outcomes.scene c.args.outcomes.now) c.args.entry.now.item refl (ap item_is_test c.in-Given.is)
