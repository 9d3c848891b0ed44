use Rattle.std.proofs.Common.{Some, ap, sym, ◌∙◌}
use Rattle.memo_bags.proofs.MakingWays.{stands_by}
use Rattle.memo_bags.proofs.ways.at_place.Goals as goal

pub returns-in-Some-Ask : goal.returns-in-Some-Ask
returns-in-Some-Ask c =
    stands_by c.args.tree.now.nodes.items c.args.place c.args.finding c.in-Some-Ask.fork c.at_question.result (sym c.in-Some-Ask.ensures.there ∙ ap (λ n. Some n) c.in-Some-Ask.field-0-is) c.at_question.ensures
