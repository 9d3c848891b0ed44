use Rattle.memo_bags.proofs.MakingWays.{IsMaking}
use Rattle.memo_bags.proofs.ways.make_way.Given as goal

abbrev pub invariant-loop-finding : goal.invariant-loop-finding
invariant-loop-finding l = IsMaking l.initial.tree.nodes.items l.tree.nodes.items l.found l.finding-index l.place
