use Rattle.std.proofs.Common.{ap, arith, ◌∙◌}
use Rattle.std.proofs.lemmas.List.{take_all}
use Rattle.std.specs.List.{sum}
use Rattle.law_split.proofs.Merging.{changes_of_the_whole}
use Rattle.law_split.proofs.sums.sum_changes.Goals as goal

pub returns-clause-whole : goal.returns-clause-whole
returns-clause-whole c =
    changes_of_the_whole c.args.parts.now c.loop-part.changes
    (c.loop-part.invariant ∙ ap sum (take_all c.loop-part.part-index c.args.parts.now (omega arith)))
