use Rattle.std.proofs.Common.{ap, arith, ◌∙◌}
use Rattle.std.proofs.lemmas.List.{take_all}
use Rattle.law_split.specs.Merged.{summed}
use Rattle.law_split.proofs.Merging.{counts_of_the_whole}
use Rattle.law_split.proofs.sums.sum_counts.Goals as goal

pub returns-clause-whole : goal.returns-clause-whole
returns-clause-whole c =
    counts_of_the_whole c.args.parts.now c.loop-part.counts
    (c.loop-part.invariant ∙ ap summed (take_all c.loop-part.part-index c.args.parts.now (omega arith)))
