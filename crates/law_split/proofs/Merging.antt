-- What is merged or summed of the parts of a split is what the whole tells.
use Rattle.std.proofs.Common.{◌≡◌, ℕ, List, Ok, ap, sym, ◌∙◌}
use Rattle.std.specs.List.{sum}
use Rattle.ent_report.specs.declared.counts.Counts.{Counts}
use Rattle.law_split.specs.Merged.{AreByRuleOfTheWhole, AreChangesOfTheWhole, AreCountsOfTheWhole, AreWhoOfTheWhole, Request}
use Rattle.law_split.specs.Merged.{merged_people, merged_requests, summed}
use Rattle.law_split.proofs.Differed.{changes_summed}
use Rattle.law_split.proofs.Reported.{told_by_parts}

pub who_of_the_whole : (order : List (List ℕ)) (told : List (List (List ℕ))) (all : List (List ℕ))
    → all ≡ merged_people order told → AreWhoOfTheWhole order told all
unfolding AreWhoOfTheWhole
who_of_the_whole order told all is part_of whole parts action resource split same each =
    (told_by_parts part_of whole parts split).people action resource told each
    ∙ (λ i. Ok (merged_people (same i) told))
    ∙ ap Ok (sym is)

pub by_rule_of_the_whole : (order : List (List ℕ)) (told : List (List Request)) (all : List Request)
    → all ≡ merged_requests order told → AreByRuleOfTheWhole order told all
unfolding AreByRuleOfTheWhole
by_rule_of_the_whole order told all is part_of whole parts policy rule split same each =
    (told_by_parts part_of whole parts split).decided policy rule ∙ (λ i. merged_requests (same i) (each i)) ∙ sym is

pub counts_of_the_whole : (told : List Counts) (total : Counts) → total ≡ summed told → AreCountsOfTheWhole told total
unfolding AreCountsOfTheWhole
counts_of_the_whole told total is part_of whole parts split each =
    (told_by_parts part_of whole parts split).counted ∙ ap summed each ∙ sym is

pub changes_of_the_whole : (told : List ℕ) (total : ℕ) → total ≡ sum told → AreChangesOfTheWhole told total
unfolding AreChangesOfTheWhole
changes_of_the_whole told total is part_of before after olds news old new each =
    changes_summed part_of before after olds news old new ∙ ap sum each ∙ sym is
