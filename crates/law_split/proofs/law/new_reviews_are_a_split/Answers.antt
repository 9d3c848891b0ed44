use Rattle.law_split.proofs.Led.{new_reviews_are_a_split}
use Rattle.law_split.proofs.law.new_reviews_are_a_split.Goals as goal

pub returns : goal.returns
returns c = new_reviews_are_a_split
