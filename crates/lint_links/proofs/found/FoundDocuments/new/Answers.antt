use Rattle.lint_links.proofs.Searched.{found_none}
use Rattle.lint_links.proofs.found.FoundDocuments.new.Goals as goal

pub returns : goal.returns
returns c = λ docs. found_none docs (record { numbers = c.new.result }) c.new.ensures.empty
