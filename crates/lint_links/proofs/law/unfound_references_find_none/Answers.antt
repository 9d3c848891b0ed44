use Rattle.lint_links.proofs.NoneNamed.{names_none}
use Rattle.lint_links.proofs.law.unfound_references_find_none.Goals as goal

pub returns : goal.returns
returns c = names_none
