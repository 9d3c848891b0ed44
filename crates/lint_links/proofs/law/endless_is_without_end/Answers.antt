use Rattle.lint_links.proofs.Endless.{without_end}
use Rattle.lint_links.proofs.law.endless_is_without_end.Goals as goal

pub returns : goal.returns
returns c = without_end
