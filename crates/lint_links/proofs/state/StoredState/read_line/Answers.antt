use Rattle.std.proofs.Common.{◌∙◌, sym}
use Rattle.lint_links.specs.Stored.{stored_in}
use Rattle.lint_links.proofs.Reading.{of_data}
use Rattle.lint_links.proofs.state.StoredState.read_line.Goals as goal

pub returns-in-Ok-Some-clause-ok : goal.returns-in-Ok-Some-clause-ok
returns-in-Ok-Some-clause-ok c =
    of_data (stored_in c.args.self.now) c.args.line.now _ _ c.read.result (sym c.is_empty.ensures ∙ c.if-is_empty.false) (rw c.in-Ok-Some.field-0-is at c.in-Ok-Some.ensures.read) c.read.ensures.ok
