use Rattle.lint_declared.proofs.Names.{added}
use Rattle.lint_declared.proofs.listed.add.Goals as goal

pub returns-in_ok-insert : goal.returns-in_ok-insert
returns-in_ok-insert c = λ other. rw c.in-Some.is (added c.args.names.now.keys c.insert.new.self.keys c.in-Some.name c.in_ok-insert.ensures.updates.0 other)
