use Rattle.lint_links.specs.Stored.{stored_in}
use Rattle.lint_links.proofs.Reading.{no_other, of_no_command}
use Rattle.lint_links.proofs.state.StoredState.read.Goals as goal

pub returns-in_default-word-clause-err : goal.returns-in_default-word-clause-err
returns-in_default-word-clause-err g c =
    let word = c.in-Some.word.now in
    let no = c.in_default-word in
    λ told. of_no_command (stored_in c.args.self.now) (g.J.JsonTree.content c.args.line.now) word c.in-Some.ensures no.not-text no.not-text-2
    (no_other word no.not-format no.not-text-3 no.not-text-4 no.not-text-5 no.not-text-6 no.not-text-7 no.not-text-8)
