use Rattle.std.proofs.Common.{bytes_eq, rules, tests, ◌∙◌}
use Rattle.std.proofs.lemmas.Iterator.{YieldsList-from_slice}
use Rattle.std.proofs.lemmas.Iterator.Search.{any_from_yields_List}
use Rattle.lint_declared.proofs.Noted.{any_shown}
use Rattle.lint_declared.proofs.lines.is_known.Goals as goal

pub returns : goal.returns
returns c =
    any_from_yields_List (λ command. bytes_eq c.args.word.now command.now) _ _ c.any.result c.any.ensures.ran (YieldsList-from_slice c.args.commands.now cc)
    (λ x b q k. search (rules, tests))
    ∙ any_shown (bytes_eq c.args.word.now) c.args.commands.now
