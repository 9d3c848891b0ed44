use Rattle.std.proofs.Common.{◌∙◌, ap}
use Rattle.clap.specs.Matches.{found_of}
use Rattle.cli_words.proofs.Rows.{no_option_found, option_found}
use Rattle.cli_words.specs.Options.{is_given}
use Rattle.cli_words.proofs.asked_tests.is_given.Goals as goal

pub returns-in-Some : goal.returns-in-Some
returns-in-Some c = c.eq.ensures ∙ ap is_given (option_found c.get_str.result c.in-Some.text (found_of c.args.options.now) c.args.option.now c.in-Some.is c.get_str.ensures)

pub returns-in-None : goal.returns-in-None
returns-in-None c = ap is_given (no_option_found c.get_str.result (found_of c.args.options.now) c.args.option.now c.in-None.is c.get_str.ensures)
