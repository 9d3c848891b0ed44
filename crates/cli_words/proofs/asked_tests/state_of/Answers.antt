use Rattle.std.proofs.Common.{◌∙◌, Some, ap, codes, option_map}
use Rattle.clap.specs.Matches.{found_of}
use Rattle.cli_words.proofs.Rows.{no_option_found, option_found}
use Rattle.cli_words.specs.Sources.{path_named}
use Rattle.cli_words.proofs.asked_tests.state_of.Goals as goal

pub returns-in-Some : goal.returns-in-Some
returns-in-Some c =
    ap Some c.named.ensures ∙ ap (option_map path_named) (option_found c.get_str.result c.in-Some.word (found_of c.args.options.now) (codes "state") c.in-Some.is c.get_str.ensures)

pub returns-in-None : goal.returns-in-None
returns-in-None c = ap (option_map path_named) (no_option_found c.get_str.result (found_of c.args.options.now) (codes "state") c.in-None.is c.get_str.ensures)
