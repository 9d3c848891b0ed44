use Rattle.std.proofs.Common.{◌∙◌, Some, ap, codes, option_map, sym}
use Rattle.clap.specs.Matches.{found_of}
use Rattle.cli_words.proofs.Rows.{no_option_found, option_found}
use Rattle.cli_words.specs.Sources.{path_named}
use Rattle.cli_words.proofs.asked_coverage.asked_coverage.Goals as goal

pub returns-in-Some-clause-asked : goal.returns-in-Some-clause-asked
returns-in-Some-clause-asked c = record {
  state = ap Some c.named.ensures
      ∙ ap (option_map path_named) (option_found c.get_str.result c.in-Some.word (found_of c.args.options.now) (codes "coverage") c.in-Some.is c.get_str.ensures);
  is_json = c.is_given.ensures;
}

pub returns-in-None-clause-none : goal.returns-in-None-clause-none
returns-in-None-clause-none c = sym (no_option_found c.get_str.result (found_of c.args.options.now) (codes "coverage") c.in-None.is c.get_str.ensures)
