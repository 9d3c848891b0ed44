use Rattle.std.proofs.Common.{codes, refl}
use Rattle.clap.specs.Matches.{found_of}
use Rattle.clap.specs.Walk.{rows_of}
use Rattle.cli_words.proofs.Rows.{arguments_found, arguments_missing, share_in_rows}
use Rattle.cli_words.proofs.asked_tests.asked_tests.Goals as goal

pub returns-in-Some-clause-asked : goal.returns-in-Some-clause-asked
returns-in-Some-clause-asked c = record {
  files = λ texts is. arguments_found c.in-Some.files c.get_strs.result (found_of c.args.options.now) (codes "FILE") (rows_of (found_of c.args.options.now)) texts c.in-Some.is c.get_strs.ensures refl is;
  state = c.state_of.ensures;
  only = c.word_of.ensures;
  listed = c.is_given.ensures;
  junit = c.word_of-in-Some.ensures;
  covered = c.is_given-in-Some.ensures;
  least = share_in_rows (found_of c.args.options.now) (codes "coverage-min") _ c.least_of.ensures;
}

pub returns-in-None-clause-none : goal.returns-in-None-clause-none
returns-in-None-clause-none c = λ texts is.
    arguments_missing c.get_strs.result (found_of c.args.options.now) (codes "FILE") (rows_of (found_of c.args.options.now)) texts c.in-None.is c.get_strs.ensures refl is
