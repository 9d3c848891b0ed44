use Rattle.std.proofs.Common.{codes, refl}
use Rattle.clap.specs.Matches.{found_of}
use Rattle.clap.specs.Walk.{rows_of}
use Rattle.cli_words.proofs.Rows.{arguments_found, arguments_missing}
use Rattle.cli_words.proofs.asked_check.asked_check.Goals as goal

pub returns-in-Some-clause-asked : goal.returns-in-Some-clause-asked
returns-in-Some-clause-asked c = record {
  files = λ texts is. arguments_found c.in-Some.files c.get_strs.result (found_of c.args.options.now) (codes "FILE") (rows_of (found_of c.args.options.now)) texts c.in-Some.is c.get_strs.ensures refl is;
  attributes = c.source_of.ensures;
  stored = c.source_of-in-Some.ensures;
  lines = c.source_of-in-Some-2.ensures;
  is_all = c.is_given.ensures;
  is_strict = c.is_given-in-Some.ensures;
}

pub returns-in-None-clause-none : goal.returns-in-None-clause-none
returns-in-None-clause-none c = λ texts is.
    arguments_missing c.get_strs.result (found_of c.args.options.now) (codes "FILE") (rows_of (found_of c.args.options.now)) texts c.in-None.is c.get_strs.ensures refl is
