use Rattle.std.proofs.Common.{codes}
use Rattle.clap.specs.Matches.{found_of}
use Rattle.cli_words.proofs.Rows.{written_in_rows}
use Rattle.cli_words.proofs.options.modules_of.Goals as goal

pub returns-clause-written : goal.returns-clause-written
returns-clause-written c = record {
  attributes = written_in_rows (found_of c.args.options.now) (codes "attribute-modules") _ c.number_of.ensures.written;
  policies = written_in_rows (found_of c.args.options.now) (codes "policy-modules") _ c.number_of-2.ensures.written;
}
