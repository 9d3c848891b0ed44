use Rattle.std.proofs.Common.{◌∙◌, ap, codes, refl, rules, subst}
use Rattle.clap.specs.Matches.{found_of}
use Rattle.clap.specs.Simple.{subcommand_rows_of}
use Rattle.clap.specs.Walk.{all_of, rows_of}
use Rattle.cli_words.proofs.Rows.{rows_found}
use Rattle.cli_words.specs.Options.{AreAsked, IsCheckTask}
use Rattle.cli_words.proofs.options.task_of.Goals as goal

pub returns-in-check-clause-task : goal.returns-in-check-clause-task
returns-in-check-clause-task c = record {
  serve = search rules;
  check = λ options found.
      let rows = rows_found (rows_of (found_of c.in_ok-name.options.now)) options (subcommand_rows_of c.args.matches.now) (codes "check") c.in_ok-name.ensures.rows found in
      subst (λ rs. IsCheckTask rs c.check_task.result) rows c.check_task.ensures.task;
  compare = search rules;
  lines = search rules;
  test = search rules;
}

pub returns-in_ok-asked_tests-in-test-clause-task : goal.returns-in_ok-asked_tests-in-test-clause-task
returns-in_ok-asked_tests-in-test-clause-task c = record {
  serve = search rules;
  check = search rules;
  compare = search rules;
  lines = search rules;
  test = λ options found texts is.
      let rows = rows_found (rows_of (found_of c.in_ok-name.options.now)) options (subcommand_rows_of c.args.matches.now) (codes "test") c.in_ok-name.ensures.rows found in
      (c.in_ok-asked_tests-in-test.field-0, refl, subst (λ rs. AreAsked rs c.in_ok-asked_tests-in-test.field-0) rows c.in_ok-asked_tests-in-test.ensures.asked);
}

pub returns-in_err-asked_tests-in-test-clause-task : goal.returns-in_err-asked_tests-in-test-clause-task
returns-in_err-asked_tests-in-test-clause-task c = record {
  serve = search rules;
  check = search rules;
  compare = search rules;
  lines = search rules;
  test = λ options found texts is.
      let rows = rows_found (rows_of (found_of c.in_ok-name.options.now)) options (subcommand_rows_of c.args.matches.now) (codes "test") c.in_ok-name.ensures.rows found in
      absurd (c.in_err-asked_tests-in-test.ensures.none texts (ap (all_of (codes "FILE")) rows ∙ is));
}
