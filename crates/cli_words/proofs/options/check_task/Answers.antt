use Rattle.std.proofs.Common.{◌≡◌, ◌∙◌, None, Some, ap, option_map, refl}
use Rattle.cli_words.specs.Sources.{path_named, path_of}
use Rattle.cli_words.proofs.options.check_task.Goals as goal

pub returns-in-Some-clause-task : goal.returns-in-Some-clause-task
returns-in-Some-clause-task c =
    let asked = c.in-Some.ensures.asked in record {
      cover = λ word is. (c.in-Some.coverage, refl, asked);
      check = λ none texts is.
          let no : Some (path_of c.in-Some.coverage.state) ≡ None = asked.state ∙ ap (option_map path_named) none in
          cc;
    }

pub returns-in_ok-asked_check-in-None-clause-task : goal.returns-in_ok-asked_check-in-None-clause-task
returns-in_ok-asked_check-in-None-clause-task c = record {
  cover = λ word is. cc (c.in-None.ensures.none);
  check = λ none texts is. (c.in_ok-asked_check-in-None.field-0, refl, c.in_ok-asked_check-in-None.ensures.asked);
}

pub returns-in_err-asked_check-in-None-clause-task : goal.returns-in_err-asked_check-in-None-clause-task
returns-in_err-asked_check-in-None-clause-task c = record {
  cover = λ word is. cc (c.in-None.ensures.none);
  check = λ none texts is. absurd (c.in_err-asked_check-in-None.ensures.none texts is);
}
