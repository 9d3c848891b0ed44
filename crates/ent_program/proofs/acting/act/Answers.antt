use Rattle.std.proofs.Common.{◌≡◌, ℕ, List, Option, Some, None, inl, inr, refl, subst}
use Rattle.clap.specs.Walk.{Row}
use Rattle.ent_program.specs.Ends.{End, EndsBy, IsEndOf, checked, compared, end_status, no_task, served, tested, written}
use Rattle.cli_words.specs.Options.{IsTaskOf}
use Rattle.cli_words.specs.declared.options.Task.{Task}
use Rattle.cli_words.specs.declared.options.Task.TheVariants.{Check, Compare, Cover, Lines, Serve, Test}
use Rattle.ent_program.proofs.acting.act.Goals as goal

-- a task of the words that is this one ended so
ended : (found : Option (List ℕ × List Row)) (asked task : Task) (end : End) (status : ℕ) → IsTaskOf found (Some asked) → asked ≡ task
    → IsEndOf (Some task) end → status ≡ end_status end → EndsBy found status
ended found asked task end status is same its gives = inr (Some task, end, subst (λ (t : Task). IsTaskOf found (Some t)) same is, its, gives)

pub returns-in-Err : goal.returns-in-Err
returns-in-Err g c = inl (c.in-Err.wrong, c.in-Err.ensures.wrong, c.limit_status.ensures)

pub returns-in-Some-Serve : goal.returns-in-Some-Serve
returns-in-Some-Serve g c =
    ended _ _ (Serve c.in-Some-Serve.modules) (served c.serve_input.ensures.0) _ c.in-Some-Serve.ensures.task c.in-Some-Serve.field-0-is tt c.serve_input.ensures.1

pub returns-in-Some-Check : goal.returns-in-Some-Check
returns-in-Some-Check g c =
    ended _ _ (Check c.in-Some-Check.asked) (checked c.in-Some-Check.asked.is_strict c.check_asked.ensures.0) _ c.in-Some-Check.ensures.task c.in-Some-Check.field-0-is refl
    c.check_asked.ensures.1

pub returns-in-Some-Cover : goal.returns-in-Some-Cover
returns-in-Some-Cover g c =
    ended _ _ (Cover c.in-Some-Cover.asked) (compared None c.cover_state.ensures.0) _ c.in-Some-Cover.ensures.task c.in-Some-Cover.field-0-is (refl, c.cover_state.ensures.1)
    c.cover_state.ensures.2

pub returns-in-Some-Lines : goal.returns-in-Some-Lines
returns-in-Some-Lines g c =
    ended _ _ Lines (written c.write_lines.ensures.0) _ c.in-Some-Lines.ensures.task c.in-Some-Lines.field-0-is tt c.write_lines.ensures.1

pub returns-in-Some-Compare : goal.returns-in-Some-Compare
returns-in-Some-Compare g c =
    ended _ _ (Compare c.in-Some-Compare.states) (compared c.in-Some-Compare.states.failing c.compare_states.ensures.0) _ c.in-Some-Compare.ensures.task c.in-Some-Compare.field-0-is
    (refl, c.compare_states.ensures.1) c.compare_states.ensures.2

pub returns-in-Some-Test : goal.returns-in-Some-Test
returns-in-Some-Test g c =
    ended _ _ (Test c.in-Some-Test.tests) (tested c.run_tests.ensures.0) _ c.in-Some-Test.ensures.task c.in-Some-Test.field-0-is tt c.run_tests.ensures.1

pub returns-in-None : goal.returns-in-None
returns-in-None g c = inr (None, no_task, c.in-None.ensures.task, tt, refl)
