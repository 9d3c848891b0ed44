use Rattle.std.proofs.Common.{ℕ, List, Option, inl, inr}
use Rattle.clap.specs.Values.{kind_of}
use Rattle.clap.specs.Walk.{Row}
use Rattle.ent_program.specs.Ends.{Ends, EndsBy, no_forms, no_limit, no_words, usage}
use Rattle.ent_program.proofs.acting.run.Goals as goal

-- an end of a task is an end
of_task : (found : Option (List ℕ × List Row)) (status : ℕ) → EndsBy found status → Ends status
of_task found status (inl (wrong, is, gives)) = (no_limit, gives)
of_task found status (inr (asked, end, is, its, gives)) = (end, gives)

pub returns-in-Err : goal.returns-in-Err
returns-in-Err g c = (no_words c.in-Err.fault, c.words_status.ensures)

pub returns-in_default : goal.returns-in_default
returns-in_default g c = (no_forms, c.status_of.ensures)

pub returns-in-Ok-try_get_matches_from : goal.returns-in-Ok-try_get_matches_from
returns-in-Ok-try_get_matches_from g c = of_task _ _ c.act.ensures

pub returns : goal.returns
returns g c = (usage c.tell_usage-is_lost.result (kind_of c.in-Err-try_get_matches_from.e), c.told_status.ensures)
