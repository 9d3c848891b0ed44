-- The replies of the service are those of the headline.
use Rattle.std.proofs.Common.{ℕ, List, [], ◌∷◌, ap}
use Rattle.ent_report.proofs.Counted.{are_the_difference}
use Rattle.ent_report.specs.World.{World}
use Rattle.ent_line.specs.Headline.{IsHeadline, IsHeard}
use Rattle.ent_line.specs.Replies.{Answer}
use Rattle.ent_line.specs.Runs.{Run}
use Rattle.ent_line.specs.Step.{Answers, Counted, Counts}
use Rattle.ent_line.proofs.CommandLemmas.{refusal_is, refusal_keeps}
use Rattle.ent_line.proofs.HistoryLemmas.{led}
use Rattle.ent_line.proofs.KnownLemmas.{were_fresh}
use Rattle.ent_line.proofs.ReplyLemmas.{told_in_one_line}
use Rattle.ent_line.proofs.SessionLemmas.{separate}

is_heard : (w : World) (line : List ℕ) → IsHeard w line
is_heard w line = record {
  no_command = λ d why reads asks. refusal_is d why asks;
  refusal = λ v why is. refusal_keeps w v line why is;
  one_line = λ v a is. told_in_one_line w v line a is;
}

-- a run that is counted is a run
uncounted : (w v : Counted) (lines : List (List ℕ)) (answers : List Answer) → Run Counts w lines answers v → Run Answers w.world lines answers v.world
uncounted w v [] [] end = ap (λ u. u.world) end
uncounted w v (line ∷ lines) (a ∷ answers) (middle, first, rest) = (middle.world, (w.beside, first.0), uncounted middle v lines answers rest)
uncounted w v [] (a ∷ answers) r = absurd r
uncounted w v (line ∷ lines) [] r = absurd r

pub headline : IsHeadline
headline = record {
  lines = is_heard;
  counted = uncounted;
  runs = led;
  differences = are_the_difference;
  known = were_fresh;
  sessions = separate;
}
