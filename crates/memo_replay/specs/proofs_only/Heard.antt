-- What was heard so far: words of the code's own contracts.
use Rattle.std.specs.Prelude.{◌≡◌, ◌||◌, List, [], true}
use Rattle.ent_request.specs.Questions.{AreNumbers, asked_once, at_numbers}
use Rattle.ent_request.specs.declared.question.Question.{Question}
use Rattle.memo_plan.specs.Heard.{Gist}
use Rattle.memo_tests.specs.declared.outcome.TestOutcome.{TestOutcome}
use Rattle.memo_replay.specs.declared.state.JoinState.{JoinState}

-- what was heard so far, over the questions that have a number
abbrev pub gist_in : List Question → JoinState → Gist
gist_in questions s = record { questions = at_numbers questions s.asked; failed = s.failed }

-- what is heard of an outcome
abbrev pub gist_by : List Question → TestOutcome → Gist
gist_by questions o = record { questions = at_numbers questions o.asked; failed = o.failed }

-- what is heard where something fails, and nothing is asked
abbrev pub failing : Gist
failing = record { questions = []; failed = true }

-- what is heard of two, one behind the other
abbrev pub joined : Gist → Gist → Gist
joined g h = record { questions = asked_once g.questions h.questions; failed = g.failed || h.failed }

-- this was heard more
abbrev pub HearsMore : List Question → Gist → JoinState → JoinState → Type 0
HearsMore questions g before after = AreNumbers questions before.asked
    → AreNumbers questions after.asked × (gist_in questions after ≡ joined (gist_in questions before) g)

-- nothing was
abbrev pub HearsNothing : JoinState → JoinState → Type 0
HearsNothing before after = (after.asked ≡ before.asked) × (after.failed ≡ before.failed)

-- the next outcome is still the same
abbrev pub StaysThere : JoinState → JoinState → Type 0
StaysThere before after = (after.place ≡ before.place) × (after.at ≡ before.at)
