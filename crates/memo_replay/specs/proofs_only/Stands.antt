-- Where outcomes are read, and parts that are joined of them: words of the code's own contracts.
use Rattle.std.specs.Prelude.{◌≡◌, ◌++◌, ◌+◌, [], ◌∷◌, ℕ, List, drop, if◌then◌else◌}
use Rattle.std.specs.List.{IsDistinct}
use Rattle.ent_combine.specs.declared.combiner.Progress.{Progress}
use Rattle.ent_policy.specs.declared.document.Rule.{Rule}
use Rattle.ent_policy.specs.declared.expression.VariableDefinition.{VariableDefinition}
use Rattle.ent_policy.specs.declared.key.DocKey.{DocKey}
use Rattle.ent_request.specs.Looks.{Looks}
use Rattle.ent_request.specs.Part.{Part}
use Rattle.ent_request.specs.Questions.{AreNumbers, same_question}
use Rattle.ent_request.specs.declared.answer.Answer.{Answer}
use Rattle.ent_request.specs.declared.question.Question.{Question}
use Rattle.ent_request.specs.declared.request.Request.{Request}
use Rattle.memo_bags.specs.proofs_only.Ready.{request_of}
use Rattle.ent_walk.specs.Given.{finished}
use Rattle.ent_walk.specs.Rule.{condition_part, decided}
use Rattle.ent_walk.specs.declared.gather.Gathering.{Gathering}
use Rattle.ent_walk.specs.proofs_only.Gathered.{Gathers, Tells}
use Rattle.memo_plan.specs.Heard.{Came, Gist, Heard, condition, decides, decides_part, gist_of, heard, is_true}
use Rattle.memo_plan.specs.Plan.{Scene, constant, goes_on, is_test, skip_of}
use Rattle.memo_plan.specs.Run.{CameBy}
use Rattle.memo_tests.specs.Tested.{came_of}
use Rattle.memo_answers.specs.Known.{TellsIn}
use Rattle.memo_replay.specs.declared.over.Next.{Next}
use Rattle.memo_replay.specs.declared.over.Over.{Over}
use Rattle.memo_replay.specs.declared.state.JoinState.{JoinState}
use Rattle.memo_replay.specs.proofs_only.Heard.{HearsMore, joined}

module _ {L : Type 0} (over : Over L) where
  -- the questions that have a number
  abbrev pub questions_of : List Question
  questions_of = over.scene.now.questions.now

  -- from a place of entries on, and a place of the way, this comes of the tests
  pub record StandsFrom (place at : ℕ) (cs : List Came) : Type 0 where
    pub distinct : IsDistinct same_question questions_of
    pub came : CameBy is_test constant (TellsIn questions_of over.tests.now) goes_on skip_of place 0 (drop place over.entries.now) (drop at over.way.now) cs

  -- so it does from where a state stands
  abbrev pub Stands : JoinState → List Came → Type 0
  Stands s cs = StandsFrom s.place s.at cs

  -- an outcome tells what comes first, and behind it the rest comes of the tests
  pub record IsNext (place at : ℕ) (c : Came) (cs : List Came) (n : Next) : Type 0 where
    pub came : c ≡ came_of questions_of n.outcome.now
    pub within : AreNumbers questions_of n.outcome.now.asked
    pub rest : StandsFrom (place + 1 + n.passed) (at + 1) cs

  -- this was heard more, and then the rest comes of the tests
  abbrev pub Goes : JoinState → JoinState → Gist → List Came → Type 0
  Goes before after g cs = HearsMore questions_of g before after × Stands after cs

  -- where these come first, a part is joined of them, and its value is this
  abbrev pub Joins : List Came → Part Answer → JoinState → JoinState → Answer → Type 0
  Joins tests part before after a = (cs : List Came) → Stands before (tests ++ cs) → (a ≡ part.value) × Goes before after (gist_of part.notes) cs

  -- where these come first, they are passed
  abbrev pub Passes : List Came → JoinState → JoinState → Type 0
  Passes tests before after = (cs : List Came) → Stands before (tests ++ cs) → Stands after cs

  -- where these come first, what is heard is joined of them, and gathered
  abbrev pub TakesPart : List Came → Heard Answer → JoinState → JoinState → Gathering → Gathering → Progress → Type 0
  TakesPart tests h before after old new p = (cs : List Came) → Stands before (tests ++ cs)
      → Gathers old new h.value × (Tells old h.value p × Goes before after h.gist cs)

-- what is held, and the request
abbrev pub looks_in : {L : Type 0} → (L → Looks) → Over L → Looks
looks_in looks over = looks over.scene.now.held.now

abbrev pub request_in : {L : Type 0} → Over L → Request
request_in over = request_of over.scene.now

abbrev pub scene_in : {L : Type 0} → (L → Looks) → Over L → Scene
scene_in looks over = record { looks = looks_in looks over; request = request_in over }

-- what comes of a rule behind a target that matches
abbrev pub matched_came : Looks → Request → List VariableDefinition → List DocKey → Rule → List Came
matched_came looks request definitions here rule =
    condition (heard (condition_part looks request definitions rule.condition))
    ∷ (if is_true (condition_part looks request definitions rule.condition).value then decides (heard (decides_part looks request definitions here rule)) ∷ [] else [])

-- what is heard of it there
abbrev pub heard_matched : Looks → Request → List VariableDefinition → List DocKey → Rule → Heard Answer
heard_matched looks request definitions here rule =
    let c : Heard _ = heard (condition_part looks request definitions rule.condition) in
    let a : Heard Answer = heard (finished looks request definitions rule.given (decided here rule c.value)) in
    record { value = a.value; gist = joined c.gist a.gist }
