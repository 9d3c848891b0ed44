-- Outcomes of the tests of entries, for a listed request: words of the code's own contracts.
use Rattle.std.specs.Prelude.{◌≡◌, ℕ, Some, IfSome, slice_get}
use Rattle.ent_request.specs.Listed.{listed}
use Rattle.ent_request.specs.Looks.{Looks}
use Rattle.ent_request.specs.declared.request.Request.{Request}
use Rattle.memo_plan.specs.Heard.{Came}
use Rattle.memo_bags.specs.proofs_only.Ready.{Begins}
use Rattle.memo_plan.specs.Plan.{Scene, task_came}
use Rattle.memo_plan.specs.declared.task.TestTask.{TestTask}
use Rattle.memo_tests.specs.Tested.{came_of}
use Rattle.memo_tests.specs.declared.outcome.TestOutcome.{TestOutcome}
use Rattle.memo_tests.specs.declared.test.Test.{Test}
use Rattle.memo_answers.specs.Known.{AreKnown, StandsThere, TellsIn}
use Rattle.memo_answers.specs.declared.signing.Signing.{Signing}

-- the request
abbrev pub request_of : {L : Type 0} → Signing L → Request
request_of s = listed s.person.now s.action.now s.resource.now

-- what is held, and the request
abbrev pub scene_of : {L : Type 0} → (L → Looks) → Signing L → Scene
scene_of looks s = record { looks = looks s.held.now; request = request_of s }

-- what is known is known of the tests of the entries, and the request is that of the names, if it is made
pub record IsSigning {L : Type 0} (looks : L → Looks) (s : Signing L) : Type 0 where
  pub known : AreKnown (looks s.held.now) s.entries.now s.person.now s.action.now s.resource.now s.questions s.findings s.tests.list.items
  pub request : IfSome s.request (λ r. r ≡ request_of s)

-- this test stands at a place, and it is so
abbrev pub HasTest : {L : Type 0} → (L → Looks) → Signing L → ℕ → TestTask → Type 0
HasTest looks s place t = IsSigning looks s × StandsThere s.entries.now place t

-- an outcome is what came of the test that stands at a place
abbrev pub CameThere : {L : Type 0} → (L → Looks) → Signing L → ℕ → TestOutcome → Type 0
CameThere looks s place o = (t : TestTask) × (HasTest looks s place t × (task_came t (scene_of looks s) ≡ came_of s.questions o))

-- the outcome of that number of the test at a place is this
abbrev pub TellsAt : {L : Type 0} → Signing L → ℕ → ℕ → Came → Type 0
TellsAt s place n c = TellsIn s.questions s.tests.list.items place n c

-- the same is held for the same request
pub record HasSame {L : Type 0} (before after : Signing L) : Type 0 where
  pub held : after.held.now ≡ before.held.now
  pub entries : after.entries.now ≡ before.entries.now
  pub person : after.person.now ≡ before.person.now
  pub action : after.action.now ≡ before.action.now
  pub resource : after.resource.now ≡ before.resource.now

-- the same is held for the same request, questions, bags and outcomes keep their numbers, and what is known stays so
pub record Follows {L : Type 0} (looks : L → Looks) (before after : Signing L) : Type 0 where
  pub same : HasSame before after
  pub questions : Begins after.questions before.questions
  pub bags : Begins after.findings.bags before.findings.bags
  pub outcomes : (place : ℕ) (x : Test) → slice_get before.tests.list.items place ≡ Some x
      → (y : Test) × ((slice_get after.tests.list.items place ≡ Some y) × Begins y.outcomes.items x.outcomes.items)
  pub signing : IsSigning looks before → IsSigning looks after
