-- What a way notes of one test, and what may change of outcomes meanwhile.
use Rattle.std.specs.Prelude.{◌≡◌, ℕ, Bool, true, false, List, [], ◌∷◌, ◌++◌, Some, slice_get}
use Rattle.memo_plan.specs.Heard.{Came}
use Rattle.memo_plan.specs.Plan.{TaskTyped, task_goes_on}
use Rattle.memo_plan.specs.declared.way.WayStep.{WayStep}
use Rattle.memo_plan.specs.declared.task.Entry.{Entry}
use Rattle.memo_plan.specs.declared.task.Item.{Item}
use Rattle.memo_plan.specs.declared.task.Item.TheVariants as item
use Rattle.memo_plan.specs.declared.task.TestTask.{TestTask}

-- a step has the number of the outcome that came of a test at a place, and says whether it goes on
pub record Tells (tells : ℕ → ℕ → Came → Type 0) (place : ℕ) (t : TestTask) (c : Came) (s : WayStep) : Type 0 where
  pub number : tells place s.number c
  pub goes_on : s.goes_on ≡ task_goes_on t c

-- the test of an entry, if it has one, can be evaluated and is known at the entry's place
pub record IsTested (has_test : ℕ → TestTask → Type 0) (place : ℕ) (i : Item) : Type 0 where
  pub typed : (t : TestTask) → i ≡ item.Test t → TaskTyped t
  pub known : (t : TestTask) → i ≡ item.Test t → has_test place t

-- so are those of all entries
abbrev pub AreTested : (ℕ → TestTask → Type 0) → List Entry → Type 0
AreTested has_test entries = (place : ℕ) (e : Entry) → slice_get entries place ≡ Some e → IsTested has_test place e.item

module _ {E C : Type 0} (constant : E → C) (tells : ℕ → ℕ → C → Type 0) where
  -- a way has one number more, which tells this of the test at a place; of what is no test it has none
  abbrev pub NotesOne : Bool → ℕ → E → C → List ℕ → List ℕ → Type 0
  NotesOne true place e c before after = (n : ℕ) × ((after ≡ before ++ n ∷ []) × tells place n c)
  NotesOne false place e c before after = (after ≡ before) × (c ≡ constant e)

module _ {S T W C : Type 0} (scene : S → W) (has_test : S → ℕ → T → Type 0) (tells : S → ℕ → ℕ → C → Type 0) (follows : S → S → Type 0) where
  -- outcomes are of the same request still, places have the tests that they had, numbers tell what they told, and what they followed from they follow from
  pub record Grows (before after : S) : Type 0 where
    pub same : scene after ≡ scene before
    pub tested : (place : ℕ) (t : T) → has_test before place t → has_test after place t
    pub told : (place n : ℕ) (c : C) → tells before place n c → tells after place n c
    pub followed : (first : S) → follows before first → follows after first
