-- The tests of documents in a list, and what comes of them.
use Rattle.std.specs.Prelude.{◌≡◌, ◌≤◌, ℕ, Bool, true, false, List, Option, Some, length, if◌then◌else◌}
use Rattle.std.specs.List.{AllByRecursion}
use Rattle.ent_policy.specs.Typing.{condition_is_typed, given_is_typed, target_is_typed}
use Rattle.ent_request.specs.Looks.{Looks}
use Rattle.ent_request.specs.Part.{without_look}
use Rattle.ent_request.specs.declared.answer.Answer.{Answer}
use Rattle.ent_request.specs.declared.request.Request.{Request}
use Rattle.ent_walk.specs.Answer.{answer_part}
use Rattle.memo_plan.specs.Heard.{Came, Heard, came, condition, decides, decides_part, gives, heard, is_true, named, target}
use Rattle.ent_walk.specs.Rule.{condition_part}
use Rattle.ent_walk.specs.Target.{is_match, is_no_match, target_part}
use Rattle.memo_plan.specs.Run.{CameBy, run}
use Rattle.memo_plan.specs.declared.task.Entry.{Entry}
use Rattle.memo_plan.specs.declared.task.Item.{Item}
use Rattle.memo_plan.specs.declared.task.Item.TheVariants as item
use Rattle.memo_plan.specs.declared.task.TestTask.{TestTask}
use Rattle.memo_plan.specs.declared.task.TestTask.TheVariants as task

-- what is held, and a request
pub record Scene : Type 0 where
  pub looks : Looks
  pub request : Request

-- what an element comes to that gives nothing itself: what its children come to
abbrev pub nothing_given : Answer → Heard Answer
nothing_given a = heard (without_look a)

-- what comes of a test
abbrev pub task_came : TestTask → Scene → Came
task_came (task.Target x) w = target (heard (target_part w.looks w.request x))
task_came (task.RuleTarget rule) w = target (heard (target_part w.looks w.request rule.target))
task_came (task.Condition within rule) w = condition (heard (condition_part w.looks w.request within.definitions rule.condition))
task_came (task.Decision within rule) w = decides (heard (decides_part w.looks w.request within.definitions within.path rule))

-- what stands below the target of an element counts unless this doesn't match
abbrev pub below_target : Came → Bool
below_target (target t) = if is_no_match t.value then false else true
below_target _ = true

-- below the target of a rule, where this matches
abbrev pub below_rule : Came → Bool
below_rule (target t) = is_match t.value
below_rule _ = true

-- below a condition, where this is True
abbrev pub below_condition : Came → Bool
below_condition (condition c) = is_true c.value
below_condition _ = true

-- whether what stands below a test counts, by what comes of it
abbrev pub task_goes_on : TestTask → Came → Bool
task_goes_on (task.Target x) c = below_target c
task_goes_on (task.RuleTarget rule) c = below_rule c
task_goes_on (task.Condition within rule) c = below_condition c
task_goes_on (task.Decision within rule) c = true

-- a test can be evaluated: each expression of it has its type
abbrev pub TaskTyped : TestTask → Type 0
TaskTyped (task.Target x) = target_is_typed x ≡ true
TaskTyped (task.RuleTarget rule) = target_is_typed rule.target ≡ true
TaskTyped (task.Condition within rule) = condition_is_typed within.definitions rule.condition ≡ true
TaskTyped (task.Decision within rule) = given_is_typed within.definitions rule.given ≡ true

-- whether an entry has a test; else the same comes of it for all requests, whatever values are held
abbrev pub item_is_test : Item → Bool
item_is_test (item.Test t) = true
item_is_test _ = false

-- what comes of one without
abbrev pub item_constant : Item → Came
item_constant (item.Named n) = named n.copy
item_constant _ = gives nothing_given

abbrev pub item_came : Item → Scene → Came
item_came (item.Test t) w = task_came t w
item_came i w = item_constant i

abbrev pub item_goes_on : Item → Came → Bool
item_goes_on (item.Test t) c = task_goes_on t c
item_goes_on _ c = true

abbrev pub ItemTyped : Item → Type 0
ItemTyped (item.Test t) = TaskTyped t
ItemTyped _ = Unit {0}

-- a reference still names an equal document
abbrev pub ItemFits : Looks → Item → Type 0
ItemFits looks (item.Named n) = looks.document n.reference ≡ n.copy
ItemFits looks _ = Unit {0}

-- the same of entries
abbrev pub entry_came : Entry → Scene → Came
entry_came e w = item_came e.item w

abbrev pub goes_on : Entry → Came → Bool
goes_on e c = item_goes_on e.item c

abbrev pub is_test : Entry → Bool
is_test e = item_is_test e.item

abbrev pub constant : Entry → Came
constant e = item_constant e.item

abbrev pub skip_of : Entry → ℕ
skip_of e = e.skip

abbrev pub IsTyped : Entry → Type 0
IsTyped e = ItemTyped e.item

-- each reference names an equal document
abbrev pub Fits : List Entry → Looks → Type 0
Fits entries looks = AllByRecursion (λ (e : Entry). ItemFits looks e.item) entries

-- a plan has so many entries at most
abbrev pub most_entries : ℕ
most_entries = 2048

-- entries list what comes of the tests of answers, for as long as the root is the same and each reference names an equal document, whatever else is held. So they do now
pub record IsPlan (looks : Looks) (entries : List Entry) : Type 0 where
  pub few : length entries ≤ most_entries
  pub typed : AllByRecursion IsTyped entries
  pub fits : Fits entries looks
  pub lists : (w : Scene) → w.looks.root ≡ looks.root → Fits entries w.looks → run entry_came goes_on skip_of 0 entries w ≡ came w.looks w.request

-- a number of the test at a place tells its outcome
abbrev pub TellsOutcome : (ℕ → ℕ → Option Came) → ℕ → ℕ → Came → Type 0
TellsOutcome outcomes place n c = outcomes place n ≡ Some c

-- where one way of outcomes tells what comes of the tests of two requests, over what is held for each, the same is heard of their answers
abbrev pub EqualWaysAreHeardAlike : Type 0
EqualWaysAreHeardAlike = (looks : Looks) (entries : List Entry) (outcomes : ℕ → ℕ → Option Came) (way : List ℕ) (s t : Scene)
    → IsPlan looks entries → s.looks.root ≡ looks.root → t.looks.root ≡ looks.root → Fits entries s.looks → Fits entries t.looks
    → CameBy is_test constant (TellsOutcome outcomes) goes_on skip_of 0 0 entries way (run entry_came goes_on skip_of 0 entries s)
    → CameBy is_test constant (TellsOutcome outcomes) goes_on skip_of 0 0 entries way (run entry_came goes_on skip_of 0 entries t)
    → heard (answer_part t.looks t.request) ≡ heard (answer_part s.looks s.request)
