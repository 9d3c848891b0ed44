-- The entries of parts of documents.
use Rattle.std.specs.Prelude.{ℕ, ◌+◌, ◌*◌, List, [], ◌∷◌, Option, length}
use Rattle.std.specs.List.{AllByRecursion, flat_map}
use Rattle.ent_policy.specs.Children.{as_child}
use Rattle.ent_policy.specs.declared.document.Child.{Child}
use Rattle.ent_policy.specs.declared.document.Child.TheFolds.{fold-PolicySet}
use Rattle.ent_policy.specs.declared.document.Policy.{Policy}
use Rattle.ent_policy.specs.declared.document.PolicySet.{PolicySet}
use Rattle.ent_policy.specs.declared.document.Rule.{Rule}
use Rattle.ent_policy.specs.declared.document.Target.{Target}
use Rattle.ent_policy.specs.declared.document.Tree.{Tree}
use Rattle.ent_policy.specs.declared.given.GivenExpressions.{GivenExpressions}
use Rattle.ent_policy.specs.declared.key.DocKey.{DocKey}
use Rattle.ent_policy.specs.declared.key.Reference.{Reference}
use Rattle.ent_request.specs.Looks.{Looks}
use Rattle.memo_plan.specs.Heard.{Came, Tests, child_came, found_came, node_came, policy_came, refer_came, set_came}
use Rattle.memo_plan.specs.Plan.{Fits, IsTyped, Scene, entry_came, goes_on, skip_of}
use Rattle.memo_plan.specs.Run.{IsSegment}
use Rattle.memo_plan.specs.declared.task.Entry.{Entry}
use Rattle.memo_plan.specs.declared.task.Item.{Item}
use Rattle.memo_plan.specs.declared.task.Item.TheVariants as item
use Rattle.memo_plan.specs.declared.task.TestTask.{TestTask}
use Rattle.memo_plan.specs.declared.task.TestTask.TheVariants as task
use Rattle.memo_plan.specs.declared.task.Within.{Within}

-- entries list this, whatever stands behind them, for as long as each reference names an equal document
abbrev pub Lists : List Entry → (Scene → List Came) → Type 0
Lists es f = IsSegment entry_came goes_on skip_of (λ w. Fits es w.looks) es f

-- and they can be evaluated, and each reference names such a document now
pub record AreEntries (looks : Looks) (f : Scene → List Came) (es : List Entry) : Type 0 where
  pub typed : AllByRecursion IsTyped es
  pub fits : Fits es looks
  pub lists : Lists es f

-- ---- the entries

abbrev pub entry : Item → ℕ → Entry
entry i skip = record { item = i; skip = skip }

-- of a test
abbrev pub test_entry : TestTask → ℕ → Entry
test_entry t skip = entry (item.Test t) skip

-- of a rule
abbrev pub rule_entries : Within → Rule → List Entry
rule_entries within rule = test_entry (task.RuleTarget rule) 2 ∷ (test_entry (task.Condition within rule) 1 ∷ (test_entry (task.Decision within rule) 0 ∷ []))

-- of an element that gives nothing itself, by those of what stands in it
abbrev pub element_entries : Target → List Entry → List Entry
element_entries x below = test_entry (task.Target x) (length (entry item.Given 0 ∷ below)) ∷ (entry item.Given 0 ∷ below)

-- of a reference, by those of the document that it names
abbrev pub named_entries : Reference → Option Tree → List Entry → List Entry
named_entries reference copy below = entry (item.Named (record { reference = reference; copy = copy })) 0 ∷ below

-- no obligations and no advice
abbrev pub no_given : GivenExpressions
no_given = record { obligations = []; advice = [] }

-- ---- what comes of tests, where a path leads from the root to what something stands in

abbrev pub policy_tests : List DocKey → Policy → Scene → List Came
policy_tests path policy w = policy_came w.looks w.request policy path

-- of a reference, where this many may be followed on the way down from here
abbrev pub reference_tests : ℕ → List DocKey → Reference → Scene → List Came
reference_tests hops path reference w = refer_came w.looks w.request hops reference path

-- of a child, where so many may be
abbrev pub child_tests : ℕ → List DocKey → Child → Scene → List Came
child_tests hops path child w = node_came w.looks w.request (refer_came w.looks w.request hops) child path

abbrev pub children_tests : ℕ → List DocKey → List Child → Scene → List Came
children_tests hops path children w = flat_map (λ child. child_tests hops path child w) children

abbrev pub set_tests : ℕ → List DocKey → PolicySet → Scene → List Came
set_tests hops path set w = fold-PolicySet Tests Tests (child_came w.looks w.request (refer_came w.looks w.request hops)) (set_came w.looks w.request) set path

abbrev pub tree_tests : ℕ → List DocKey → Tree → Scene → List Came
tree_tests hops path tree = child_tests hops path (as_child tree)

-- of the document that a reference names, if there is one
abbrev pub found_tests : ℕ → List DocKey → Option Tree → Scene → List Came
found_tests hops path found w = found_came (node_came w.looks w.request (refer_came w.looks w.request hops)) found path

-- ---- measures

-- what one reference more counts: more than the largest document does
abbrev pub worth_of_hop : ℕ
worth_of_hop = 8 * 31 + 9
