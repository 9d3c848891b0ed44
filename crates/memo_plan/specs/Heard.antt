-- What is heard of an answer: its value, its questions, each once, and whether something in it failed by itself. It is told by what is heard of its tests: targets, conditions, what rules decide under these, and the documents that references name.
use Rattle.std.specs.Prelude.{◌≡◌, ℕ, zero, suc, Bool, true, false, List, [], ◌∷◌, ◌++◌, if◌then◌else◌, Option, Some, None}
use Rattle.std.specs.List.{flat_map}
use Rattle.ent_policy.specs.declared.document.Policy.{Policy}
use Rattle.ent_policy.specs.declared.document.Rule.{Rule}
use Rattle.ent_policy.specs.declared.document.Tree.{Tree}
use Rattle.ent_policy.specs.declared.document.Child.{Child}
use Rattle.ent_policy.specs.declared.document.Child.TheFolds.{fold-Child}
use Rattle.ent_policy.specs.declared.document.Child.TheOpen.{Child-F, PolicySet-F}
use Rattle.ent_policy.specs.Children.{as_child}
use Rattle.ent_policy.specs.declared.expression.VariableDefinition.{VariableDefinition}
use Rattle.ent_policy.specs.declared.key.DocKey.{DocKey}
use Rattle.ent_policy.specs.declared.key.Reference.{Reference}
use Rattle.ent_request.specs.Causes.{are_any}
use Rattle.ent_request.specs.Looks.{Looks}
use Rattle.ent_request.specs.Note.{Note, causes_in, questions_in}
use Rattle.ent_request.specs.Part.{Part}
use Rattle.ent_request.specs.Questions.{asked_once}
use Rattle.ent_request.specs.declared.answer.Answer.{Answer}
use Rattle.ent_request.specs.declared.question.Question.{Question}
use Rattle.ent_request.specs.declared.request.Request.{Request}
use Rattle.ent_walk.specs.declared.evaluated.Truth.{Truth}
use Rattle.ent_walk.specs.declared.evaluated.Truth.TheVariants as truth
use Rattle.ent_walk.specs.declared.target.Targeted.{Targeted}
use Rattle.ent_walk.specs.Answer.{answer_part, most_hops}
use Rattle.ent_walk.specs.Given.{finished}
use Rattle.ent_walk.specs.Node.{policy_key, set_key}
use Rattle.ent_walk.specs.Rule.{condition_part, decided}
use Rattle.ent_walk.specs.Target.{is_match, is_no_match, target_part}

-- of notes: the questions, each once, and whether something failed
pub record Gist : Type 0 where
  pub questions : List Question
  pub failed : Bool

abbrev pub gist_of : List Note → Gist
gist_of notes = record { questions = asked_once [] (questions_in notes); failed = are_any (causes_in notes) }

-- of a part
pub record Heard (A : Type 0) : Type 0 where
  pub value : A
  pub gist : Gist

abbrev pub heard : {A : Type 0} → Part A → Heard A
heard p = record { value = p.value; gist = gist_of p.notes }

-- what is heard of a test
pub data Came : Type 0 where
  -- a target
  target : Heard Targeted → Came
  -- the condition of a rule
  condition : Heard Truth → Came
  -- a rule with a condition that is True, and what it gives itself
  decides : Heard Answer → Came
  -- what a policy or a set gives itself, by what its children come to
  gives : (Answer → Heard Answer) → Came
  -- the document that a reference names, if there is one
  named : Option Tree → Came

-- whether a condition is True
abbrev pub is_true : Truth → Bool
is_true truth.True = true
is_true _ = false

-- of the tests of a rule: its condition counts under a match alone, and what it gives itself under a condition that is True
abbrev pub rule_came : Heard Targeted → Heard Truth → Heard Answer → List Came
rule_came t c a = target t ∷ (if is_match t.value then condition c ∷ (if is_true c.value then decides a ∷ [] else []) else [])

-- a rule with a condition that is True, and what it gives itself
abbrev pub decides_part : Looks → Request → List VariableDefinition → List DocKey → Rule → Part Answer
decides_part looks request definitions path rule = finished looks request definitions rule.given (decided path rule truth.True)

-- of a rule of the policy at the end of a path, among the policy's definitions
abbrev pub came_of_rule : Looks → Request → List VariableDefinition → List DocKey → Rule → List Came
came_of_rule looks request definitions path rule =
    rule_came (heard (target_part looks request rule.target)) (heard (condition_part looks request definitions rule.condition))
    (heard (decides_part looks request definitions path rule))

-- of the tests of an element: where its target doesn't match, the others don't matter
abbrev pub element_came : Heard Targeted → (Answer → Heard Answer) → List Came → List Came
element_came t own children = target t ∷ (if is_no_match t.value then [] else gives own ∷ children)

-- of something, where a path leads from the root to what it stands in
abbrev pub Tests : Type 0
Tests = List DocKey → List Came

-- of a policy
abbrev pub policy_came : Looks → Request → Policy → Tests
policy_came looks request policy path =
    element_came (heard (target_part looks request policy.target)) (λ a. heard (finished looks request policy.variables policy.given a))
    (flat_map (came_of_rule looks request policy.variables (path ++ policy_key policy ∷ [])) policy.rules)

-- of one level of a child, where `refer` gives those of a reference, with a set already seen
abbrev pub child_came : Looks → Request → (Reference → Tests) → Child-F Tests Tests → Tests
child_came looks request refer (Child-F.Policy policy) = policy_came looks request policy
child_came looks request refer (Child-F.Set set) = set
child_came looks request refer (Child-F.Reference reference) = refer reference

-- of one level of a set, with its children already seen
abbrev pub set_came : Looks → Request → PolicySet-F Tests Tests → Tests
set_came looks request set path =
    element_came (heard (target_part looks request set.target)) (λ a. heard (finished looks request [] set.given a))
    (flat_map (λ child. child (path ++ set_key set.id set.version ∷ [])) set.children)

-- of a child
abbrev pub node_came : Looks → Request → (Reference → Tests) → Child → Tests
node_came looks request refer = fold-Child Tests Tests (child_came looks request refer) (set_came looks request)

-- of the document that a reference names, if there is one
abbrev pub found_came : (Child → Tests) → Option Tree → Tests
found_came node None path = []
found_came node (Some t) path = node (as_child t) path

-- of a reference, where this many may be followed on the way down from here
abbrev pub refer_came : Looks → Request → ℕ → Reference → Tests
refer_came looks request zero reference path = []
refer_came looks request (suc hops) reference path = named (looks.document reference) ∷ found_came (node_came looks request (refer_came looks request hops)) (looks.document reference) path

-- of an answer
abbrev pub root_came : Looks → Request → Option Reference → List Came
root_came looks request None = []
root_came looks request (Some reference) = refer_came looks request (suc most_hops) reference []

abbrev pub came : Looks → Request → List Came
came looks request = root_came looks request looks.root

-- where the root is the same, and the same is heard of the tests, so it is of the answer
abbrev pub EqualTestsAreHeardAlike : Type 0
EqualTestsAreHeardAlike = (s t : Looks) (q r : Request) → t.root ≡ s.root → came t r ≡ came s q → heard (answer_part t r) ≡ heard (answer_part s q)
