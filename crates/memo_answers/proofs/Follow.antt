-- How the outcomes of the tests of entries follow from what they were.
use Rattle.std.proofs.Common.{◌≡◌, ℕ, ◌<◌, List, Option, Result, None, Some, length, slice_get, refl, sym, ap, subst, ◌∙◌}
use Rattle.std.specs.List.{AllByRecursion}
use Rattle.std.specs.Prelude.{IfSome}
use Rattle.std.proofs.lemmas.Option.{slice_get_within}
use Rattle.ent_request.proofs.Numbering.{all_at}
use Rattle.ent_request.specs.Listed.{listed}
use Rattle.ent_request.specs.Looks.{Looks}
use Rattle.ent_request.specs.declared.question.Question.{Question}
use Rattle.ent_request.specs.declared.readers.NamePlace.TheVariants.{Person, Action, Resource}
use Rattle.ent_request.specs.declared.request.Request.{Request}
use Rattle.memo_plan.specs.Heard.{Came}
use Rattle.memo_bags.specs.Findings.{AreFindings}
use Rattle.memo_bags.specs.declared.findings.Findings.{Findings}
use Rattle.memo_bags.specs.proofs_only.Ready.{Begins, IsAt}
use Rattle.memo_bags.proofs.Growing.{some_same, starts_itself, starts_then}
use Rattle.memo_bags.proofs.Learning.{rows_more}
use Rattle.memo_plan.specs.Plan.{IsTyped, ItemTyped, Scene, task_came}
use Rattle.memo_plan.specs.Signed.{AreTested, Grows}
use Rattle.memo_plan.specs.declared.task.TestTask.{TestTask}
use Rattle.memo_tests.specs.Tested.{ComesTo, IsTest, came_of}
use Rattle.memo_tests.specs.declared.outcome.TestOutcome.{TestOutcome}
use Rattle.memo_tests.specs.declared.test.Test.{Test}
use Rattle.memo_answers.specs.Known.{AreKnown, StandsThere, test_of}
use Rattle.memo_answers.specs.proofs_only.Learning.{LearnsAt}
use Rattle.memo_answers.specs.proofs_only.Signing.{Follows, HasSame, HasTest, IsSigning, TellsAt, request_of, scene_of}
use Rattle.memo_answers.specs.declared.signing.Signing.{Signing}
use Rattle.memo_answers.specs.declared.tests.EntryTests.{EntryTests}
use Rattle.memo_answers.proofs.Kept.{learns_keeps, learns_tests, tells_grow, tells_still, tests_grow}

module _ {L : Type 0} where
  pub same_itself : (s : Signing L) → HasSame s s
  same_itself s = record { held = refl; entries = refl; person = refl; action = refl; resource = refl }

  pub same_then : (s t u : Signing L) → HasSame s t → HasSame t u → HasSame s u
  same_then s t u first second = record {
    held = second.held ∙ first.held;
    entries = second.entries ∙ first.entries;
    person = second.person ∙ first.person;
    action = second.action ∙ first.action;
    resource = second.resource ∙ first.resource;
  }

  pub same_request : (s t : Signing L) → HasSame s t → request_of t ≡ request_of s
  same_request s t same =
      ap (λ p. listed p t.action.now t.resource.now) same.person ∙ ap (λ a. listed s.person.now a t.resource.now) same.action
      ∙ ap (λ r. listed s.person.now s.action.now r) same.resource

abbrev at_scene : Looks → Request → Scene
at_scene looks request = record { looks = looks; request = request }

-- all but questions is as before
pub record HasRest {L : Type 0} (before after : Signing L) : Type 0 where
  pub same : HasSame before after
  pub request : after.request ≡ before.request
  pub findings : after.findings ≡ before.findings
  pub tests : after.tests.list ≡ before.tests.list

module _ {L : Type 0} (looks : L → Looks) where
  pub same_scene : (s t : Signing L) → HasSame s t → scene_of looks t ≡ scene_of looks s
  same_scene s t same = ap (λ l. at_scene (looks l) (request_of t)) same.held ∙ ap (at_scene (looks s.held.now)) (same_request s t same)

  pub follows_itself : (s : Signing L) → Follows looks s s
  follows_itself s = record {
    same = same_itself s;
    questions = starts_itself s.questions s.questions refl;
    bags = starts_itself s.findings.bags s.findings.bags refl;
    outcomes = λ place x at. (x, (at, starts_itself x.outcomes.items x.outcomes.items refl));
    signing = λ is. is;
  }

  pub follows_then : (s t u : Signing L) → Follows looks s t → Follows looks t u → Follows looks s u
  follows_then s t u first second = record {
    same = same_then s t u first.same second.same;
    questions = starts_then s.questions t.questions u.questions first.questions second.questions;
    bags = starts_then s.findings.bags t.findings.bags u.findings.bags first.bags second.bags;
    outcomes = λ place x at.
        let mid = first.outcomes place x at in
        let end = second.outcomes place mid.0 mid.1.0 in
        (end.0, (end.1.0, starts_then x.outcomes.items mid.0.outcomes.items end.0.outcomes.items mid.1.1 end.1.1));
    signing = λ is. second.signing (first.signing is);
  }

  pub follows_tells : (s t : Signing L) → Follows looks s t → (place n : ℕ) (c : Came) → TellsAt s place n c → TellsAt t place n c
  follows_tells s t follows place n c tells =
      tells_still t.questions s.tests.list.items t.tests.list.items follows.outcomes place n c
      (tells_grow (looks s.held.now) s.questions t.questions s.findings.bags t.findings.bags follows.questions follows.bags s.tests.list.items place n c tells)

  -- what follows from outcomes has grown from them
  pub follows_grows : (s t : Signing L) → Follows looks s t → Grows (scene_of looks) (HasTest looks) TellsAt (λ after before. Follows looks before after) s t
  follows_grows s t follows = record {
    same = same_scene s t follows.same;
    tested = λ place x has. (follows.signing has.0, subst (λ es. StandsThere es place x) (sym follows.same.entries) has.1);
    told = follows_tells s t follows;
    followed = λ first is. follows_then first s t is follows;
  }

  -- a test stands at its place still
  pub has_still : (s t : Signing L) (place : ℕ) (x : TestTask) → Follows looks s t → HasTest looks s place x → HasTest looks t place x
  has_still s t place x follows has = (follows.signing has.0, subst (λ es. StandsThere es place x) (sym follows.same.entries) has.1)

  -- ---- one step after the other

  pub follows_request : (s : Signing L) (r : Option Request) → IfSome r (λ q. q ≡ request_of s) → Follows looks s (record s { request = r })
  follows_request s r is = record {
    same = record { held = refl; entries = refl; person = refl; action = refl; resource = refl };
    questions = starts_itself s.questions s.questions refl;
    bags = starts_itself s.findings.bags s.findings.bags refl;
    outcomes = λ place x at. (x, (at, starts_itself x.outcomes.items x.outcomes.items refl));
    signing = λ before. record { known = before.known; request = is };
  }

  -- what is found for names
  pub follows_found : (s : Signing L) (findings : Findings) → Begins findings.bags s.findings.bags → AreFindings (looks s.held.now) s.questions findings
      → IsAt findings.people s.person.now → IsAt findings.actions s.action.now → IsAt findings.resources s.resource.now → Follows looks s (record s { findings = findings })
  follows_found s findings begins are person action resource = record {
    same = record { held = refl; entries = refl; person = refl; action = refl; resource = refl };
    questions = starts_itself s.questions s.questions refl;
    bags = begins;
    outcomes = λ place x at. (x, (at, starts_itself x.outcomes.items x.outcomes.items refl));
    signing = λ before. record {
      known = record {
        findings = are;
        person = person;
        action = action;
        resource = resource;
        tests = tests_grow (looks s.held.now) s.questions s.questions s.findings.bags findings.bags (starts_itself s.questions s.questions refl) begins s.entries.now s.tests.list.items before.known.tests;
      };
      request = before.request;
    };
  }

  findings_more : (at : Looks) (questions more : List Question) (findings : Findings) → Begins more questions → AreFindings at questions findings → AreFindings at more findings
  findings_more at questions more findings begins are =
      let bags = findings.bags in
      let same = starts_itself bags bags refl in
      record {
        distinct = are.distinct;
        people = rows_more at questions more bags bags begins same Person findings.people are.people;
        actions = rows_more at questions more bags bags begins same Action findings.actions are.actions;
        resources = rows_more at questions more bags bags begins same Resource findings.resources are.resources;
      }

  -- questions that get numbers
  pub follows_asked : (s t : Signing L) → HasRest s t → Begins t.questions s.questions → Follows looks s t
  follows_asked s t rest begins = record {
    same = rest.same;
    questions = begins;
    bags = starts_itself s.findings.bags t.findings.bags (ap (λ (f : Findings). f.bags) rest.findings);
    outcomes = λ place x at. (x, (ap (λ xs. slice_get xs.items place) rest.tests ∙ at, starts_itself x.outcomes.items x.outcomes.items refl));
    signing = λ before.
        let grown = tests_grow (looks s.held.now) s.questions t.questions s.findings.bags s.findings.bags begins (starts_itself s.findings.bags s.findings.bags refl) s.entries.now s.tests.list.items before.known.tests in
        let found = findings_more (looks s.held.now) s.questions t.questions s.findings begins before.known.findings in
        record {
          known = rw (rest.same.held, rest.same.entries, rest.same.person, rest.same.action, rest.same.resource, rest.findings, rest.tests) (record {
            findings = found;
            person = before.known.person;
            action = before.known.action;
            resource = before.known.resource;
            tests = grown;
          });
          request = subst (λ q. IfSome t.request (λ r. r ≡ q)) (sym (same_request s t rest.same)) (subst (λ o. IfSome o (λ r. r ≡ request_of s)) (sym rest.request) before.request);
        };
  }

  -- a test that learns
  pub follows_learnt : {E : Type 0} (s : Signing L) (findings : Findings) (tests : EntryTests) (o : TestOutcome) (place : ℕ) (t : TestTask) (r : Result ℕ E) → IsSigning looks s → StandsThere s.entries.now place t
      → Begins findings.bags s.findings.bags → AreFindings (looks s.held.now) s.questions findings → IsAt findings.people s.person.now → IsAt findings.actions s.action.now → IsAt findings.resources s.resource.now
      → LearnsAt (looks s.held.now) s.questions s.findings.bags findings.bags (request_of s) o s.tests.list.items tests.list.items place r
      → task_came t (scene_of looks s) ≡ came_of s.questions o → Follows looks s (record s { findings = findings; tests = tests })
  follows_learnt s findings tests o place t r is stands begins are person action resource learns came = record {
    same = record { held = refl; entries = refl; person = refl; action = refl; resource = refl };
    questions = starts_itself s.questions s.questions refl;
    bags = begins;
    outcomes = learns_keeps (looks s.held.now) s.questions s.findings.bags findings.bags (request_of s) o s.tests.list.items tests.list.items place r learns;
    signing = λ before. record {
      known = record {
        findings = are;
        person = person;
        action = action;
        resource = resource;
        tests = learns_tests (looks s.held.now) s.questions s.findings.bags findings.bags (request_of s) o s.tests.list.items tests.list.items place r learns s.entries.now t begins stands came before.known.tests;
      };
      request = before.request;
    };
  }

  -- ---- the entries' tests

  -- each test is known at its place, and can be evaluated
  pub are_tested : (s : Signing L) → IsSigning looks s → AllByRecursion IsTyped s.entries.now → AreTested (HasTest looks s) s.entries.now
  are_tested s is typed place e at = record {
    typed = λ t same. subst ItemTyped same (all_at IsTyped s.entries.now place e typed at);
    known = λ t same. (is, (e, (at, same)));
  }

  -- what is known at first, and at the end
  pub signing_begins : (s : Signing L) (questions : List Question) (findings : Findings) (tests : EntryTests) → s.questions ≡ questions → s.findings ≡ findings → s.tests ≡ tests → s.request ≡ None
      → AreKnown (looks s.held.now) s.entries.now s.person.now s.action.now s.resource.now questions findings tests.list.items → IsSigning looks s
  signing_begins s questions findings tests those found told none known = record {
    known = rw (those, found, told) known;
    request = subst (λ o. IfSome o (λ r. r ≡ request_of s)) (sym none) tt;
  }

  pub signing_ends : (s t : Signing L) → Follows looks s t → IsSigning looks s → AreKnown (looks s.held.now) s.entries.now s.person.now s.action.now s.resource.now t.questions t.findings t.tests.list.items
  signing_ends s t follows is =
      let same = follows.same in
      rw (sym same.held, sym same.entries, sym same.person, sym same.action, sym same.resource) (follows.signing is).known

  -- what is known of a test at its place
  pub known_there : (s : Signing L) (place : ℕ) (t : TestTask) (x : Test) → HasTest looks s place t → slice_get s.tests.list.items place ≡ Some x → IsTest (looks s.held.now) s.questions s.findings.bags (test_of t) x
  known_there s place t x has at =
      let known = has.0.known.tests place t has.1 in
      subst (λ y. IsTest (looks s.held.now) s.questions s.findings.bags (test_of t) y) (some_same known.0 x (sym known.1.0 ∙ at)) known.1.1

  pub is_there : (s : Signing L) (place : ℕ) (t : TestTask) → HasTest looks s place t → place < length s.tests.list.items
  is_there s place t has = let known = has.0.known.tests place t has.1 in slice_get_within s.tests.list.items place known.0 known.1.0

  -- a number that a request comes to tells what came of the test
  pub tells_known : (s : Signing L) (place : ℕ) (t : TestTask) (x : Test) (o : Option ℕ) → HasTest looks s place t → slice_get s.tests.list.items place ≡ Some x
      → IfSome o (ComesTo (looks s.held.now) s.questions s.findings.bags (request_of s) x) → IfSome o (λ n. TellsAt s place n (task_came t (scene_of looks s)))
  tells_known s place t x None has at comes = tt
  tells_known s place t x (Some n) has at comes =
      let came = comes (test_of t) (known_there s place t x has at) in
      (x, (at, came))
