-- What tests tell as they learn.
use Rattle.std.proofs.Common.{◌≡◌, inl, inr, ℕ, List, [], ◌∷◌, Some, None, slice_get, refl, sym, ap, subst, ◌∙◌}
use Rattle.std.specs.Prelude.{◌⊎◌, Option}
use Rattle.std.specs.List.{AllByRecursion}
use Rattle.memo_trie.specs.Tree.{Ends, Leads, LeadsAsBefore, key_at, leaf_at}
use Rattle.ent_values.specs.Bags.{Contents}
use Rattle.ent_request.specs.Listed.{listed}
use Rattle.ent_request.specs.Looks.{Looks}
use Rattle.ent_request.specs.Questions.{AreNumbers, at_numbers}
use Rattle.ent_request.specs.declared.question.Question.{Question}
use Rattle.ent_request.specs.declared.request.Request.{Request}
use Rattle.ent_walk.specs.Law.{FindsSame}
use Rattle.memo_plan.specs.Heard.{Came}
use Rattle.memo_bags.specs.declared.finding.Finding.{Finding}
use Rattle.memo_bags.specs.Findings.{IsFinding}
use Rattle.memo_bags.specs.Found.{IsAtTime, IsAttribute}
use Rattle.memo_bags.specs.Ways.{AsksAbout, Nodes, Way, way_of}
use Rattle.memo_bags.specs.proofs_only.Led.{TellsEnd}
use Rattle.memo_bags.specs.proofs_only.Ready.{Begins, TellsAttributes}
use Rattle.memo_bags.proofs.Growing.{starts_get, starts_itself}
use Rattle.memo_bags.proofs.Learning.{about_all, about_more, numbers_more, turns_all, turns_more, way_back, way_finds}
use Rattle.memo_tests.specs.declared.outcome.TestOutcome.{TestOutcome}
use Rattle.memo_plan.specs.CameBy.{came_by}
use Rattle.memo_plan.specs.declared.tested.Tested.{Tested}
use Rattle.memo_plan.specs.declared.tested.Tested.TheVariants as tested
use Rattle.memo_tests.specs.declared.test.Test.{Test}
use Rattle.memo_tests.specs.Tested.{ComesTo, IsTest, Learns, Rests, Tells, asked_by, came_of}
use Rattle.memo_tests.specs.proofs_only.Leading.{LeadsTo}

-- ---- tests

-- without outcomes and places
pub test_none : (at : Looks) (questions : List Question) (bags : List Contents) (test : Looks → Request → Came) (x : Test) → x.tree.nodes.items ≡ [] → IsTest at questions bags test x
test_none at questions bags test x nothing = record {
  asks = λ n k is. absurd (cc (is, ap (λ nodes. key_at nodes n) nothing));
  told = λ way n led. absurd (cc (led.1.0, ap (λ nodes. leaf_at nodes led.0) nothing));
}

-- a test stays so as questions and bags get numbers
module _ (at : Looks) (questions more : List Question) (bags bigger : List Contents) (first : Begins more questions) (second : Begins bigger bags) (test : Looks → Request → Came) where
  tells_more : (way : Way) (o : TestOutcome) → Tells at questions bags test way o → Tells at more bigger test way o
  tells_more way o tells =
      let numbers = numbers_more at questions more bags bigger first second o.asked tells.within in
      record {
        turns = turns_more at questions more bags bigger first second way tells.turns;
        within = numbers.0;
        comes = λ t time person action resource finds.
            tells.comes t time person action resource (way_back t questions more bags bigger first second (listed person action resource) way tells.turns finds)
            ∙ ap (λ qs. came_by o.tested (record { questions = qs; failed = o.failed })) (sym numbers.1);
      }

  pub test_grows : (x : Test) → IsTest at questions bags test x → IsTest at more bigger test x
  test_grows x is = record {
    asks = λ n k key. about_more at questions more bags bigger first second k.question k.place (is.asks n k key);
    told = λ way n led.
        let before = is.told way n led in
        (before.0, (before.1.0, tells_more way before.0 before.1.1));
  }

-- and at each time that is the same
pub test_at : (at s : Looks) (questions : List Question) (bags : List Contents) (test : Looks → Request → Came) (x : Test) → IsAtTime at s → IsTest at questions bags test x → IsTest s questions bags test x
test_at at s questions bags test x same is = record {
  asks = is.asks;
  told = λ way n led.
      let before = is.told way n led in (
        before.0,
        (
          before.1.0,
          record {
            turns = before.1.1.turns;
            within = before.1.1.within;
            comes = λ t time. before.1.1.comes t (time.0 ∙ same.0, (time.1.0 ∙ same.1.0, time.1.1 ∙ same.1.1));
          },
        ),
      );
}

module _ (at : Looks) (questions : List Question) (bags : List Contents) (test : Looks → Request → Came) (old new : Test) (begins : Begins new.outcomes.items old.outcomes.items) (is : IsTest at questions bags test old) where
  -- a way that led to an outcome still tells it
  told_still : (way : Way) (n : ℕ) → Leads old.tree.nodes.items way n → (o : TestOutcome) × ((slice_get new.outcomes.items n ≡ Some o) × Tells at questions bags test way o)
  told_still way n led =
      let before = is.told way n led in
      (before.0, (starts_get old.outcomes.items new.outcomes.items n before.0 begins before.1.0, before.1.1))

  -- a tree in which nothing leads anywhere else
  pub test_same : LeadsAsBefore old.tree.nodes.items new.tree.nodes.items → AsksAbout questions new.tree.nodes.items → IsTest at questions bags test new
  test_same leads asks = record { asks = asks; told = λ way n led. told_still way n ((leads way n).1 led) }

  -- one way more, to an outcome that it tells
  pub test_more : (nodes : Nodes) (way : Way) (n : ℕ) (o : TestOutcome) → LeadsAsBefore old.tree.nodes.items nodes → AsksAbout questions nodes → Ends nodes new.tree.nodes.items way n
      → slice_get new.outcomes.items n ≡ Some o → Tells at questions bags test way o → IsTest at questions bags test new
  test_more nodes way n o leads asks ends there tells = record {
    asks = λ m k key. asks m k (sym (ends.asks m) ∙ key);
    told = λ w m led. by w m (ends.others w m led);
  } where
    by : (w : Way) (m : ℕ) → Leads nodes w m ⊎ ((w ≡ way) × (m ≡ n)) → (p : TestOutcome) × ((slice_get new.outcomes.items m ≡ Some p) × Tells at questions bags test w p)
    by w m (inl led) = told_still w m ((leads w m).1 led)
    by w m (inr this) = (o, (ap (slice_get new.outcomes.items) this.1 ∙ there, subst (λ v. Tells at questions bags test v o) (sym this.0) tells))

-- the same test with outcomes behind its own
pub test_kept : (at : Looks) (questions : List Question) (bags : List Contents) (test : Looks → Request → Came) (old new : Test) → Begins new.outcomes.items old.outcomes.items → new.tree.nodes.items ≡ old.tree.nodes.items
    → IsTest at questions bags test old → IsTest at questions bags test new
test_kept at questions bags test old new begins tree is =
    test_same at questions bags test old new begins is
    (λ way n. (subst (λ nodes. Leads nodes way n) (sym tree), subst (λ nodes. Leads nodes way n) tree))
    (subst (AsksAbout questions) (sym tree) is.asks)

-- ---- what a request's way leads to is heard of the test

pub comes_to : (looks : Looks) (questions : List Question) (old new : List Contents) (x : Test) (person action resource : List ℕ) (o : Option ℕ) (n : ℕ) → o ≡ Some n → Begins new old
    → TellsEnd looks questions old new (listed person action resource) x.tree.nodes.items o → ComesTo looks questions old (listed person action resource) x n
comes_to looks questions old new x person action resource None n is begins tells test kept = absurd (cc)
comes_to looks questions old new x person action resource (Some m) n is begins tells test kept =
    let same : m ≡ n = cc in
    let grown = test_grows looks questions questions old new (starts_itself questions questions refl) begins test x kept in
    let there = grown.told tells.0 m tells.1.0 in
    let at : slice_get x.outcomes.items n ≡ Some there.0 = ap (slice_get x.outcomes.items) (sym same) ∙ there.1.0 in
    (there.0, (at, (there.1.1.within, there.1.1.comes looks (refl, (refl, refl)) person action resource tells.1.1)))

-- ---- what is learnt

-- what holds of each where two things do
all_both : (P Q R : Question → Type 0) → ((x : Question) → P x → Q x → R x) → (xs : List Question) → AllByRecursion P xs → AllByRecursion Q xs → AllByRecursion R xs
all_both P Q R both [] first second = tt
all_both P Q R both (x ∷ xs) first second = (both x first.0 second.0, all_both P Q R both xs first.1 second.1)

asked_of : (questions : List Question) (o : TestOutcome) → asked_by (came_of questions o) ≡ at_numbers questions o.asked
asked_of questions o = by o.tested where
  by : (t : Tested) → asked_by (came_by t (record { questions = at_numbers questions o.asked; failed = o.failed })) ≡ at_numbers questions o.asked
  by (tested.Target t) = refl
  by (tested.Condition c) = refl
  by (tested.Decides a) = refl

-- what was found for the questions of a test tells what it came to
pub tells_found : (looks : Looks) (questions : List Question) (bags : List Contents) (request : Request) (test : Looks → Request → Came) (o : TestOutcome) (found : List Finding)
    → Rests test → test looks request ≡ came_of questions o → AreNumbers questions o.asked → AllByRecursion (IsFinding questions bags) found → TellsAttributes looks questions bags request o.asked found
    → Tells looks questions bags test (way_of found) o
tells_found looks questions bags request test o found rests came within are attributes = record {
  turns = turns_all questions bags [] found tt are;
  within = within;
  comes = λ t time person action resource finds.
      let other = listed person action resource in
      let asked : asked_by (test looks request) ≡ at_numbers questions o.asked = ap asked_by came ∙ asked_of questions o in
      let same = attributes t time person action resource (way_finds t questions bags other [] found finds).1 in
      let all : AllByRecursion (FindsSame looks request t other) (at_numbers questions o.asked) =
      all_both IsAttribute (λ x. IsAttribute x → FindsSame looks request t other x) (FindsSame looks request t other) (λ x attribute finds_same. finds_same attribute) (at_numbers questions o.asked)
      (subst (AllByRecursion IsAttribute) asked (rests.attributes looks request)) same in
      rests.same looks t request other (subst (AllByRecursion (FindsSame looks request t other)) (sym asked) all) ∙ came;
}

-- where bags alone got numbers
pub learns_nothing : (looks : Looks) (questions : List Question) (old new : List Contents) (request : Request) (o : TestOutcome) (before after : Test) → Begins new old
    → Begins after.outcomes.items before.outcomes.items → after.tree.nodes.items ≡ before.tree.nodes.items → Learns looks questions old new request o before after
learns_nothing looks questions old new request o before after bags begins tree test rests came is =
    test_kept looks questions new test before after begins tree (test_grows looks questions questions old new (starts_itself questions questions refl) bags test before is)

-- where the way of what was found is led to the outcome
pub learns_found : (looks : Looks) (questions : List Question) (old new : List Contents) (request : Request) (o : TestOutcome) (before mid after : Test) (found : List Finding) (n : ℕ) → Begins new old
    → Begins mid.outcomes.items before.outcomes.items → mid.tree.nodes.items ≡ before.tree.nodes.items → slice_get mid.outcomes.items n ≡ Some o → AreNumbers questions o.asked
    → AllByRecursion (IsFinding questions new) found → TellsAttributes looks questions new request o.asked found → LeadsTo found n mid after → Learns looks questions old new request o before after
learns_found looks questions old new request o before mid after found n bags begins tree there within are attributes leads test rests came is =
    leads looks questions new test o (about_all questions new found are) there (tells_found looks questions new request test o found rests came within are attributes)
    (learns_nothing looks questions old new request o before mid bags begins tree test rests came is)
