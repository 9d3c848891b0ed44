-- Targets, conditions, and what rules give under these are tests that rest on what they ask.
use Rattle.std.proofs.Common.{◌≡◌, Bool, true, false, ◌||◌, List, [], ◌∷◌, ◌++◌, Option, refl, sym, subst, ap}
use Rattle.std.specs.Prelude.{if◌then◌else◌}
use Rattle.std.specs.List.{AllByRecursion}
use Rattle.ent_policy.specs.declared.document.Rule.{Rule}
use Rattle.ent_policy.specs.declared.document.Target.{Target}
use Rattle.ent_policy.specs.declared.expression.Expression.{Expression}
use Rattle.ent_policy.specs.declared.expression.VariableDefinition.{VariableDefinition}
use Rattle.ent_policy.specs.declared.key.DocKey.{DocKey}
use Rattle.ent_request.proofs.Lists.{all_append}
use Rattle.ent_request.specs.Looks.{Looks}
use Rattle.ent_request.specs.Note.{Note, asks, fails, passed, questions_in}
use Rattle.ent_request.specs.Part.{Part}
use Rattle.ent_request.specs.Questions.{asked_once, is_asked, with_question}
use Rattle.ent_request.specs.declared.question.Question.{Question}
use Rattle.ent_request.specs.declared.request.Request.{Request}
use Rattle.ent_walk.proofs.Rests.{Same, World, condition-rests, finished-rests, target-rests}
use Rattle.ent_walk.proofs.Rests as walk
use Rattle.ent_walk.specs.Law.{FindsSame}
use Rattle.ent_walk.specs.Rule.{condition_part, decided}
use Rattle.ent_walk.specs.Target.{target_part}
use Rattle.ent_walk.specs.declared.evaluated.Truth.TheVariants as truth
use Rattle.memo_plan.specs.Heard.{Came, Heard, condition, decides, decides_part, heard, target}
use Rattle.memo_bags.proofs.AskedOnce.{all_asked}
use Rattle.memo_bags.specs.Found.{IsAttribute}
use Rattle.memo_tests.specs.Tested.{Rests, asked_by}
use Rattle.memo_tests.proofs.Asking.{Asks, OfAttribute, condition-asks, finished-asks, target-asks}

-- ---- questions, each once

once_all : (P : Question → Type 0) (questions more : List Question) → AllByRecursion P questions → AllByRecursion P more → AllByRecursion P (asked_once questions more)
once_all P questions [] first later = first
once_all P questions (q ∷ more) first later = once_all P (with_question questions q) more (at (is_asked questions q)) later.1 where
  at : (b : Bool) → AllByRecursion P (if b then questions else questions ++ q ∷ [])
  at true = first
  at false = all_append P questions (q ∷ []) first (later.0, tt)

attributes_in : (ns : List Note) → AllByRecursion OfAttribute ns → AllByRecursion IsAttribute (questions_in ns)
attributes_in [] all = tt
attributes_in (asks q ∷ ns) all = (all.0, attributes_in ns all.1)
attributes_in (fails c ∷ ns) all = attributes_in ns all.1
attributes_in (passed c ∷ ns) all = attributes_in ns all.1

all_same : (s t : World) (ns : List Note) → AllByRecursion (FindsSame s.looks s.request t.looks t.request) (questions_in ns) → AllByRecursion (Same s t) ns
all_same s t [] all = tt
all_same s t (asks q ∷ ns) all = (all.0, all_same s t ns all.1)
all_same s t (fails c ∷ ns) all = (tt, all_same s t ns all)
all_same s t (passed c ∷ ns) all = (tt, all_same s t ns all)

-- ---- a part that is heard

module _ {A : Type 0} (part : World → Part A) (came : Heard A → Came) (asked : (h : Heard A) → asked_by (came h) ≡ h.gist.questions) where
  -- a test that is heard of a part
  abbrev test : Looks → Request → Came
  test looks request = came (heard (part (record { looks = looks; request = request })))

  pub heard_rests : ((s t : World) → walk.Rests s t part) → ((u : World) → Asks (part u)) → Rests test
  heard_rests rest ask = record {
    attributes = λ looks request.
        let here : World = record { looks = looks; request = request } in
        let p : Part A = part here in
        subst (AllByRecursion IsAttribute) (sym (asked (heard p))) (once_all IsAttribute [] (questions_in p.notes) tt (attributes_in p.notes (ask here)));
    same = λ s t q r all.
        let here : World = record { looks = s; request = q } in
        let there : World = record { looks = t; request = r } in
        let P : Question → Type 0 = FindsSame s q t r in
        let each : AllByRecursion P (questions_in (part here).notes) =
        (all_asked P [] (questions_in (part here).notes) (subst (AllByRecursion P) (asked (heard (part here))) all)).1 in
        ap (λ (p : Part A). came (heard p)) (rest here there (all_same here there (part here).notes each));
  }

pub target_rests : (x : Target) → Rests (λ looks request. target (heard (target_part looks request x)))
target_rests x = heard_rests (λ u. target_part u.looks u.request x) target (λ h. refl) (λ s t. target-rests s t x) (λ u. target-asks u.looks u.request x)

pub condition_rests : (definitions : List VariableDefinition) (c : Option Expression) → Rests (λ looks request. condition (heard (condition_part looks request definitions c)))
condition_rests definitions c =
    heard_rests (λ u. condition_part u.looks u.request definitions c) condition (λ h. refl) (λ s t. condition-rests s t definitions c) (λ u. condition-asks u.looks u.request definitions c)

pub decides_rests : (definitions : List VariableDefinition) (path : List DocKey) (rule : Rule) → Rests (λ looks request. decides (heard (decides_part looks request definitions path rule)))
decides_rests definitions path rule =
    heard_rests (λ u. decides_part u.looks u.request definitions path rule) decides (λ h. refl)
    (λ s t. finished-rests s t definitions rule.given (decided path rule truth.True)) (λ u. finished-asks u.looks u.request definitions rule.given (decided path rule truth.True))
