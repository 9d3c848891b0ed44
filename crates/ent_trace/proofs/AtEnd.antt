-- What the notes say of an evaluation at its end.
use Rattle.std.proofs.Common.{◌≡◌, Bool, true, false, ◌||◌, List, [], ◌∷◌, ◌++◌, refl, sym, ap, ◌∙◌, Option, Some, None}
use Rattle.std.specs.Prelude.{if◌then◌else◌}
use Rattle.std.specs.List.{list_any}
use Rattle.std.specs.Option.{option_or}
use Rattle.ent_request.specs.declared.cause.Cause.{Cause}
use Rattle.ent_trace.specs.declared.causes.Causes.{Causes}
use Rattle.ent_request.specs.declared.question.Question.{Question}
use Rattle.ent_request.specs.Causes.{are_any, same_cause, told_once}
use Rattle.ent_request.specs.Note.{Note, asks, causes_in, fails, first_cause, passed, questions_in}
use Rattle.ent_trace.specs.proofs_only.Noted.{Notes, asked_once, noting, with_asked, with_failure, with_note, with_question}
use Rattle.ent_trace.specs.proofs_only.Met.{Met, with_failing, with_passed}

-- the questions are those that were noted, each once
pub told_questions : (n : Notes) (questions : List Question) (ns : List Note) → n.questions ≡ Some questions → (noting n ns).questions ≡ Some (asked_once questions (questions_in ns))
told_questions n questions [] is = is
told_questions n questions (asks q ∷ ns) is = told_questions (with_note n (asks q)) (with_question questions q) ns (ap (λ asked. with_asked asked q) is)
told_questions n questions (fails c ∷ ns) is = told_questions (with_note n (fails c)) questions ns is
told_questions n questions (passed c ∷ ns) is = told_questions (with_note n (passed c)) questions ns is

or_none : {A : Type 0} (o : Option A) → option_or o None ≡ o
or_none None = refl
or_none (Some x) = refl

-- the first of three is that of the first two, where the second is there
or_first : {A : Type 0} (o : Option A) (x : A) (later : Option A)
    → option_or (option_or o (Some x)) later ≡ option_or o (Some x)
or_first None x later = refl
or_first (Some y) x later = refl

-- what failed before the evaluation went into a policy
abbrev outside : Met → Causes
outside told = record { path = []; rule = None; told = told }

-- causes with more behind them, each once, and the first that isn't passed over
abbrev met_on : Met → List Note → Met
met_on met ns = record { causes = told_once met.causes (causes_in ns); named = option_or met.named (first_cause ns) }

-- a cause is noted as it is, outside of policies and rules
met_more : (add : Met → Cause → Met) (n : Notes) (met : Met) (c : Cause) → n.causes ≡ Some (outside met)
    → with_failure add n.causes c ≡ Some (outside (add met c))
met_more add n met c is =
    ap (λ o. with_failure add o c) is ∙ ap (λ rule. Some (outside (add met (record c { rule = rule })))) (or_none c.rule)

-- the causes are those that were noted, each once, with the first that isn't passed over
pub told_causes : (n : Notes) (met : Met) (ns : List Note) → n.causes ≡ Some (outside met)
    → (noting n ns).causes ≡ Some (outside (met_on met ns))
told_causes n met [] is = is ∙ ap (λ named. Some (outside (record met { named = named }))) (sym (or_none met.named))
told_causes n met (asks q ∷ ns) is = told_causes (with_note n (asks q)) met ns is
told_causes n met (fails c ∷ ns) is =
    told_causes (with_note n (fails c)) (with_failing met c) ns (met_more with_failing n met c is)
    ∙ ap (λ named. Some (outside (record (met_on (with_failing met c) ns) { named = named })))
    (or_first met.named c (first_cause ns))
told_causes n met (passed c ∷ ns) is =
    told_causes (with_note n (passed c)) (with_passed met c) ns (met_more with_passed n met c is)

any_more : (x : Cause) (xs causes : List Cause) → are_any (told_once (x ∷ xs) causes) ≡ true
any_more x xs [] = refl
any_more x xs (c ∷ causes) = at (list_any (same_cause c) (x ∷ xs)) (λ ys. any_more x ys causes) where
  at : (b : Bool) → ((ys : List Cause) → are_any (told_once (x ∷ ys) causes) ≡ true) → are_any (told_once (if b then x ∷ xs else x ∷ (xs ++ c ∷ [])) causes) ≡ true
  at true more = more xs
  at false more = more (xs ++ c ∷ [])

pub any_once : (causes : List Cause) → are_any causes ≡ are_any (told_once [] causes)
any_once [] = refl
any_once (c ∷ causes) = sym (any_more c [] causes)

or_true : (b : Bool) → true ≡ (b || true)
or_true true = refl
or_true false = refl

pub failed_is : (n : Notes) (ns : List Note) → (noting n ns).failed ≡ (n.failed || are_any (causes_in ns))
failed_is n [] = at n.failed where
  at : (b : Bool) → b ≡ (b || false)
  at true = refl
  at false = refl
failed_is n (asks q ∷ ns) = failed_is (with_note n (asks q)) ns
failed_is n (fails c ∷ ns) = failed_is (with_note n (fails c)) ns ∙ or_true n.failed
failed_is n (passed c ∷ ns) = failed_is (with_note n (passed c)) ns ∙ or_true n.failed

-- something failed where there is a cause
pub told_failed : (n : Notes) (ns : List Note) → n.failed ≡ false → (noting n ns).failed ≡ are_any (told_once [] (causes_in ns))
told_failed n ns is = failed_is n ns ∙ ap (λ b. b || are_any (causes_in ns)) is ∙ any_once (causes_in ns)
