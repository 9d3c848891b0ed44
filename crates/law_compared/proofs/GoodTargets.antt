-- What children, rules and targets come to reads back.
use Rattle.std.proofs.Common.{ℕ, zero, suc, Bool, true, false, cond, not, List, [], ◌∷◌, ◌++◌, map}
use Rattle.std.proofs.Common.{Some, None, refl}
use Rattle.std.specs.Prelude.{Result, Ok, Err, ◌&&◌, find, get_or, if◌then◌else◌, unwrap_or}
use Rattle.std.specs.List.{AllByRecursion, list_any}
use Rattle.ent_values.specs.declared.value.Value.{Value}
use Rattle.ent_combine.specs.Combine.{is_deny, is_permit}
use Rattle.ent_combine.specs.Seen.{up_to_first}
use Rattle.ent_combine.specs.declared.chooser.Choice.{Choice}
use Rattle.ent_combine.specs.declared.chooser.Choice.TheVariants as choice
use Rattle.ent_combine.specs.declared.outcome.Outcome.{Outcome}
use Rattle.ent_combine.specs.declared.outcome.Outcome.TheVariants as outcome
use Rattle.ent_combine.specs.declared.outcome.RuleAlg.{RuleAlg}
use Rattle.ent_policy.specs.declared.document.AllOf.{AllOf}
use Rattle.ent_policy.specs.declared.document.AnyOf.{AnyOf}
use Rattle.ent_policy.specs.declared.document.Match.{Match}
use Rattle.ent_policy.specs.declared.document.Rule.{Rule}
use Rattle.ent_policy.specs.declared.document.Target.{Target}
use Rattle.ent_policy.specs.declared.key.DocKey.{DocKey}
use Rattle.ent_walk.specs.Given.{given_in_turn}
use Rattle.ent_walk.specs.Given.{joined}
use Rattle.ent_walk.specs.Judged.{decided_by, default_why, has_default, judged, lists_of, stops, told_by}
use Rattle.ent_request.specs.Plain.{nothing}
use Rattle.ent_walk.specs.Judged.{under_target}
use Rattle.ent_request.specs.Looks.{Looks}
use Rattle.ent_walk.specs.Node.{children_after, combined}
use Rattle.ent_walk.specs.Only.{chosen, chosen_part}
use Rattle.ent_request.specs.Part.{Part, values as values_of_parts, without_look}
use Rattle.ent_walk.specs.Rule.{decided, rule_after, truth_of}
use Rattle.ent_walk.specs.Target.{all_match, all_of_part, any_of_part, is_indeterminate, is_match, is_no_match}
use Rattle.ent_walk.specs.Target.{is_true, match_part, matched, one_matches, target_part}
use Rattle.ent_request.specs.declared.answer.Answer.{Answer}
use Rattle.ent_request.specs.declared.answer.Status.{Status}
use Rattle.ent_request.specs.declared.request.Request.{Request}
use Rattle.law_compared.proofs.GoodTold.{IfAll, IsGoodAnswer, IsToldEntry, IsToldGiven}
use Rattle.law_compared.proofs.GoodTold.{IsToldPath, either, none_good}

-- ---- lists, each of which may be Indeterminate

pub all_both : {A : Type 0} (P : A → Type 0) (xs ys : List A) → AllByRecursion P xs → AllByRecursion P ys
    → AllByRecursion P (xs ++ ys)
all_both P [] ys h g = g
all_both P (x ∷ xs) ys h g = (h.0, all_both P xs ys h.1 g)

joined_all : {A : Type 0} (P : A → Type 0) (r s : Result (List A) Status) → IfAll P r → IfAll P s
    → IfAll P (joined r s)
joined_all P (Err status) s h g = tt
joined_all P (Ok xs) (Err status) h g = tt
joined_all P (Ok xs) (Ok ys) h g = all_both P xs ys h g

pub in_turn_all : {X A : Type 0} (P : A → Type 0) (part : X → Part (Result (List A) Status)) (xs : List X)
    → AllByRecursion (λ x. IfAll P (part x).value) xs → IfAll P (given_in_turn part xs).value
in_turn_all P part [] h = tt
in_turn_all P part (x ∷ xs) h =
    joined_all P (part x).value (given_in_turn part xs).value h.0 (in_turn_all P part xs h.1)

-- ---- answers

lists_good : {A : Type 0} (P : A → Type 0) (list : Answer → List A) (p : Outcome → Bool) (as_ : List Answer)
    → AllByRecursion (λ a. AllByRecursion P (list a)) as_ → AllByRecursion P (lists_of list p as_)
lists_good P list p [] h = tt
lists_good P list p (a ∷ as_) h = by (p a.decision) (lists_good P list p as_ h.1)
  where
    by : (b : Bool) → AllByRecursion P (lists_of list p as_)
        → AllByRecursion P ((if b then list a else []) ++ lists_of list p as_)
    by true more = all_both P (list a) (lists_of list p as_) h.0 more
    by false more = more

abbrev pub AreGoodAnswers : List Answer → Type 0
AreGoodAnswers = AllByRecursion IsGoodAnswer

why_of_all : (as_ : List Answer) → AreGoodAnswers as_
    → AllByRecursion (λ (a : Answer). AllByRecursion IsToldEntry a.why) as_
why_of_all [] h = tt
why_of_all (a ∷ as_) h = (h.0.why, why_of_all as_ h.1)

obligations_of_all : (as_ : List Answer) → AreGoodAnswers as_
    → AllByRecursion (λ (a : Answer). AllByRecursion IsToldGiven a.obligations) as_
obligations_of_all [] h = tt
obligations_of_all (a ∷ as_) h = (h.0.obligations, obligations_of_all as_ h.1)

advice_of_all : (as_ : List Answer) → AreGoodAnswers as_
    → AllByRecursion (λ (a : Answer). AllByRecursion IsToldGiven a.advice) as_
advice_of_all [] h = tt
advice_of_all (a ∷ as_) h = (h.0.advice, advice_of_all as_ h.1)

first_all : (p : Answer → Bool) (as_ : List Answer) → AreGoodAnswers as_ → AreGoodAnswers (up_to_first p as_)
first_all p [] h = tt
first_all p (a ∷ as_) h = by (p a) (first_all p as_ h.1)
  where
    by : (b : Bool) → AreGoodAnswers (up_to_first p as_)
        → AreGoodAnswers (if b then a ∷ [] else a ∷ up_to_first p as_)
    by true more = (h.0, tt)
    by false more = (h.0, more)

default_good : (here : List DocKey) (algorithm : RuleAlg) (any : Bool) → IsToldPath here
    → AllByRecursion IsToldEntry (default_why here algorithm any)
default_good here algorithm any h = by (has_default algorithm && not any)
  where
    by : (b : Bool) → AllByRecursion IsToldEntry (if b then record { path = here; rule = None } ∷ [] else [])
    by true = (record { path = h; rule = tt }, tt)
    by false = tt

decided_good : (here : List DocKey) (algorithm : RuleAlg) (decision : Outcome) (p : Outcome → Bool)
    (as_ : List Answer) → IsToldPath here → AreGoodAnswers as_
    → IsGoodAnswer (decided_by here algorithm decision (told_by p as_))
decided_good here algorithm decision p as_ path h = record {
  why = all_both IsToldEntry _ _ (lists_good IsToldEntry (λ (a : Answer). a.why) p as_ (why_of_all as_ h))
      (default_good here algorithm _ path);
  obligations = lists_good IsToldGiven (λ (a : Answer). a.obligations) p as_ (obligations_of_all as_ h);
  advice = lists_good IsToldGiven (λ (a : Answer). a.advice) p as_ (advice_of_all as_ h);
}

judged_good : (here : List DocKey) (algorithm : RuleAlg) (decision : Outcome) (seen : List Answer) → IsToldPath here
    → AreGoodAnswers seen → IsGoodAnswer (judged here algorithm decision seen)
judged_good here algorithm outcome.Permit seen path h =
    decided_good here algorithm outcome.Permit is_permit seen path h
judged_good here algorithm outcome.Deny seen path h = decided_good here algorithm outcome.Deny is_deny seen path h
judged_good here algorithm outcome.NotApplicable seen path h = none_good _ refl refl refl
judged_good here algorithm (outcome.Ind kind) seen path h = none_good _ refl refl refl

abbrev pub ComeGood : List (Part Answer) → Type 0
ComeGood = AllByRecursion (λ (p : Part Answer). IsGoodAnswer p.value)

values_good : (ps : List (Part Answer)) → ComeGood ps → AreGoodAnswers (values_of_parts ps)
values_good [] h = tt
values_good (p ∷ ps) h = (h.0, values_good ps h.1)

pub combined_good : (here : List DocKey) (algorithm : RuleAlg) (ps : List (Part Answer)) → IsToldPath here → ComeGood ps
    → IsGoodAnswer (combined here algorithm ps).value
combined_good here algorithm ps path h =
    judged_good here algorithm _ _ path (first_all (stops algorithm) (values_of_parts ps) (values_good ps h))

at_good : (ps : List (Part Answer)) (n : ℕ) → ComeGood ps → IsGoodAnswer (get_or ps n (without_look nothing)).value
at_good [] n h = none_good _ refl refl refl
at_good (p ∷ ps) zero h = h.0
at_good (p ∷ ps) (suc n) h = at_good ps n h.1

-- what a function takes, and what it gives
abbrev pub taken_by : {A B : Type 0} → (A → B) → Type 0
taken_by {A} {B} f = A

abbrev pub given_by : {A B : Type 0} → (A → B) → Type 0
given_by {A} {B} f = B

pub choice_good : (ps : List (Part Answer)) (c : Choice) (ts : List (taken_by is_no_match)) → ComeGood ps
    → IsGoodAnswer (chosen_part ps (chosen c ts)).value
choice_good ps choice.Nobody ts h = none_good _ refl refl refl
choice_good ps (choice.Only place) ts h = at_good ps place h
choice_good ps choice.Bad ts h = none_good _ refl refl refl

under_good : (status : Status) (decision : Outcome) → IsGoodAnswer (under_target status decision)
under_good status outcome.Permit = none_good _ refl refl refl
under_good status outcome.Deny = none_good _ refl refl refl
under_good status outcome.NotApplicable = none_good _ refl refl refl
under_good status (outcome.Ind kind) = none_good _ refl refl refl

-- ---- targets

-- what a target and a condition come to
abbrev pub Targeted : Type 0
Targeted = taken_by is_match

abbrev pub Truth : Type 0
Truth = given_by truth_of

-- a function of answers that keeps them such
abbrev pub Keeps : (Answer → Part Answer) → Type 0
Keeps own = (a : Answer) → IsGoodAnswer a → IsGoodAnswer (own a).value

-- rules and children under a target come to such answers
pub record IsGoodTarget (t : Targeted) : Type 0 where
  pub rules : (own : Answer → Part Answer) (condition : Part Truth) (path : List DocKey) (rule : Rule) → Keeps own
      → IsGoodAnswer (decided path rule condition.value) → IsGoodAnswer (rule_after own condition path rule t).value
  pub children : (own : Answer → Part Answer) (children : Part Answer) → Keeps own → IsGoodAnswer children.value
      → IsGoodAnswer (children_after own children t).value

matches : IsGoodTarget (all_match [])
matches =
    record { rules = λ own condition path rule keeps h. keeps _ h; children = λ own children keeps h. keeps _ h }

no_match : IsGoodTarget (one_matches [])
no_match =
    record {
      rules = λ own condition path rule keeps h. none_good _ refl refl refl;
      children =
          λ own children keeps h. none_good _ refl refl refl;
    }

absent : (m : Match)
    → IsGoodTarget (matched (record m { designator = record m.designator { must_be_present = true } }) [])
absent m =
    record {
      rules = λ own condition path rule keeps h. none_good _ refl refl refl;
      children =
          λ own children keeps h. under_good _ children.value.decision;
    }

matched_good : (m : Match) (vs : List Value) → IsGoodTarget (matched m vs)
matched_good m [] = either IsGoodTarget m.designator.must_be_present _ _ (absent m) no_match
matched_good m (v ∷ vs) = either IsGoodTarget (list_any (is_true m.function m.literal) (v ∷ vs)) _ _ matches no_match

first_good : (p : Targeted → Bool) (ts : List Targeted) (otherwise : Targeted) → AllByRecursion IsGoodTarget ts
    → IsGoodTarget otherwise → IsGoodTarget (unwrap_or (find p ts) otherwise)
first_good p [] otherwise h g = g
first_good p (t ∷ ts) otherwise h g = by (p t) (first_good p ts otherwise h.1 g)
  where
    by : (b : Bool) → IsGoodTarget (unwrap_or (find p ts) otherwise)
        → IsGoodTarget (unwrap_or (cond b (Some t) (find p ts)) otherwise)
    by true more = h.0
    by false more = more

all_match_good : (ts : List Targeted) → AllByRecursion IsGoodTarget ts → IsGoodTarget (all_match ts)
all_match_good ts h =
    either IsGoodTarget (list_any is_no_match ts) _ _ no_match (first_good is_indeterminate ts _ h matches)

one_matches_good : (ts : List Targeted) → AllByRecursion IsGoodTarget ts → IsGoodTarget (one_matches ts)
one_matches_good ts h =
    either IsGoodTarget (list_any is_match ts) _ _ matches (first_good is_indeterminate ts _ h no_match)

-- parts each of which comes to such a target
each_target : {X : Type 0} (part : X → Part Targeted) → ((x : X) → IsGoodTarget (part x).value) → (xs : List X)
    → AllByRecursion IsGoodTarget (values_of_parts (map part xs))
each_target part good [] = tt
each_target part good (x ∷ xs) = (good x, each_target part good xs)

pub target_good : (looks : Looks) (request : Request) (target : Target)
    → IsGoodTarget (target_part looks request target).value
target_good looks request target = all_match_good _ (each_target (any_of_part looks request) any_of target.any_of)
  where
    all_of : (a : AllOf) → IsGoodTarget (all_of_part looks request a).value
    all_of a = all_match_good _ (each_target (match_part looks request) (λ m. matched_good m _) a.matches)

    any_of : (a : AnyOf) → IsGoodTarget (any_of_part looks request a).value
    any_of a = one_matches_good _ (each_target (all_of_part looks request) all_of a.all_of)
