-- An Indeterminate rule, policy or choice among children has the status of its first cause that isn't passed over.
use Rattle.std.proofs.Common.{◌≡◌, ℕ, zero, suc, Bool, true, false, ◌||◌, List, [], ◌∷◌, ◌++◌, map, get_or, refl, ap}
use Rattle.std.proofs.Common.{ap₂, ◌∙◌, Option, Some, None}
use Rattle.std.specs.Prelude.{if◌then◌else◌, is_some, unwrap_or}
use Rattle.std.specs.List.{list_any}
use Rattle.std.specs.Option.{option_or}
use Rattle.ent_combine.specs.Choose as choosing
use Rattle.ent_combine.specs.Choose.{choose}
use Rattle.ent_combine.specs.Combine.{combine}
use Rattle.ent_combine.specs.Seen.{rest_to_passing, up_to_first}
use Rattle.ent_combine.specs.declared.chooser.Choice.{Choice}
use Rattle.ent_combine.specs.declared.chooser.Choice.TheVariants as choice
use Rattle.ent_combine.specs.declared.chooser.TargetResult.{TargetResult}
use Rattle.ent_combine.specs.declared.outcome.IndKind.{IndKind}
use Rattle.ent_combine.specs.declared.outcome.Outcome.{Outcome}
use Rattle.ent_combine.specs.declared.outcome.Outcome.TheVariants as outcome
use Rattle.ent_combine.specs.declared.outcome.RuleAlg.{RuleAlg}
use Rattle.ent_policy.specs.declared.document.Policy.{Policy}
use Rattle.ent_policy.specs.declared.document.Rule.{Rule}
use Rattle.ent_policy.specs.declared.expression.VariableDefinition.{VariableDefinition}
use Rattle.ent_policy.specs.declared.key.DocKey.{DocKey}
use Rattle.ent_request.specs.declared.answer.Answer.{Answer}
use Rattle.ent_request.specs.declared.answer.Status.{Status}
use Rattle.ent_request.specs.declared.answer.Status.TheVariants.{ProcessingError}
use Rattle.ent_request.specs.declared.cause.What.TheVariants.{Several}
use Rattle.ent_request.specs.declared.request.Request.{Request}
use Rattle.ent_request.specs.Looks.{Looks}
use Rattle.ent_request.specs.Note.{Note, asks, failing, fails, note_of_rule, note_within, passed}
use Rattle.ent_request.specs.Part.{Part, notes_of, settled, values, without_look}
use Rattle.ent_request.specs.Plain.{nothing}
use Rattle.ent_walk.specs.declared.target.Targeted.{Targeted}
use Rattle.ent_walk.specs.declared.target.Targeted.TheVariants as is
use Rattle.ent_walk.specs.Given.{finished}
use Rattle.ent_walk.specs.Judged.{decisions, first_status, has_failed, is_ind, judged, judgement_of, status_before}
use Rattle.ent_walk.specs.Judged.{stops, under_target}
use Rattle.ent_walk.specs.Node.{children_after, combined, element, policy_key, policy_part, policy_rules}
use Rattle.ent_walk.specs.Only.{chosen, chosen_part, first_target_status, only_one, result_of_target, results}
use Rattle.ent_walk.specs.Only.{seen_choice, several, spoils}
use Rattle.ent_walk.specs.Rule.{rule_part, rule_under}
use Rattle.ent_walk.specs.Target.{target_part}
use Rattle.ent_walk.specs.proofs_only.Gathered.{judged_by}
use Rattle.ent_walk.proofs.Children.{judged_seen}
use Rattle.ent_walk.proofs.FirstCauses.{AllTold, IsFirst, IsTold, each-told, first_of, of_answer, of_decision}
use Rattle.ent_walk.proofs.FirstCauses.{of_target, settled-told, status_append, status_in, target-told, then-told}
use Rattle.ent_walk.proofs.FirstCauses.{told-notes, whole-first}
use Rattle.ent_walk.proofs.FirstGiven.{finished-told, under-told}
use Rattle.ent_walk.proofs.Unfailed.{no_ind, none_ind}

-- ---- where a cause stands

pub status-within : (key : DocKey) (ns : List Note) → status_in (map (note_within key) ns) ≡ status_in ns
status-within key [] = refl
status-within key (asks question ∷ ns) = status-within key ns
status-within key (fails cause ∷ ns) = refl
status-within key (passed cause ∷ ns) = status-within key ns

status-rule : (id : List ℕ) (ns : List Note) → status_in (map (note_of_rule id) ns) ≡ status_in ns
status-rule id [] = refl
status-rule id (asks question ∷ ns) = status-rule id ns
status-rule id (fails cause ∷ ns) = refl
status-rule id (passed cause ∷ ns) = status-rule id ns

-- ---- rules

rule-told : (looks : Looks) (request : Request) (definitions : List VariableDefinition) (path : List DocKey) (rule : Rule)
    → IsTold of_answer (rule_part looks request definitions path rule)
rule-told looks request definitions path rule =
    let target = target_part looks request rule.target in
    let under = rule_under looks request definitions path rule in
    status-rule rule.id (target.notes ++ (under target.value).notes)
    ∙ then-told of_target of_answer target under (target-told looks request rule.target)
    (under-told looks request definitions path rule)

-- ---- children

pub answer-agree : (a : Answer) → has_failed a ≡ is_some (of_answer a)
answer-agree a = at a.decision where
  at : (d : Outcome) → is_ind d ≡ is_some (of_decision d a.status)
  at outcome.Permit = refl
  at outcome.Deny = refl
  at outcome.NotApplicable = refl
  at (outcome.Ind kind) = refl

pub settled-answer : (p : Part Answer) → IsFirst of_answer p → IsTold of_answer (settled has_failed p)
settled-answer p = settled-told of_answer has_failed p (answer-agree p.value)

first_is : (us : List Answer) → first_of of_answer us ≡ first_status us
first_is [] = refl
first_is (a ∷ us) = at a.decision ∙ ap (status_before a.decision a.status) (first_is us) where
  at : (d : Outcome)
      → option_or (of_decision d a.status) (first_of of_answer us) ≡ status_before d a.status (first_of of_answer us)
  at outcome.Permit = refl
  at outcome.Deny = refl
  at outcome.NotApplicable = refl
  at (outcome.Ind kind) = refl

judged-first : (here : List DocKey) (algorithm : RuleAlg) (us : List Answer) (status : Status)
    → of_answer (judged_by here algorithm us) ≡ Some status → first_of of_answer us ≡ Some status
judged-first here algorithm us status = at (combine algorithm (decisions us)) refl where
  first : (kind : IndKind) → combine algorithm (decisions us) ≡ outcome.Ind kind → (o : Option Status)
      → first_status us ≡ o → Some (unwrap_or o ProcessingError) ≡ Some status → first_of of_answer us ≡ Some status
  first kind combined (Some s) there e = first_is us ∙ there ∙ e
  first kind combined None there e = absurd (no_ind algorithm kind (decisions us) (none_ind us there) combined)

  at : (d : Outcome) → combine algorithm (decisions us) ≡ d → of_answer (judged here algorithm d us) ≡ Some status
      → first_of of_answer us ≡ Some status
  at outcome.Permit combined e = absurd (cc)
  at outcome.Deny combined e = absurd (cc)
  at outcome.NotApplicable combined e = absurd (cc)
  at (outcome.Ind kind) combined e = first kind combined (first_status us) refl e

-- children that are combined are Indeterminate as the first of those that are seen
children-first : (here : List DocKey) (algorithm : RuleAlg) (vs : List Answer) (status : Status)
    → of_answer (judgement_of here algorithm vs) ≡ Some status
    → first_of of_answer (up_to_first (stops algorithm) vs) ≡ Some status
children-first here algorithm vs status e =
    judged-first here algorithm (up_to_first (stops algorithm) vs) status
    (ap of_answer (judged_seen here algorithm vs) ∙ e)

pub combined-first : (here : List DocKey) (algorithm : RuleAlg) (ps : List (Part Answer)) → AllTold of_answer ps
    → IsFirst of_answer (combined here algorithm ps)
combined-first here algorithm ps each =
    whole-first of_answer of_answer (stops algorithm) (judgement_of here algorithm) (children-first here algorithm) ps each

-- ---- elements

under-first : (first status : Status) (d : Outcome) → of_answer (under_target first d) ≡ Some status
    → Some first ≡ Some status
under-first first status outcome.Permit e = e
under-first first status outcome.Deny e = e
under-first first status outcome.NotApplicable e = absurd (cc)
under-first first status (outcome.Ind kind) e = e

module _ (own : Answer → Part Answer)
    (owns : (a : Answer) → option_or (of_answer a) (status_in (own a).notes) ≡ of_answer (own a).value) where
  behind-first : (children : Part Answer) → IsTold of_answer children → (t : Targeted) (status : Status)
      → of_answer (children_after own children t).value ≡ Some status
      → option_or (of_target t) (status_in (children_after own children t).notes) ≡ Some status
  behind-first children told is.NoMatch status e = absurd (cc)
  behind-first children told is.Match status e = then-told of_answer of_answer children own told owns ∙ e
  behind-first children told (is.Indeterminate first) status e = under-first first status children.value.decision e

  pub element-first : (key : DocKey) (target : Part Targeted) → IsTold of_target target → (children : Part Answer)
      → IsFirst of_answer children → IsFirst of_answer (element key target children own)
  element-first key target told children first status e =
      let behind = children_after own (settled has_failed children) target.value in
      status_append (map (note_within key) target.notes) (map (note_within key) behind.notes)
      ∙ ap₂ option_or (status-within key target.notes ∙ told) (status-within key behind.notes)
      ∙ behind-first (settled has_failed children) (settled-answer children first) target.value status e

pub policy-first : (looks : Looks) (request : Request) (path : List DocKey) (policy : Policy)
    → IsFirst of_answer (policy_part looks request path policy)
policy-first looks request path policy =
    let here = path ++ policy_key policy ∷ [] in
    let rule = rule_part looks request policy.variables here in
    element-first (finished looks request policy.variables policy.given)
    (finished-told looks request policy.variables policy.given) (policy_key policy)
    (target_part looks request policy.target) (target-told looks request policy.target)
    (policy_rules looks request path policy)
    (combined-first here policy.algorithm (map rule policy.rules)
    (each-told of_answer rule (rule-told looks request policy.variables here) policy.rules))

-- ---- the only child that applies

first_target : (ts : List Targeted) → first_of of_target ts ≡ first_target_status ts
first_target [] = refl
first_target (is.Match ∷ ts) = first_target ts
first_target (is.NoMatch ∷ ts) = first_target ts
first_target (is.Indeterminate status ∷ ts) = refl

passing-told : (passes : List (Part Targeted) → Bool) (before ps : List (Part Targeted)) → AllTold of_target ps
    → AllTold of_target (rest_to_passing passes before ps)
passing-told passes before [] each = tt
passing-told passes before (p ∷ ps) each =
    at (passes (before ++ p ∷ [])) (passing-told passes (before ++ p ∷ []) ps each.1) where
      at : (b : Bool) → AllTold of_target (rest_to_passing passes (before ++ p ∷ []) ps)
          → AllTold of_target (if b then p ∷ [] else p ∷ rest_to_passing passes (before ++ p ∷ []) ps)
      at true later = (each.0, tt)
      at false later = (each.0, later)

-- where one child alone is chosen no target is Indeterminate
none-spoils : (us : List TargetResult) (place : ℕ) → choose us ≡ choice.Only place
    → list_any choosing.is_indeterminate us ≡ false
none-spoils us place = at (list_any choosing.is_indeterminate us) refl where
  at : (b : Bool) → list_any choosing.is_indeterminate us ≡ b
      → (if b then choice.Bad else choosing.only_member (choosing.matching_from 0 us)) ≡ choice.Only place
      → list_any choosing.is_indeterminate us ≡ false
  at true there e = absurd (cc)
  at false there e = there

none-seen : (passes : List (Part Targeted) → Bool) (before ps : List (Part Targeted))
    → list_any choosing.is_indeterminate (results (values ps)) ≡ false
    → first_target_status (values (rest_to_passing passes before ps)) ≡ None
none-seen passes before [] none = refl
none-seen passes before (p ∷ ps) none =
    at (passes (before ++ p ∷ [])) p.value none (none-seen passes (before ++ p ∷ []) ps) where
      with_value : Targeted → Part Targeted
      with_value t = record { value = t; notes = p.notes }

      at : (b : Bool) (t : Targeted)
          → (choosing.is_indeterminate (result_of_target t) || list_any choosing.is_indeterminate (results (values ps)))
          ≡ false
          → (list_any choosing.is_indeterminate (results (values ps)) ≡ false
          → first_target_status (values (rest_to_passing passes (before ++ p ∷ []) ps)) ≡ None)
          → first_target_status (values
          (if b then with_value t ∷ [] else with_value t ∷ rest_to_passing passes (before ++ p ∷ []) ps))
          ≡ None
      at true is.Match none later = refl
      at true is.NoMatch none later = refl
      at false is.Match none later = later none
      at false is.NoMatch none later = later none
      at b (is.Indeterminate status) none later = absurd (cc)

-- an Indeterminate among parts has the status of its first cause
abbrev pub AllFirst : List (Part Answer) → Type 0
AllFirst [] = Unit {0}
AllFirst (p ∷ ps) = IsFirst of_answer p × AllFirst ps

place-first : (ps : List (Part Answer)) → AllFirst ps → (place : ℕ)
    → IsFirst of_answer (get_or ps place (without_look nothing))
place-first [] each place = λ status e. absurd (cc)
place-first (p ∷ ps) each zero = each.0
place-first (p ∷ ps) each (suc place) = place-first ps each.1 place

pub only-first : (ts : List (Part Targeted)) (ps : List (Part Answer)) → AllTold of_target ts → AllFirst ps
    → IsFirst of_answer (only_one ts ps)
only-first ts ps told each status = at (choose (results (values ts))) refl where
  seen : List (Part Targeted)
  seen = seen_choice ts

  seen-told : status_in (notes_of seen) ≡ first_target_status (values seen)
  seen-told = told-notes of_target seen (passing-told spoils [] ts told) ∙ first_target (values seen)

  bad : (o : Option Status) → status_in (notes_of seen) ≡ o
      → Some (unwrap_or o ProcessingError) ≡ Some status
      → status_in ((notes_of seen ++ several choice.Bad o) ++ []) ≡ Some status
  bad None noted e =
      status_append (notes_of seen ++ failing Several) []
      ∙ ap (λ o. option_or o None) (status_append (notes_of seen) (failing Several)
      ∙ ap (λ o. option_or o (status_in (failing Several))) noted) ∙ e
  bad (Some first) noted e =
      status_append (notes_of seen ++ []) []
      ∙ ap (λ o. option_or o None) (status_append (notes_of seen) [] ∙ ap (λ o. option_or o None) noted) ∙ e

  at : (c : Choice) → choose (results (values ts)) ≡ c
      → of_answer (chosen_part ps (chosen c (values seen))).value ≡ Some status
      → status_in
      ((notes_of seen ++ several c (first_target_status (values seen))) ++ (chosen_part ps (chosen c (values seen))).notes)
      ≡ Some status
  at choice.Nobody is e = absurd (cc)
  at (choice.Only place) is e =
      let none = seen-told ∙ none-seen spoils [] ts (none-spoils (results (values ts)) place is) in
      let answer = get_or ps place (without_look nothing) in
      status_append (notes_of seen ++ []) answer.notes
      ∙ ap (λ o. option_or o (status_in answer.notes)) (status_append (notes_of seen) [] ∙ ap (λ o. option_or o None) none)
      ∙ place-first ps each place status e
  at choice.Bad is e = bad (first_target_status (values seen)) seen-told e
