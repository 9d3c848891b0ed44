-- What several children come to (sections 7.12 to 7.14).
use Rattle.std.specs.Prelude.{List, [], ◌∷◌, ◌++◌, Bool, true, false, ◌&&◌, not, if◌then◌else◌, Option, Some, None, unwrap_or}
use Rattle.std.specs.List.{list_any}
use Rattle.ent_combine.specs.Combine.{combine, fixes, is_permit, is_deny}
use Rattle.ent_combine.specs.Seen.{up_to_first}
use Rattle.ent_combine.specs.Under.{under}
use Rattle.ent_combine.specs.declared.outcome.Outcome.{Outcome}
use Rattle.ent_combine.specs.declared.outcome.Outcome.TheVariants.{Permit, Deny, NotApplicable, Ind}
use Rattle.ent_combine.specs.declared.outcome.RuleAlg.{RuleAlg}
use Rattle.ent_combine.specs.declared.outcome.RuleAlg.TheVariants.{DenyUnlessPermit, PermitUnlessDeny}
use Rattle.ent_policy.specs.declared.key.DocKey.{DocKey}
use Rattle.ent_request.specs.declared.answer.Answer.{Answer}
use Rattle.ent_request.specs.declared.answer.Status.{Status}
use Rattle.ent_request.specs.declared.answer.Status.TheVariants.{Okay, ProcessingError}
use Rattle.ent_request.specs.declared.answer.WhyEntry.{WhyEntry}
use Rattle.ent_walk.specs.declared.target.Targeted.{Targeted}
use Rattle.ent_walk.specs.declared.told.ToldChildren.{ToldChildren}
use Rattle.ent_walk.specs.declared.target.Targeted.TheVariants.{Match, NoMatch, Indeterminate}
use Rattle.ent_request.specs.Plain.{nothing, indeterminate}

-- whether a decision is Indeterminate
abbrev pub is_ind : Outcome → Bool
is_ind (Ind kind) = true
is_ind decision = false

-- whether what something comes to is
abbrev pub has_failed : Answer → Bool
has_failed answer = is_ind answer.decision

-- the decisions of several children
abbrev pub decisions : List Answer → List Outcome
decisions [] = []
decisions (a ∷ others) = a.decision ∷ decisions others

-- a child's status if it is Indeterminate, and else that of later children
abbrev pub status_before : Outcome → Status → Option Status → Option Status
status_before (Ind kind) status later = Some status
status_before _ status later = later

-- the status of the first child that is Indeterminate
abbrev pub first_status : List Answer → Option Status
first_status [] = None
first_status (a ∷ others) = status_before a.decision a.status (first_status others)

-- the lists of the children with a decision, in their order: those of Why entries, of obligations or of advice
abbrev pub lists_of : {A : Type 0} → (Answer → List A) → (Outcome → Bool) → List Answer → List A
lists_of list p [] = []
lists_of list p (a ∷ others) = (if p a.decision then list a else []) ++ lists_of list p others

-- what the children with a decision tell of it, and whether there is one
abbrev pub told_by : (Outcome → Bool) → List Answer → ToldChildren
told_by p answers = record {
  any = list_any (λ (a : Answer). p a.decision) answers;
  why = lists_of (λ (a : Answer). a.why) p answers;
  obligations = lists_of (λ (a : Answer). a.obligations) p answers;
  advice = lists_of (λ (a : Answer). a.advice) p answers;
}

-- the algorithms that decide where no child does (appendices C.6 and C.7)
abbrev pub has_default : RuleAlg → Bool
has_default DenyUnlessPermit = true
has_default PermitUnlessDeny = true
has_default _ = false

-- the Why entry of an element at the end of a path that decides by default: none of its children has its decision
abbrev pub default_why : List DocKey → RuleAlg → Bool → List WhyEntry
default_why here algorithm any = if has_default algorithm && not any then record { path = here; rule = None } ∷ [] else []

-- a decision, with what children tell of it, followed by the element's own
abbrev pub decided_by : List DocKey → RuleAlg → Outcome → ToldChildren → Answer
decided_by here algorithm decision told =
    record { decision = decision; status = Okay; why = told.why ++ default_why here algorithm told.any; obligations = told.obligations; advice = told.advice }

-- a decision of an element at the end of a path, with what its children that were seen tell of it
abbrev pub judged : List DocKey → RuleAlg → Outcome → List Answer → Answer
judged here algorithm Permit seen = decided_by here algorithm Permit (told_by is_permit seen)
judged here algorithm Deny seen = decided_by here algorithm Deny (told_by is_deny seen)
judged here algorithm NotApplicable seen = nothing
judged here algorithm (Ind kind) seen = indeterminate kind (unwrap_or (first_status seen) ProcessingError)

-- whether a child fixes the decision alone
abbrev pub stops : RuleAlg → Answer → Bool
stops algorithm a = fixes algorithm a.decision

-- what children come to: the decision is that of all, and those that are seen tell of it
abbrev pub judgement_of : List DocKey → RuleAlg → List Answer → Answer
judgement_of here algorithm answers = judged here algorithm (combine algorithm (decisions answers)) (up_to_first (stops algorithm) answers)

-- Table 7: what an element comes to with a target that is Indeterminate (section 7.14)
abbrev pub under_target : Status → Outcome → Answer
under_target status NotApplicable = nothing
under_target status decision = record { decision = under decision; status = status; why = []; obligations = []; advice = [] }

-- what an element comes to, by its target and by what its children come to (section 7.12)
abbrev pub with_target : Targeted → Answer → Answer
with_target Match answer = answer
with_target NoMatch answer = nothing
with_target (Indeterminate status) answer = under_target status answer.decision
