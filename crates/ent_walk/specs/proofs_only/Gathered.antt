-- What is kept of children that were seen.
use Rattle.std.specs.Prelude.{◌≡◌, List, [], ◌∷◌, ◌++◌, true, Option, Some, None}
use Rattle.ent_combine.specs.Combine.{combine, HasTaken, is_permit, is_deny, progress_at}
use Rattle.ent_combine.specs.declared.combiner.Progress.{Progress}
use Rattle.ent_combine.specs.declared.outcome.Outcome.{Outcome}
use Rattle.ent_combine.specs.declared.outcome.Outcome.TheVariants.{Ind}
use Rattle.ent_combine.specs.declared.outcome.RuleAlg.{RuleAlg}
use Rattle.ent_policy.specs.declared.key.DocKey.{DocKey}
use Rattle.ent_request.specs.declared.answer.Answer.{Answer}
use Rattle.ent_request.specs.declared.answer.Status.{Status}
use Rattle.ent_walk.specs.declared.gather.Gathering.{Gathering}
use Rattle.ent_walk.specs.declared.told.ToldChildren.{ToldChildren}
use Rattle.ent_walk.specs.Judged.{decisions, default_why, first_status, judged, told_by}

-- the status of the first Indeterminate, with one more child
abbrev pub status_with : Option Status → Outcome → Status → Option Status
status_with (Some first) decision status = Some first
status_with None (Ind kind) status = Some status
status_with None _ status = None

-- what children come to, all of which were seen
abbrev pub judged_by : List DocKey → RuleAlg → List Answer → Answer
judged_by here algorithm seen = judged here algorithm (combine algorithm (decisions seen)) seen

-- what children told, with one child more that has their decision
abbrev pub told_more : ToldChildren → ToldChildren → ToldChildren
told_more told more = record { any = true; why = told.why ++ more.why; obligations = told.obligations ++ more.obligations; advice = told.advice ++ more.advice }

-- what children told, followed by the entry of the element at the end of a path, where that decides by default
abbrev pub told_at : List DocKey → RuleAlg → ToldChildren → ToldChildren
told_at here algorithm told = record told { why = told.why ++ default_why here algorithm told.any }

-- these children were gathered
pub record HasGathered (algorithm : RuleAlg) (g : Gathering) (answers : List Answer) : Type 0 where
  pub algorithm_is : g.combiner.algorithm ≡ algorithm
  pub combined : HasTaken g.combiner (decisions answers)
  pub status : g.status ≡ first_status answers
  pub permitted : g.permitted ≡ told_by is_permit answers
  pub denied : g.denied ≡ told_by is_deny answers

-- one child more was gathered
abbrev pub Gathers : Gathering → Gathering → Answer → Type 0
Gathers before after answer = (algorithm : RuleAlg) (answers : List Answer) → HasGathered algorithm before answers → HasGathered algorithm after (answers ++ answer ∷ [])

-- whether that child fixes the decision
abbrev pub Tells : Gathering → Answer → Progress → Type 0
Tells before answer progress = (algorithm : RuleAlg) (answers : List Answer) → HasGathered algorithm before answers → progress ≡ progress_at algorithm answer.decision
