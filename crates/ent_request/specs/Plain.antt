-- Answers that say no more than a decision and a status.
use Rattle.std.specs.Prelude.{[]}
use Rattle.ent_combine.specs.declared.outcome.IndKind.{IndKind}
use Rattle.ent_combine.specs.declared.outcome.IndKind.TheVariants.{DP}
use Rattle.ent_combine.specs.declared.outcome.Outcome.TheVariants.{NotApplicable, Ind}
use Rattle.ent_request.specs.declared.answer.Answer.{Answer}
use Rattle.ent_request.specs.declared.answer.Status.{Status}
use Rattle.ent_request.specs.declared.answer.Status.TheVariants.{Okay, ProcessingError}

-- what isn't applicable
abbrev pub nothing : Answer
nothing = record { decision = NotApplicable; status = Okay; why = []; obligations = []; advice = [] }

-- what is Indeterminate
abbrev pub indeterminate : IndKind → Status → Answer
indeterminate kind status = record { decision = Ind kind; status = status; why = []; obligations = []; advice = [] }

-- what a reference comes to that isn't resolved (section 7.15)
abbrev pub unresolved : Answer
unresolved = indeterminate DP ProcessingError

-- a set of which more than one child applies, or nobody can say which (appendix C.9)
abbrev pub bad : Status → Answer
bad status = indeterminate DP status
