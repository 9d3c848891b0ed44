-- What a list of outcomes comes to, by what is a member of it (appendix C.2 to C.8).
use Rattle.std.specs.Prelude.{◌≡◌, Bool, true, false, ◌||◌, ◌&&◌, if◌then◌else◌, List, find, unwrap_or}
use Rattle.std.specs.List.{list_any}
use Rattle.ent_combine.specs.declared.combiner.Progress.{Progress}
use Rattle.ent_combine.specs.declared.combiner.Progress.TheVariants.{Go, Stop}
use Rattle.ent_combine.specs.declared.outcome.IndKind.TheVariants.{P, D, DP}
use Rattle.ent_combine.specs.declared.outcome.Outcome.{Outcome}
use Rattle.ent_combine.specs.declared.outcome.Outcome.TheVariants.{Permit, Deny, NotApplicable, Ind}
use Rattle.ent_combine.specs.declared.outcome.RuleAlg.{RuleAlg}
use Rattle.ent_combine.specs.declared.outcome.RuleAlg.TheVariants.{DenyOverrides, PermitOverrides, OrderedDenyOverrides, OrderedPermitOverrides, DenyUnlessPermit, PermitUnlessDeny, FirstApplicable}
use Rattle.ent_combine.specs.Taken.{Taken}

-- whether an outcome is Permit
abbrev pub is_permit : Outcome → Bool
is_permit Permit = true
is_permit _ = false

-- whether an outcome is Deny
abbrev pub is_deny : Outcome → Bool
is_deny Deny = true
is_deny _ = false

-- whether an outcome is Indeterminate{P}
abbrev pub is_ind_p : Outcome → Bool
is_ind_p (Ind P) = true
is_ind_p _ = false

-- whether an outcome is Indeterminate{D}
abbrev pub is_ind_d : Outcome → Bool
is_ind_d (Ind D) = true
is_ind_d _ = false

-- whether an outcome is Indeterminate{DP}
abbrev pub is_ind_dp : Outcome → Bool
is_ind_dp (Ind DP) = true
is_ind_dp _ = false

-- whether an outcome is another than NotApplicable
abbrev pub is_applicable : Outcome → Bool
is_applicable NotApplicable = false
is_applicable _ = true

-- appendix C.2 and C.3: Deny where one is Deny; else {DP} where one is {DP}, or one is {D} and another {P} or Permit; and so on in this order
abbrev pub deny_overrides : List Outcome → Outcome
deny_overrides xs =
    if list_any is_deny xs then Deny
    else if list_any is_ind_dp xs || (list_any is_ind_d xs && (list_any is_ind_p xs || list_any is_permit xs)) then Ind DP
    else if list_any is_ind_d xs then Ind D
    else if list_any is_permit xs then Permit
    else if list_any is_ind_p xs then Ind P
    else NotApplicable

-- appendix C.4 and C.5: the same with the two decisions exchanged
abbrev pub permit_overrides : List Outcome → Outcome
permit_overrides xs =
    if list_any is_permit xs then Permit
    else if list_any is_ind_dp xs || (list_any is_ind_p xs && (list_any is_ind_d xs || list_any is_deny xs)) then Ind DP
    else if list_any is_ind_p xs then Ind P
    else if list_any is_deny xs then Deny
    else if list_any is_ind_d xs then Ind D
    else NotApplicable

-- appendix C.8: the first that isn't NotApplicable, an Indeterminate with its kind
abbrev pub first_applicable : List Outcome → Outcome
first_applicable xs = unwrap_or (find is_applicable xs) NotApplicable

-- what the outcomes come to by each algorithm; deny-unless-permit is appendix C.6, permit-unless-deny C.7
abbrev pub combine : RuleAlg → List Outcome → Outcome
combine DenyOverrides xs = deny_overrides xs
combine OrderedDenyOverrides xs = deny_overrides xs
combine PermitOverrides xs = permit_overrides xs
combine OrderedPermitOverrides xs = permit_overrides xs
combine DenyUnlessPermit xs = if list_any is_permit xs then Permit else Deny
combine PermitUnlessDeny xs = if list_any is_deny xs then Deny else Permit
combine FirstApplicable xs = first_applicable xs

-- whether an outcome alone fixes what the list comes to (what that means: `FixesAlone` of Seen)
abbrev pub fixes : RuleAlg → Outcome → Bool
fixes DenyOverrides x = is_deny x
fixes OrderedDenyOverrides x = is_deny x
fixes PermitUnlessDeny x = is_deny x
fixes PermitOverrides x = is_permit x
fixes OrderedPermitOverrides x = is_permit x
fixes DenyUnlessPermit x = is_permit x
fixes FirstApplicable x = is_applicable x

-- a caller may stop at an outcome that fixes the result, and at no other
abbrev pub progress_at : RuleAlg → Outcome → Progress
progress_at algorithm x = if fixes algorithm x then Stop else Go

-- a combiner has taken these outcomes
abbrev pub HasTaken : Taken → List Outcome → Type 0
HasTaken t xs = t.combined ≡ combine t.algorithm xs
