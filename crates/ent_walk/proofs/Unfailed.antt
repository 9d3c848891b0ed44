-- Children that aren't Indeterminate come to nothing that is.
use Rattle.std.proofs.Common.{◌≡◌, Bool, true, false, ◌&&◌, ◌||◌, List, [], ◌∷◌, refl, sym, ap, ◌∙◌, Option, None}
use Rattle.std.specs.Prelude.{find, if◌then◌else◌, unwrap_or}
use Rattle.std.specs.List.{list_any}
use Rattle.ent_combine.specs.Combine.{combine, is_applicable, is_deny, is_ind_d, is_ind_dp, is_ind_p, is_permit}
use Rattle.ent_combine.specs.declared.outcome.IndKind.{IndKind}
use Rattle.ent_combine.specs.declared.outcome.IndKind.TheVariants as ind
use Rattle.ent_combine.specs.declared.outcome.Outcome.{Outcome}
use Rattle.ent_combine.specs.declared.outcome.Outcome.TheVariants as outcome
use Rattle.ent_combine.specs.declared.outcome.RuleAlg.{RuleAlg}
use Rattle.ent_combine.specs.declared.outcome.RuleAlg.TheVariants as by
use Rattle.ent_request.specs.declared.answer.Answer.{Answer}
use Rattle.ent_request.specs.declared.answer.Status.{Status}
use Rattle.ent_walk.specs.Judged.{decisions, first_status, is_ind, status_before}

none_of : (q : Outcome → Bool) → ((o : Outcome) → is_ind o ≡ false → q o ≡ false) → (ds : List Outcome)
    → list_any is_ind ds ≡ false → list_any q ds ≡ false
none_of q only_ind [] none = refl
none_of q only_ind (d ∷ ds) none = at (is_ind d) refl none (none_of q only_ind ds) where
  at : (b : Bool) → is_ind d ≡ b → (b || list_any is_ind ds) ≡ false
      → (list_any is_ind ds ≡ false → list_any q ds ≡ false) → (q d || list_any q ds) ≡ false
  at true is none later = absurd (cc)
  at false is none later = ap (λ c. c || list_any q ds) (only_ind d is) ∙ later none

no_dp : (o : Outcome) → is_ind o ≡ false → is_ind_dp o ≡ false
no_dp outcome.Permit e = refl
no_dp outcome.Deny e = refl
no_dp outcome.NotApplicable e = refl
no_dp (outcome.Ind kind) e = absurd (cc)

no_d : (o : Outcome) → is_ind o ≡ false → is_ind_d o ≡ false
no_d outcome.Permit e = refl
no_d outcome.Deny e = refl
no_d outcome.NotApplicable e = refl
no_d (outcome.Ind kind) e = absurd (cc)

no_p : (o : Outcome) → is_ind o ≡ false → is_ind_p o ≡ false
no_p outcome.Permit e = refl
no_p outcome.Deny e = refl
no_p outcome.NotApplicable e = refl
no_p (outcome.Ind kind) e = absurd (cc)

deny_first : (k : IndKind) (deny permit dp d p : Bool) → dp ≡ false → d ≡ false → p ≡ false
    →
    (if deny then outcome.Deny else if dp || (d && (p || permit)) then outcome.Ind ind.DP
    else if d then outcome.Ind ind.D else if permit then outcome.Permit else if p then outcome.Ind ind.P
    else outcome.NotApplicable)
    ≡ outcome.Ind k
    → ⊥
deny_first k true permit dp d p x y z e = absurd (cc)
deny_first k false permit true d p x y z e = absurd (cc)
deny_first k false permit false true p x y z e = absurd (cc)
deny_first k false true false false p x y z e = absurd (cc)
deny_first k false false false false true x y z e = absurd (cc)
deny_first k false false false false false x y z e = absurd (cc)

permit_first : (k : IndKind) (deny permit dp d p : Bool) → dp ≡ false → d ≡ false → p ≡ false
    →
    (if permit then outcome.Permit else if dp || (p && (d || deny)) then outcome.Ind ind.DP
    else if p then outcome.Ind ind.P else if deny then outcome.Deny else if d then outcome.Ind ind.D
    else outcome.NotApplicable)
    ≡ outcome.Ind k
    → ⊥
permit_first k deny true dp d p x y z e = absurd (cc)
permit_first k deny false true d p x y z e = absurd (cc)
permit_first k deny false false d true x y z e = absurd (cc)
permit_first k true false false d false x y z e = absurd (cc)
permit_first k false false false true false x y z e = absurd (cc)
permit_first k false false false false false x y z e = absurd (cc)

unless : (k : IndKind) (b : Bool) (x y : Outcome) → is_ind x ≡ false → is_ind y ≡ false
    → (if b then x else y) ≡ outcome.Ind k → ⊥
unless k true x y none-x none-y e = let f : true ≡ false = ap is_ind (sym e) ∙ none-x in absurd (cc)
unless k false x y none-x none-y e = let f : true ≡ false = ap is_ind (sym e) ∙ none-y in absurd (cc)

first_one : (k : IndKind) (ds : List Outcome) → list_any is_ind ds ≡ false
    → unwrap_or (find is_applicable ds) outcome.NotApplicable ≡ outcome.Ind k → ⊥
first_one k [] none e = absurd (cc)
first_one k (outcome.Permit ∷ ds) none e = absurd (cc)
first_one k (outcome.Deny ∷ ds) none e = absurd (cc)
first_one k (outcome.NotApplicable ∷ ds) none e = first_one k ds none e
first_one k (outcome.Ind kind ∷ ds) none e = absurd (cc)

pub no_ind : (algorithm : RuleAlg) (k : IndKind) (ds : List Outcome) → list_any is_ind ds ≡ false
    → combine algorithm ds ≡ outcome.Ind k → ⊥
no_ind by.DenyOverrides k ds none e =
    deny_first k (list_any is_deny ds) (list_any is_permit ds) _ _ _ (none_of is_ind_dp no_dp ds none)
    (none_of is_ind_d no_d ds none) (none_of is_ind_p no_p ds none) e
no_ind by.OrderedDenyOverrides k ds none e =
    deny_first k (list_any is_deny ds) (list_any is_permit ds) _ _ _ (none_of is_ind_dp no_dp ds none)
    (none_of is_ind_d no_d ds none) (none_of is_ind_p no_p ds none) e
no_ind by.PermitOverrides k ds none e =
    permit_first k (list_any is_deny ds) (list_any is_permit ds) _ _ _ (none_of is_ind_dp no_dp ds none)
    (none_of is_ind_d no_d ds none) (none_of is_ind_p no_p ds none) e
no_ind by.OrderedPermitOverrides k ds none e =
    permit_first k (list_any is_deny ds) (list_any is_permit ds) _ _ _ (none_of is_ind_dp no_dp ds none)
    (none_of is_ind_d no_d ds none) (none_of is_ind_p no_p ds none) e
no_ind by.DenyUnlessPermit k ds none e = unless k (list_any is_permit ds) outcome.Permit outcome.Deny refl refl e
no_ind by.PermitUnlessDeny k ds none e = unless k (list_any is_deny ds) outcome.Deny outcome.Permit refl refl e
no_ind by.FirstApplicable k ds none e = first_one k ds none e

status_at : (o : Outcome) (status : Status) (later : Option Status) → status_before o status later ≡ None
    → (is_ind o ≡ false) × (later ≡ None)
status_at outcome.Permit status later e = (refl, e)
status_at outcome.Deny status later e = (refl, e)
status_at outcome.NotApplicable status later e = (refl, e)
status_at (outcome.Ind kind) status later e = absurd (cc)

pub none_ind : (us : List Answer) → first_status us ≡ None → list_any is_ind (decisions us) ≡ false
none_ind [] e = refl
none_ind (a ∷ us) e =
    let both = status_at a.decision a.status (first_status us) e in ap (λ b. b || list_any is_ind (decisions us)) both.0
    ∙ none_ind us both.1
