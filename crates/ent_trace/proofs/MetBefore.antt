-- Causes that were met before.
use Rattle.std.proofs.Common.{◌≡◌, ℕ, zero, suc, Bool, true, false, ◌||◌, List, [], ◌∷◌, ◌++◌, Option, Some, None}
use Rattle.std.proofs.Common.{refl, sym, ap, ◌∙◌, append-nil, slice_get, subst}
use Rattle.std.specs.Prelude.{filter, if◌then◌else◌, is_some, not}
use Rattle.std.specs.List.{AllByRecursion, IsDistinct, list_any, remove}
use Rattle.std.specs.Option.{option_or, option_to_list}
use Rattle.ent_trace.specs.proofs_only.Met.{at_place, with_failing}
use Rattle.ent_request.specs.Causes.{named_first, same_cause, with_cause}
use Rattle.ent_request.specs.declared.cause.Cause.{Cause}
use Rattle.ent_request.specs.declared.cause.Reason.{Reason}
use Rattle.ent_trace.specs.declared.causes.Causes.{Causes}
use Rattle.ent_trace.specs.proofs_only.Noted.{with_more}
use Rattle.ent_request.specs.Note.{status_of}
use Rattle.ent_request.specs.proofs_only.Reason.{cause_of, what_of}
use Rattle.ent_request.proofs.Sames.{cause-Decides}

-- a cause that stands at some place is among them
pub cause_at : (told : List Cause) (place : ℕ) (cause : Cause) → slice_get told place ≡ Some cause
    → list_any (same_cause cause) told ≡ true
cause_at [] place cause is = absurd (cc)
cause_at (c ∷ told) zero cause is =
    ap (λ b. b || list_any (same_cause cause) told) ((cause-Decides cause c).1 (sym (the_same c cause is))) where
      the_same : (x y : Cause) → Some x ≡ Some y → x ≡ y
      the_same x y e = cc
cause_at (c ∷ told) (suc place) cause is = or_later (same_cause cause c) (cause_at told place cause is) where
  or_later : {c : Bool} (b : Bool) → c ≡ true → (b || c) ≡ true
  or_later true later = refl
  or_later false later = later

-- one that is among them isn't told again
pub cause_again : (told : List Cause) (cause : Cause) → list_any (same_cause cause) told ≡ true
    → told ≡ with_cause told cause
cause_again told cause is = ap (λ b. if b then told else told ++ cause ∷ []) (sym is)

-- what failed where the evaluation is, as it is noted of a part
pub failed_here : (k next : Causes) (reason : Reason)
    → next ≡ record k { told = with_failing k.told (cause_of k.path k.rule reason) }
    → next ≡ with_more with_failing k (record { path = []; rule = None; status = status_of (what_of reason); what = what_of reason })
failed_here k next reason is =
    is
    ∙ ap (λ path. record k { told = with_failing k.told (cause_of path k.rule reason) }) (sym (append-nil k.path))

-- a place stays that of its cause, whatever comes behind it
pub place_stays : (causes : List Cause) (more cause : Cause) (place : ℕ) → slice_get causes place ≡ Some cause
    → slice_get (with_cause causes more) place ≡ Some cause
place_stays causes more cause place is = at (list_any (same_cause more) causes) where
  behind : (causes : List Cause) (place : ℕ) → slice_get causes place ≡ Some cause
      → slice_get (causes ++ more ∷ []) place ≡ Some cause
  behind [] place is = absurd (cc)
  behind (c ∷ causes) zero is = is
  behind (c ∷ causes) (suc place) is = behind causes place is

  at : (b : Bool) → slice_get (if b then causes else causes ++ more ∷ []) place ≡ Some cause
  at true = is
  at false = behind causes place is

-- so the cause that is named stays named
pub named_stays : (causes : List Cause) (more : Cause) (place : Option ℕ) → is_some (at_place causes place) ≡ true
    → at_place (with_cause causes more) place ≡ option_or (at_place causes place) (Some more)
named_stays causes more None is = absurd (cc)
named_stays causes more (Some place) is = at (slice_get causes place) refl is where
  at : (o : Option Cause) → slice_get causes place ≡ o → is_some o ≡ true
      → slice_get (with_cause causes more) place ≡ option_or (slice_get causes place) (Some more)
  at None e is = absurd (cc)
  at (Some cause) e is =
      place_stays causes more cause place e ∙ ap (λ o. option_or o (Some more)) (sym e)

-- and else the one that is met now is named
pub named_then : (causes : List Cause) (more : Cause) (named : Option ℕ) (place : ℕ) (is_named : Bool)
    → is_named ≡ is_some (at_place causes named) → slice_get (with_cause causes more) place ≡ Some more
    → at_place (with_cause causes more) (if is_named then named else Some place)
    ≡ option_or (at_place causes named) (Some more)
named_then causes more named place true is here = named_stays causes more named (sym is)
named_then causes more named place false is here = here ∙ only (at_place causes named) (sym is) where
  only : (o : Option Cause) → is_some o ≡ false → Some more ≡ option_or o (Some more)
  only None e = refl
  only (Some cause) e = absurd (cc)

-- the place of a cause that was put there
pub same_there : (causes : List Cause) (cause there : Cause) (place : ℕ) → slice_get causes place ≡ Some there
    → same_cause cause there ≡ true → slice_get causes place ≡ Some cause
same_there causes cause there place is same = is ∙ ap Some (sym ((cause-Decides cause there).0 same))

-- ---- the cause that is named before the others

same_is : (cause : Cause) → same_cause cause cause ≡ true
same_is cause = (cause-Decides cause cause).1 refl

-- none of these is that cause
kept_all : (cause : Cause) (causes : List Cause) → AllByRecursion (λ c. same_cause cause c ≡ false) causes
    → filter (λ c. not (same_cause cause c)) causes ≡ causes
kept_all cause [] none = refl
kept_all cause (c ∷ causes) none =
    ap (λ b. if not b then c ∷ filter (λ d. not (same_cause cause d)) causes else filter (λ d. not (same_cause cause d)) causes) none.0
    ∙ ap (λ cs. c ∷ cs) (kept_all cause causes none.1)

-- a cause that isn't equal to those behind it isn't the one at a place there
other_at : (c cause : Cause) (causes : List Cause) (place : ℕ) → AllByRecursion (λ d. same_cause c d ≡ false) causes
    → slice_get causes place ≡ Some cause → same_cause cause c ≡ false
other_at c cause [] place none is = absurd (cc)
other_at c cause (d ∷ causes) zero none is = at (same_cause cause c) refl where
  at : (b : Bool) → same_cause cause c ≡ b → b ≡ false
  at false e = refl
  at true e =
      let first : cause ≡ c = (cause-Decides cause c).0 e in
      let here : d ≡ cause = cc in
      let never : true ≡ false = sym (same_is c) ∙ ap (same_cause c) (sym (here ∙ first)) ∙ none.0 in
      absurd (cc)
other_at c cause (d ∷ causes) (suc place) none is = other_at c cause causes place none.1 is

-- the others are those that stay where it is taken out
pub without_named : (causes : List Cause) (cause : Cause) (place : ℕ) → IsDistinct same_cause causes
    → slice_get causes place ≡ Some cause → remove causes place ≡ filter (λ c. not (same_cause cause c)) causes
unfolding IsDistinct
without_named [] cause place apart is = absurd (cc)
without_named (c ∷ causes) cause zero apart is =
    let here : c ≡ cause = cc in
    sym (kept_all cause causes (subst (λ x. AllByRecursion (λ d. same_cause x d ≡ false) causes) here apart.0))
    ∙ ap (λ b. if not b then c ∷ filter (λ d. not (same_cause cause d)) causes else filter (λ d. not (same_cause cause d)) causes)
    (sym (ap (same_cause cause) here ∙ same_is cause))
without_named (c ∷ causes) cause (suc place) apart is =
    ap (λ cs. c ∷ cs) (without_named causes cause place apart.1 is)
    ∙ ap (λ b. if not b then c ∷ filter (λ d. not (same_cause cause d)) causes else filter (λ d. not (same_cause cause d)) causes)
    (sym (other_at c cause causes place apart.0 is))

none_removed : (causes : List Cause) (place : ℕ) → slice_get causes place ≡ None → remove causes place ≡ causes
none_removed [] zero is = refl
none_removed [] (suc place) is = refl
none_removed (c ∷ causes) zero is = absurd (cc)
none_removed (c ∷ causes) (suc place) is = ap (λ cs. c ∷ cs) (none_removed causes place is)

-- what is taken out stands before the others
pub taken_first : (causes next : List Cause) (place : ℕ) (taken : Option Cause) → IsDistinct same_cause causes
    → taken ≡ slice_get causes place → next ≡ remove causes place
    → option_to_list taken ++ next ≡ named_first taken causes
taken_first causes next place None apart is rest = rest ∙ none_removed causes place (sym is)
taken_first causes next place (Some cause) apart is rest =
    ap (λ cs. cause ∷ cs) (rest ∙ without_named causes cause place apart (sym is))
