-- One more child.
use Rattle.std.proofs.Common.{◌≡◌, Bool, true, false, ◌||◌, List, [], ◌∷◌, ◌++◌, refl, sym, ap, ◌∙◌, append_assoc, subst, Option, None, Some}
use Rattle.std.specs.Prelude.{if◌then◌else◌}
use Rattle.std.specs.List.{list_any}
use Rattle.std.proofs.lemmas.List.{append-nil}
use Rattle.std.proofs.lemmas.List.Folds.{list_any-append}
use Rattle.ent_combine.specs.Taken.{Taken}
use Rattle.ent_combine.specs.declared.outcome.RuleAlg.{RuleAlg}
use Rattle.ent_walk.specs.declared.told.ToldChildren.{ToldChildren}
use Rattle.ent_walk.specs.declared.gather.Gathering.{Gathering}
use Rattle.ent_combine.specs.Combine.{HasTaken, is_permit, is_deny}
use Rattle.ent_combine.specs.declared.outcome.Outcome.{Outcome}
use Rattle.ent_combine.specs.declared.outcome.Outcome.TheVariants.{Permit, Deny, NotApplicable, Ind}
use Rattle.ent_request.specs.declared.answer.Answer.{Answer}
use Rattle.ent_request.specs.declared.answer.Status.{Status}
use Rattle.ent_walk.specs.proofs_only.Gathered.{status_with, told_more, HasGathered}
use Rattle.ent_walk.specs.Judged.{decisions, first_status, status_before, lists_of, told_by}

pub decisions-more : (js : List Answer) (j : Answer) → decisions (js ++ j ∷ []) ≡ decisions js ++ j.decision ∷ []
decisions-more [] j = refl
decisions-more (k ∷ js) j = ap (λ os. k.decision ∷ os) (decisions-more js j)

-- the lists of children, with one child more
abbrev with_list : {A : Type 0} → (Answer → List A) → Answer → Bool → List A → List A
with_list list j b so_far = so_far ++ (if b then list j else [])

lists_of-more : {A : Type 0} (list : Answer → List A) (p : Outcome → Bool) (js : List Answer) (j : Answer) → lists_of list p (js ++ j ∷ []) ≡ with_list list j (p j.decision) (lists_of list p js)
lists_of-more list p [] j = append-nil (if p j.decision then list j else [])
lists_of-more list p (k ∷ js) j =
    ap (λ ws. (if p k.decision then list k else []) ++ ws) (lists_of-more list p js j) ∙ sym (append_assoc (if p k.decision then list k else []) (lists_of list p js) (if p j.decision then list j else []))

-- what children told, with one child more that has the decision, or another one
abbrev pub told_next : Bool → ToldChildren → Answer → ToldChildren
told_next true told j = told_more told (record { any = true; why = j.why; obligations = j.obligations; advice = j.advice })
told_next false told j = told

told_at : (b : Bool) (any : Bool) (told : ToldChildren) (j : Answer) → any ≡ (told.any || (b || false)) → record {
  any = any;
  why = with_list (λ (a : Answer). a.why) j b told.why;
  obligations = with_list (λ (a : Answer). a.obligations) j b told.obligations;
  advice = with_list (λ (a : Answer). a.advice) j b told.advice;
} ≡ told_next b told j
told_at true any told j is = ap (λ c. record { any = c; why = told.why ++ j.why; obligations = told.obligations ++ j.obligations; advice = told.advice ++ j.advice }) (is ∙ or_true told.any) where
  or_true : (a : Bool) → (a || true) ≡ true
  or_true true = refl
  or_true false = refl
told_at false any told j is =
    ap (λ c. record { any = c; why = told.why ++ []; obligations = told.obligations ++ []; advice = told.advice ++ [] }) (is ∙ or_false told.any)
    ∙ rw (append-nil told.why, append-nil told.obligations, append-nil told.advice) refl where
      or_false : (a : Bool) → (a || false) ≡ a
      or_false true = refl
      or_false false = refl

pub told_by-more : (p : Outcome → Bool) (js : List Answer) (j : Answer) → told_by p (js ++ j ∷ []) ≡ told_next (p j.decision) (told_by p js) j
told_by-more p js j =
    rw (lists_of-more (λ (a : Answer). a.why) p js j, lists_of-more (λ (a : Answer). a.obligations) p js j, lists_of-more (λ (a : Answer). a.advice) p js j)
    (told_at (p j.decision) (list_any (λ (a : Answer). p a.decision) (js ++ j ∷ [])) (told_by p js) j (list_any-append (λ (a : Answer). p a.decision) js (j ∷ [])))

first_of-more : (o : Outcome) (status : Status) (later : Option Status) (outcome : Outcome) (s : Status) → status_before o status (status_with later outcome s) ≡ status_with (status_before o status later) outcome s
first_of-more Permit status later outcome s = refl
first_of-more Deny status later outcome s = refl
first_of-more NotApplicable status later outcome s = refl
first_of-more (Ind kind) status later outcome s = refl

alone : (outcome : Outcome) (status : Status) → status_before outcome status None ≡ status_with None outcome status
alone Permit status = refl
alone Deny status = refl
alone NotApplicable status = refl
alone (Ind kind) status = refl

pub first_status-more : (js : List Answer) (j : Answer) → first_status (js ++ j ∷ []) ≡ status_with (first_status js) j.decision j.status
first_status-more [] j = alone j.decision j.status
first_status-more (k ∷ js) j = ap (status_before k.decision k.status) (first_status-more js j) ∙ first_of-more k.decision k.status (first_status js) j.decision j.status

-- the status stays where one more child isn't applicable
pub status_stays : (status : Option Status) (s : Status) → status ≡ status_with status NotApplicable s
status_stays None s = refl
status_stays (Some first) s = refl

-- with one more child, given what each part of the gathering became
pub gathers : (algorithm : RuleAlg) (g : Gathering) (js : List Answer) (j : Answer) (combiner : Taken) (status : Option Status) (permitted denied : ToldChildren)
    → HasGathered algorithm g js → combiner.algorithm ≡ g.combiner.algorithm → ((xs : List Outcome) → HasTaken g.combiner xs → HasTaken combiner (xs ++ j.decision ∷ []))
    → status ≡ status_with g.status j.decision j.status → permitted ≡ told_next (is_permit j.decision) g.permitted j → denied ≡ told_next (is_deny j.decision) g.denied j
    → HasGathered algorithm (record { combiner = combiner; status = status; permitted = permitted; denied = denied }) (js ++ j ∷ [])
gathers algorithm g js j combiner status permitted denied so_far same takes status-is permitted-is denied-is = record {
  algorithm_is = same ∙ so_far.algorithm_is;
  combined = subst (HasTaken combiner) (sym (decisions-more js j)) (takes (decisions js) so_far.combined);
  status = status-is ∙ rw so_far.status (sym (first_status-more js j));
  permitted = permitted-is ∙ rw so_far.permitted (sym (told_by-more is_permit js j));
  denied = denied-is ∙ rw so_far.denied (sym (told_by-more is_deny js j));
}

pub isn't_permit : (o : Outcome) → (o ≡ Permit → ⊥) → is_permit o ≡ false
isn't_permit Permit not = absurd (not refl)
isn't_permit Deny not = refl
isn't_permit NotApplicable not = refl
isn't_permit (Ind kind) not = refl

pub isn't_deny : (o : Outcome) → (o ≡ Deny → ⊥) → is_deny o ≡ false
isn't_deny Permit not = refl
isn't_deny Deny not = absurd (not refl)
isn't_deny NotApplicable not = refl
isn't_deny (Ind kind) not = refl

-- what is told stays where the outcome is another one
pub stays : (b : Bool) (told : ToldChildren) (j : Answer) → b ≡ false → told ≡ told_next b told j
stays b told j is = rw is refl

-- and grows where it is that one
pub grows : (b : Bool) (told next : ToldChildren) (j : Answer) → b ≡ true → next ≡ told_next true told j → next ≡ told_next b told j
grows b told next j is e = rw is e
