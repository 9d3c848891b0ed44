-- One more outcome, and the first that fixes the result.
use Rattle.std.proofs.Common.{◌≡◌, Bool, true, false, ◌||◌, ◌&&◌, List, [], ◌∷◌, ◌++◌, refl, sym, ap, ◌∙◌, arith}
use Rattle.std.specs.Prelude.{◌≢◌, ◌↔◌, if◌then◌else◌}
use Rattle.std.specs.List.{list_any}
use Rattle.std.proofs.lemmas.List.Folds.{list_any-append}
use Rattle.ent_combine.specs.Combine.{is_permit, is_deny, is_ind_p, is_ind_d, is_ind_dp, is_applicable, combine, fixes, deny_overrides, permit_overrides, first_applicable}
use Rattle.ent_combine.specs.Seen.{seen, up_to_first, DecidesAlone}
use Rattle.ent_combine.specs.declared.outcome.IndKind.TheVariants.{P, D, DP}
use Rattle.ent_combine.specs.declared.outcome.Outcome.{Outcome}
use Rattle.ent_combine.specs.declared.outcome.Outcome.TheVariants.{Permit, Deny, NotApplicable, Ind}
use Rattle.ent_combine.specs.declared.outcome.RuleAlg.{RuleAlg}
use Rattle.ent_combine.specs.declared.outcome.RuleAlg.TheVariants.{DenyOverrides, PermitOverrides, OrderedDenyOverrides, OrderedPermitOverrides, DenyUnlessPermit, PermitUnlessDeny, FirstApplicable}

-- by which of five outcomes a list has: a decision, Indeterminate of both, of that decision, the other decision, Indeterminate of the other
abbrev by_members : Outcome → Outcome → Outcome → Outcome → Bool → Bool → Bool → Bool → Bool → Outcome
by_members first mine other other_ind a b c d e =
    if a then first else if b || (c && (e || d)) then Ind DP else if c then mine else if d then other else if e then other_ind else NotApplicable

deny_joined : (a b c d e : Bool) (x : Outcome) →
    by_members Deny (Ind D) Permit (Ind P) (a || (is_deny x || false)) (b || (is_ind_dp x || false)) (c || (is_ind_d x || false)) (d || (is_permit x || false)) (e || (is_ind_p x || false))
    ≡ deny_overrides (by_members Deny (Ind D) Permit (Ind P) a b c d e ∷ x ∷ [])
deny_joined a b c d e Permit = grind arith
deny_joined a b c d e Deny = grind arith
deny_joined a b c d e NotApplicable = grind arith
deny_joined a b c d e (Ind P) = grind arith
deny_joined a b c d e (Ind D) = grind arith
deny_joined a b c d e (Ind DP) = grind arith

permit_joined : (a b c d e : Bool) (x : Outcome) →
    by_members Permit (Ind P) Deny (Ind D) (a || (is_permit x || false)) (b || (is_ind_dp x || false)) (c || (is_ind_p x || false)) (d || (is_deny x || false)) (e || (is_ind_d x || false))
    ≡ permit_overrides (by_members Permit (Ind P) Deny (Ind D) a b c d e ∷ x ∷ [])
permit_joined a b c d e Permit = grind arith
permit_joined a b c d e Deny = grind arith
permit_joined a b c d e NotApplicable = grind arith
permit_joined a b c d e (Ind P) = grind arith
permit_joined a b c d e (Ind D) = grind arith
permit_joined a b c d e (Ind DP) = grind arith

deny_more : (xs : List Outcome) (x : Outcome) → deny_overrides (xs ++ x ∷ []) ≡ deny_overrides (deny_overrides xs ∷ x ∷ [])
deny_more xs x = rw (list_any-append is_deny, list_any-append is_ind_dp, list_any-append is_ind_d, list_any-append is_ind_p, list_any-append is_permit) (deny_joined _ _ _ _ _ x)

permit_more : (xs : List Outcome) (x : Outcome) → permit_overrides (xs ++ x ∷ []) ≡ permit_overrides (permit_overrides xs ∷ x ∷ [])
permit_more xs x = rw (list_any-append is_permit, list_any-append is_ind_dp, list_any-append is_ind_p, list_any-append is_ind_d, list_any-append is_deny) (permit_joined _ _ _ _ _ x)

unless_more : (p : Outcome → Bool) (one other : Outcome) → p one ≡ true → p other ≡ false → (xs : List Outcome) (x : Outcome) →
    (if list_any p (xs ++ x ∷ []) then one else other) ≡ (if list_any p ((if list_any p xs then one else other) ∷ x ∷ []) then one else other)
unless_more p one other is not xs x = rw list_any-append (unless_joined p one other is not (list_any p xs) (p x || false)) where
  unless_joined : (p : Outcome → Bool) (one other : Outcome) → p one ≡ true → p other ≡ false → (b c : Bool) → (if b || c then one else other) ≡ (if p (if b then one else other) || c then one else other)
  unless_joined p one other is not true c = rw is refl
  unless_joined p one other is not false c = rw not refl

first_more : (xs : List Outcome) (x : Outcome) → first_applicable (xs ++ x ∷ []) ≡ first_applicable (first_applicable xs ∷ x ∷ [])
first_more [] x = refl
first_more (Permit ∷ xs) x = refl
first_more (Deny ∷ xs) x = refl
first_more (NotApplicable ∷ xs) x = first_more xs x
first_more (Ind kind ∷ xs) x = refl

-- one more outcome is joined to what the others come to
pub more : (algorithm : RuleAlg) (xs : List Outcome) (x : Outcome) → combine algorithm (xs ++ x ∷ []) ≡ combine algorithm (combine algorithm xs ∷ x ∷ [])
more DenyOverrides xs x = deny_more xs x
more OrderedDenyOverrides xs x = deny_more xs x
more PermitOverrides xs x = permit_more xs x
more OrderedPermitOverrides xs x = permit_more xs x
more DenyUnlessPermit xs x = unless_more is_permit Permit Deny refl refl xs x
more PermitUnlessDeny xs x = unless_more is_deny Deny Permit refl refl xs x
more FirstApplicable xs x = first_more xs x

pub more_taken : (algorithm : RuleAlg) (so_far : Outcome) (xs : List Outcome) (x : Outcome) → so_far ≡ combine algorithm xs → combine algorithm (so_far ∷ x ∷ []) ≡ combine algorithm (xs ++ x ∷ [])
more_taken algorithm so_far xs x is = rw is (sym (more algorithm xs x))

pub any_up_to_first : {A : Type 0} (p : A → Bool) (xs : List A) → list_any p (up_to_first p xs) ≡ list_any p xs
any_up_to_first p [] = refl
any_up_to_first p (x ∷ xs) = any_at (p x) p x xs refl (any_up_to_first p xs) where
  any_at : {A : Type 0} (b : Bool) (p : A → Bool) (x : A) (xs : List A) → p x ≡ b → list_any p (up_to_first p xs) ≡ list_any p xs → list_any p (if b then x ∷ [] else x ∷ up_to_first p xs) ≡ (p x || list_any p xs)
  any_at true p x xs is later = rw is refl
  any_at false p x xs is later = rw (is, later) refl

-- with none that passes, the whole list
pub whole : {A : Type 0} (p : A → Bool) (xs : List A) → list_any p xs ≡ false → up_to_first p xs ≡ xs
whole p [] none = refl
whole p (x ∷ xs) none = whole_at (p x) p x xs (whole p xs) none where
  whole_at : {A : Type 0} (b : Bool) (p : A → Bool) (x : A) (xs : List A) → (list_any p xs ≡ false → up_to_first p xs ≡ xs) → (b || list_any p xs) ≡ false → (if b then x ∷ [] else x ∷ up_to_first p xs) ≡ x ∷ xs
  whole_at true p x xs later none = absurd (cc)
  whole_at false p x xs later none = ap (λ ys. x ∷ ys) (later none)

-- what is seen of what is seen is all of it
pub seen_again : {A : Type 0} (p : A → Bool) (xs : List A) → up_to_first p (up_to_first p xs) ≡ up_to_first p xs
seen_again p [] = refl
seen_again p (x ∷ xs) = again_at (p x) p x xs refl (seen_again p xs) where
  again_at : {A : Type 0} (b : Bool) (p : A → Bool) (x : A) (xs : List A) → p x ≡ b → up_to_first p (up_to_first p xs) ≡ up_to_first p xs → up_to_first p (if b then x ∷ [] else x ∷ up_to_first p xs) ≡ (if b then x ∷ [] else x ∷ up_to_first p xs)
  again_at true p x xs is later = rw is refl
  again_at false p x xs is later = rw is (ap (λ ys. x ∷ ys) later)

-- a function that is the same for all lists with one that passes sees no more than the first of them
by_first : (p : Outcome → Bool) (f : List Outcome → Outcome) (fixed : Outcome) → ((ys : List Outcome) → list_any p ys ≡ true → f ys ≡ fixed) → (xs : List Outcome) → f xs ≡ f (up_to_first p xs)
by_first p f fixed same xs = at (list_any p xs) refl where
  at : (b : Bool) → list_any p xs ≡ b → f xs ≡ f (up_to_first p xs)
  at true is = same xs is ∙ sym (same (up_to_first p xs) (any_up_to_first p xs ∙ is))
  at false is = sym (ap f (whole p xs is))

first_enough : (xs : List Outcome) → first_applicable xs ≡ first_applicable (up_to_first is_applicable xs)
first_enough [] = refl
first_enough (Permit ∷ xs) = refl
first_enough (Deny ∷ xs) = refl
first_enough (NotApplicable ∷ xs) = first_enough xs
first_enough (Ind kind ∷ xs) = refl

pub enough : (algorithm : RuleAlg) (xs : List Outcome) → combine algorithm xs ≡ combine algorithm (seen algorithm xs)
enough DenyOverrides xs = by_first is_deny deny_overrides Deny (λ ys is. rw is refl) xs
enough OrderedDenyOverrides xs = by_first is_deny deny_overrides Deny (λ ys is. rw is refl) xs
enough PermitOverrides xs = by_first is_permit permit_overrides Permit (λ ys is. rw is refl) xs
enough OrderedPermitOverrides xs = by_first is_permit permit_overrides Permit (λ ys is. rw is refl) xs
enough DenyUnlessPermit xs = by_first is_permit (λ ys. if list_any is_permit ys then Permit else Deny) Permit (λ ys is. rw is refl) xs
enough PermitUnlessDeny xs = by_first is_deny (λ ys. if list_any is_deny ys then Deny else Permit) Deny (λ ys is. rw is refl) xs
enough FirstApplicable xs = first_enough xs

any_there : {A : Type 0} (p : A → Bool) (x : A) → p x ≡ true → (before after : List A) → list_any p (before ++ x ∷ after) ≡ true
any_there p x is [] after = rw is refl
any_there p x is (y ∷ before) after = at (p y) (any_there p x is before after) where
  at : (b : Bool) {c : Bool} → c ≡ true → (b || c) ≡ true
  at true there = refl
  at false there = there

first_alone : (x : Outcome) → is_applicable x ≡ true → (before after : List Outcome) → list_any is_applicable before ≡ false → first_applicable (before ++ x ∷ after) ≡ first_applicable (x ∷ [])
first_alone x is [] after none = rw is refl
first_alone x is (Permit ∷ before) after none = absurd (cc)
first_alone x is (Deny ∷ before) after none = absurd (cc)
first_alone x is (NotApplicable ∷ before) after none = first_alone x is before after none
first_alone x is (Ind kind ∷ before) after none = absurd (cc)

alone_if : (algorithm : RuleAlg) (x : Outcome) → fixes algorithm x ≡ true → DecidesAlone algorithm x
alone_if DenyOverrides x is before after none = rw (any_there is_deny x is before after, is) refl
alone_if OrderedDenyOverrides x is before after none = rw (any_there is_deny x is before after, is) refl
alone_if PermitOverrides x is before after none = rw (any_there is_permit x is before after, is) refl
alone_if OrderedPermitOverrides x is before after none = rw (any_there is_permit x is before after, is) refl
alone_if DenyUnlessPermit x is before after none = rw (any_there is_permit x is before after, is) refl
alone_if PermitUnlessDeny x is before after none = rw (any_there is_deny x is before after, is) refl
alone_if FirstApplicable x is before after none = first_alone x is before after (none refl)

any_deny : (x : Outcome) → deny_overrides (x ∷ Deny ∷ []) ≡ Deny
any_deny x = rw (any_there is_deny Deny refl (x ∷ []) []) refl

any_permit : (x : Outcome) → permit_overrides (x ∷ Permit ∷ []) ≡ Permit
any_permit x = rw (any_there is_permit Permit refl (x ∷ []) []) refl

deny_if : (x : Outcome) → Deny ≡ deny_overrides (x ∷ []) → is_deny x ≡ true
deny_if Deny is = refl
deny_if Permit is = absurd (cc)
deny_if NotApplicable is = absurd (cc)
deny_if (Ind P) is = absurd (cc)
deny_if (Ind D) is = absurd (cc)
deny_if (Ind DP) is = absurd (cc)

permit_if : (x : Outcome) → Permit ≡ permit_overrides (x ∷ []) → is_permit x ≡ true
permit_if Permit is = refl
permit_if Deny is = absurd (cc)
permit_if NotApplicable is = absurd (cc)
permit_if (Ind P) is = absurd (cc)
permit_if (Ind D) is = absurd (cc)
permit_if (Ind DP) is = absurd (cc)

-- what comes to another value with `one` after it than without
unless_if : (p : Outcome → Bool) (one other : Outcome) → one ≢ other → p one ≡ true → (x : Outcome) → (if p x || (p one || false) then one else other) ≡ (if p x || false then one else other) → p x ≡ true
unless_if p one other differ is x same = at (p x) same where
  at : (b : Bool) → (if b || (p one || false) then one else other) ≡ (if b || false then one else other) → b ≡ true
  at true same = refl
  at false same = absurd (differ (rw is at same))

first_if : (x : Outcome) → first_applicable (x ∷ Permit ∷ []) ≡ first_applicable (x ∷ []) → is_applicable x ≡ true
first_if Permit is = refl
first_if Deny is = refl
first_if NotApplicable is = absurd (cc)
first_if (Ind kind) is = refl

fixes_if : (algorithm : RuleAlg) (x : Outcome) → DecidesAlone algorithm x → fixes algorithm x ≡ true
fixes_if DenyOverrides x alone = deny_if x (sym (any_deny x) ∙ alone [] (Deny ∷ []) (λ is. refl))
fixes_if OrderedDenyOverrides x alone = deny_if x (sym (any_deny x) ∙ alone [] (Deny ∷ []) (λ is. refl))
fixes_if PermitOverrides x alone = permit_if x (sym (any_permit x) ∙ alone [] (Permit ∷ []) (λ is. refl))
fixes_if OrderedPermitOverrides x alone = permit_if x (sym (any_permit x) ∙ alone [] (Permit ∷ []) (λ is. refl))
fixes_if DenyUnlessPermit x alone = unless_if is_permit Permit Deny (λ is. absurd (cc)) refl x (alone [] (Permit ∷ []) (λ is. refl))
fixes_if PermitUnlessDeny x alone = unless_if is_deny Deny Permit (λ is. absurd (cc)) refl x (alone [] (Deny ∷ []) (λ is. refl))
fixes_if FirstApplicable x alone = first_if x (alone [] (Permit ∷ []) (λ is. refl))

-- what fixes the result decides it alone, and nothing else does
pub fixes_alone : (algorithm : RuleAlg) (x : Outcome) → (fixes algorithm x ≡ true) ↔ DecidesAlone algorithm x
fixes_alone algorithm x = (alone_if algorithm x, fixes_if algorithm x)
