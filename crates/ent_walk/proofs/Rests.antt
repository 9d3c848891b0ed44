-- What the parts of an answer rest on.
use Rattle.std.proofs.Common.{◌≡◌, ℕ, zero, suc, Bool, true, false, List, [], ◌∷◌, ◌++◌, length, map, refl, sym, ap, ap₂, ◌∙◌, subst, Option, Some, None}
use Rattle.std.specs.Prelude.{find, if◌then◌else◌, Result, Ok, Err, is_err}
use Rattle.std.specs.List.{AllByRecursion, list_any}
use Rattle.ent_combine.proofs.Combining.{any_up_to_first, seen_again}
use Rattle.ent_combine.proofs.Combining as combining
use Rattle.ent_combine.specs.Seen.{up_to_first}
use Rattle.ent_combine.specs.declared.outcome.RuleAlg.{RuleAlg}
use Rattle.ent_policy.specs.declared.document.AllOf.{AllOf}
use Rattle.ent_policy.specs.declared.document.AnyOf.{AnyOf}
use Rattle.ent_policy.specs.declared.document.Designator.{Designator}
use Rattle.ent_policy.specs.declared.document.Match.{Match}
use Rattle.ent_policy.specs.declared.document.Policy.{Policy}
use Rattle.ent_policy.specs.declared.document.Rule.{Rule}
use Rattle.ent_policy.specs.declared.document.Target.{Target}
use Rattle.ent_policy.specs.declared.key.DocKey.{DocKey}
use Rattle.ent_request.specs.declared.answer.Answer.{Answer}
use Rattle.ent_request.specs.Note.{Note, asks, fails, note_of_rule, note_within, passed, passed_over}
use Rattle.ent_request.specs.declared.question.Question.TheVariants.{Of}
use Rattle.ent_request.specs.declared.request.Request.{Request}
use Rattle.ent_walk.specs.declared.target.Targeted.{Targeted}
use Rattle.ent_walk.specs.declared.target.Targeted.TheVariants as is
use Rattle.ent_functions.specs.declared.function.Function.{Function}
use Rattle.ent_policy.specs.Variables.{definition_of}
use Rattle.ent_policy.specs.declared.expression.Expression.{Expression}
use Rattle.ent_policy.specs.declared.expression.Expression.TheOpen.{Expression-F}
use Rattle.ent_policy.specs.declared.expression.Expression.TheFolds.{fold-roll-Expression, ind-Expression, map-Expression}
use Rattle.ent_policy.specs.declared.expression.Expression.TheViews.{roll-Expression}
use Rattle.ent_policy.specs.declared.expression.VariableDefinition.{VariableDefinition}
use Rattle.ent_walk.specs.declared.evaluated.Evaluated.{Evaluated}
use Rattle.ent_walk.specs.declared.evaluated.Truth.{Truth}
use Rattle.ent_walk.specs.Expression.{application, bag_of, defined_part, faults, is_result, meaning, meaning_step, meaning_with, result_of, variable_part}
use Rattle.ent_policy.specs.declared.document.Effect.{Effect}
use Rattle.ent_policy.specs.declared.given.AssignmentExpression.{AssignmentExpression}
use Rattle.ent_policy.specs.declared.given.GivenExpression.{GivenExpression}
use Rattle.ent_policy.specs.declared.given.GivenExpressions.{GivenExpressions}
use Rattle.ent_request.specs.declared.answer.Status.{Status}
use Rattle.ent_request.specs.declared.given.Given.{Given}
use Rattle.ent_walk.specs.Given.{advice_after, assigned, assignment_part, effect_of, finished, given_in_turn, given_of, given_part, given_with, givens_part, goes_with, joined, together, unfit_assignment, with_own}
use Rattle.ent_walk.specs.proofs_only.Gathered.{judged_by}
use Rattle.ent_walk.specs.Judged.{has_failed, judgement_of, stops, with_target}
use Rattle.ent_walk.specs.Law.{FindsSame}
use Rattle.ent_request.specs.Looks.{Looks}
use Rattle.ent_walk.specs.Node.{children_after, combined, element, policy_key, policy_part, rules_part}
use Rattle.ent_request.specs.Part.{Part, after_look, and_fails, and_then, mapped, notes_of, of_rule, seen_parts, settled, values, whole}
use Rattle.ent_request.specs.Part.{within, without_look}
use Rattle.ent_walk.specs.Rule.{condition_part, decided, in_rule, rule_after, rule_part, truth_of, unfit_condition}
use Rattle.ent_request.specs.Sources.{asked_of, demanded, missing, values_part}
use Rattle.ent_walk.specs.Target.{all_match, all_of_part, any_of_part, is_indeterminate, is_match, is_no_match, match_part, matched}
use Rattle.ent_walk.specs.Target.{one_matches, target_part}
use Rattle.ent_walk.proofs.Children.{judged_seen}
use Rattle.ent_request.proofs.Lists.{first_looks, later_looks}

-- what is held, and a request
pub record World : Type 0 where
  pub looks : Looks
  pub request : Request

-- a question finds the same in both
abbrev pub Same : World → World → Note → Type 0
Same s t (asks question) = FindsSame s.looks s.request t.looks t.request question
Same s t (fails cause) = Unit {0}
Same s t (passed cause) = Unit {0}

-- a part is the same in both where what is asked for it is
abbrev pub Rests : {A : Type 0} → World → World → (World → Part A) → Type 0
Rests s t part = AllByRecursion (Same s t) (part s).notes → part t ≡ part s

pub and_then-rests : {A B : Type 0} (s t : World) (p : World → Part A) (f : World → A → Part B) → Rests s t p → ((a : A) → Rests s t (λ u. f u a)) → Rests s t (λ u. and_then (p u) (f u))
and_then-rests s t p f first later h =
    let one : p t ≡ p s = first (first_looks (Same s t) (p s).notes (f s (p s).value).notes h) in
    let two : f t (p s).value ≡ f s (p s).value = later (p s).value (later_looks (Same s t) (p s).notes (f s (p s).value).notes h) in
    ap (λ q. and_then q (f t)) one ∙ ap (λ q. record { value = q.value; notes = (p s).notes ++ q.notes }) two

pub mapped-rests : {A B : Type 0} (s t : World) (f : A → B) (p : World → Part A) → Rests s t p → Rests s t (λ u. mapped f (p u))
mapped-rests s t f p rests h = ap (mapped f) (rests h)

pub fails-rests : {A : Type 0} (s t : World) (p : World → Part A) (failures : A → List Note) → Rests s t p → Rests s t (λ u. and_fails (p u) failures)
fails-rests s t p failures rests h = ap (λ q. and_fails q failures) (rests (first_looks (Same s t) (p s).notes (failures (p s).value) h))

pub within-rests : {A : Type 0} (s t : World) (key : DocKey) (p : World → Part A) → Rests s t p → Rests s t (λ u. within key (p u))
within-rests s t key p rests h = ap (within key) (rests (inside (p s).notes h)) where
  inside : (ns : List Note) → AllByRecursion (Same s t) (map (note_within key) ns) → AllByRecursion (Same s t) ns
  inside [] h = tt
  inside (asks question ∷ ns) h = (h.0, inside ns h.1)
  inside (fails cause ∷ ns) h = (tt, inside ns h.1)
  inside (passed cause ∷ ns) h = (tt, inside ns h.1)

of_rule-rests : {A : Type 0} (s t : World) (id : List ℕ) (p : World → Part A) → Rests s t p → Rests s t (λ u. of_rule id (p u))
of_rule-rests s t id p rests h = ap (of_rule id) (rests (inside (p s).notes h)) where
  inside : (ns : List Note) → AllByRecursion (Same s t) (map (note_of_rule id) ns) → AllByRecursion (Same s t) ns
  inside [] h = tt
  inside (asks question ∷ ns) h = (h.0, inside ns h.1)
  inside (fails cause ∷ ns) h = (tt, inside ns h.1)
  inside (passed cause ∷ ns) h = (tt, inside ns h.1)

pub settled-rests : {A : Type 0} (s t : World) (is_so : A → Bool) (p : World → Part A) → Rests s t p → Rests s t (λ u. settled is_so (p u))
settled-rests s t is_so p rests h = ap (settled is_so) (rests (at (is_so (p s).value) h)) where
  inside : (ns : List Note) → AllByRecursion (Same s t) (map passed_over ns) → AllByRecursion (Same s t) ns
  inside [] h = tt
  inside (asks question ∷ ns) h = (h.0, inside ns h.1)
  inside (fails cause ∷ ns) h = (tt, inside ns h.1)
  inside (passed cause ∷ ns) h = (tt, inside ns h.1)

  at : (b : Bool) → AllByRecursion (Same s t) (if b then (p s).notes else map passed_over (p s).notes) → AllByRecursion (Same s t) (p s).notes
  at true h = h
  at false h = inside (p s).notes h

-- parts that each rest on their look-ups
abbrev pub AllRest : {X A : Type 0} → World → World → (World → X → Part A) → List X → Type 0
AllRest s t part [] = Unit {0}
AllRest s t part (x ∷ xs) = Rests s t (λ u. part u x) × AllRest s t part xs

pub each-rests : {X A : Type 0} (s t : World) (part : World → X → Part A) → ((x : X) → Rests s t (λ u. part u x)) → (xs : List X) → AllRest s t part xs
each-rests s t part rests [] = tt
each-rests s t part rests (x ∷ xs) = (rests x, each-rests s t part rests xs)

seen_at : {A : Type 0} (stop : A → Bool) (b : Bool) (s t : World) (p q : Part A) (ps qs : List (Part A)) → stop p.value ≡ b → (AllByRecursion (Same s t) p.notes → q ≡ p)
    → (AllByRecursion (Same s t) (notes_of (seen_parts stop ps)) → seen_parts stop qs ≡ seen_parts stop ps)
    → AllByRecursion (Same s t) (notes_of (if b then p ∷ [] else p ∷ seen_parts stop ps)) → seen_parts stop (q ∷ qs) ≡ (if b then p ∷ [] else p ∷ seen_parts stop ps)
seen_at stop true s t p q ps qs is same later h = rw (same (first_looks (Same s t) p.notes [] h), is) refl
seen_at stop false s t p q ps qs is same later h =
    rw (same (first_looks (Same s t) p.notes (notes_of (seen_parts stop ps)) h), is) (ap (λ rs. p ∷ rs) (later (later_looks (Same s t) p.notes (notes_of (seen_parts stop ps)) h)))

-- they are seen alike
pub seen-rests : {X A : Type 0} (s t : World) (stop : A → Bool) (part : World → X → Part A) (xs : List X) → AllRest s t part xs
    → AllByRecursion (Same s t) (notes_of (seen_parts stop (map (part s) xs))) → seen_parts stop (map (part t) xs) ≡ seen_parts stop (map (part s) xs)
seen-rests s t stop part [] each h = refl
seen-rests s t stop part (x ∷ xs) each h = seen_at stop (stop (part s x).value) s t (part s x) (part t x) (map (part s) xs) (map (part t) xs) refl each.0 (seen-rests s t stop part xs each.1) h

pub values-seen : {A : Type 0} (stop : A → Bool) (ps : List (Part A)) → values (seen_parts stop ps) ≡ up_to_first stop (values ps)
values-seen stop [] = refl
values-seen stop (p ∷ ps) = values_at (stop p.value) stop p ps (values-seen stop ps) where
  values_at : {A : Type 0} (b : Bool) (stop : A → Bool) (p : Part A) (ps : List (Part A)) → values (seen_parts stop ps) ≡ up_to_first stop (values ps)
      → values (if b then p ∷ [] else p ∷ seen_parts stop ps) ≡ (if b then p.value ∷ [] else p.value ∷ up_to_first stop (values ps))
  values_at true stop p ps later = refl
  values_at false stop p ps later = ap (λ vs. p.value ∷ vs) later

-- a whole of parts whose value rests on those that are seen alone
pub whole-rests : {X A B : Type 0} (s t : World) (stop : A → Bool) (part : World → X → Part A) (of_values : List A → B) → ((vs : List A) → of_values vs ≡ of_values (up_to_first stop vs)) → (xs : List X) → AllRest s t part xs
    → Rests s t (λ u. whole stop of_values (map (part u) xs))
whole-rests s t stop part of_values enough xs each h =
    let same : seen_parts stop (map (part t) xs) ≡ seen_parts stop (map (part s) xs) = seen-rests s t stop part xs each h in
    let by_seen = λ (u : World). enough (values (map (part u) xs)) ∙ ap of_values (sym (values-seen stop (map (part u) xs))) in
    ap (λ v. record { value = v; notes = notes_of (seen_parts stop (map (part t) xs)) }) (by_seen t)
    ∙ ap (λ ps. record { value = of_values (values ps); notes = notes_of ps }) same
    ∙ ap (λ v. record { value = v; notes = notes_of (seen_parts stop (map (part s) xs)) }) (sym (by_seen s))

-- ---- values of designators

values-rest : (s t : World) (d : Designator) → Rests s t (λ u. values_part u.looks u.request d)
values-rest s t d h = ap (λ vs. after_look (Of (asked_of d)) (without_look vs)) (sym h.0)

demanded-rests : (s t : World) (d : Designator) → Rests s t (λ u. demanded u.looks u.request d)
demanded-rests s t d = fails-rests s t (λ u. values_part u.looks u.request d) (missing d) (values-rest s t d)

-- ---- targets

pub all_match-seen : (ts : List Targeted) → all_match ts ≡ all_match (up_to_first is_no_match ts)
all_match-seen ts = at (list_any is_no_match ts) refl where
  at : (b : Bool) → list_any is_no_match ts ≡ b → all_match ts ≡ all_match (up_to_first is_no_match ts)
  at true is = rw (is, any_up_to_first is_no_match ts, is) refl
  at false is = sym (ap all_match (combining.whole is_no_match ts is))

pub one_matches-seen : (ts : List Targeted) → one_matches ts ≡ one_matches (up_to_first is_match ts)
one_matches-seen ts = at (list_any is_match ts) refl where
  at : (b : Bool) → list_any is_match ts ≡ b → one_matches ts ≡ one_matches (up_to_first is_match ts)
  at true is = rw (is, any_up_to_first is_match ts, is) refl
  at false is = sym (ap one_matches (combining.whole is_match ts is))

match-rests : (s t : World) (m : Match) → Rests s t (λ u. match_part u.looks u.request m)
match-rests s t m = mapped-rests s t (matched m) (λ u. demanded u.looks u.request m.designator) (demanded-rests s t m.designator)

all_of-rests : (s t : World) (a : AllOf) → Rests s t (λ u. all_of_part u.looks u.request a)
all_of-rests s t a =
    settled-rests s t is_indeterminate (λ u. whole is_no_match all_match (map (λ m. match_part u.looks u.request m) a.matches))
    (whole-rests s t is_no_match (λ u m. match_part u.looks u.request m) all_match all_match-seen a.matches (each-rests s t (λ u m. match_part u.looks u.request m) (match-rests s t) a.matches))

any_of-rests : (s t : World) (a : AnyOf) → Rests s t (λ u. any_of_part u.looks u.request a)
any_of-rests s t a =
    settled-rests s t is_indeterminate (λ u. whole is_match one_matches (map (λ m. all_of_part u.looks u.request m) a.all_of))
    (whole-rests s t is_match (λ u m. all_of_part u.looks u.request m) one_matches one_matches-seen a.all_of (each-rests s t (λ u m. all_of_part u.looks u.request m) (all_of-rests s t) a.all_of))

pub target-rests : (s t : World) (target : Target) → Rests s t (λ u. target_part u.looks u.request target)
target-rests s t target =
    settled-rests s t is_indeterminate (λ u. whole is_no_match all_match (map (λ m. any_of_part u.looks u.request m) target.any_of))
    (whole-rests s t is_no_match (λ u m. any_of_part u.looks u.request m) all_match all_match-seen target.any_of (each-rests s t (λ u m. any_of_part u.looks u.request m) (any_of-rests s t) target.any_of))

-- ---- expressions

pub find-seen : {A : Type 0} (p : A → Bool) (vs : List A) → find p (up_to_first p vs) ≡ find p vs
find-seen p [] = refl
find-seen p (v ∷ vs) = find_at (p v) p v vs refl (find-seen p vs) where
  find_at : {A : Type 0} (b : Bool) (p : A → Bool) (v : A) (vs : List A) → p v ≡ b → find p (up_to_first p vs) ≡ find p vs → find p (if b then v ∷ [] else v ∷ up_to_first p vs) ≡ (if p v then Some v else find p vs)
  find_at true p v vs is later = rw is refl
  find_at false p v vs is later = rw is later

none-whole : {A : Type 0} (p : A → Bool) (vs : List A) → find p vs ≡ None → up_to_first p vs ≡ vs
none-whole p [] none = refl
none-whole p (v ∷ vs) none = none_at (p v) p v vs (none-whole p vs) none where
  none_at : {A : Type 0} (b : Bool) (p : A → Bool) (v : A) (vs : List A) → (find p vs ≡ None → up_to_first p vs ≡ vs) → (if b then Some v else find p vs) ≡ None → (if b then v ∷ [] else v ∷ up_to_first p vs) ≡ v ∷ vs
  none_at true p v vs later none = absurd (cc)
  none_at false p v vs later none = ap (λ ws. v ∷ ws) (later none)

found_first : (f : Function) (vs : List Evaluated) → result_of f vs ≡ result_of f (up_to_first (is_result f) vs)
found_first f vs = found_at (find (is_result f) vs) refl where
  found_at : (o : Option Evaluated) → find (is_result f) vs ≡ o → result_of f vs ≡ result_of f (up_to_first (is_result f) vs)
  found_at (Some v) is = rw (is, find-seen (is_result f) vs, is) refl
  found_at None is = sym (ap (result_of f) (none-whole (is_result f) vs is))

faults_first : (f : Function) (vs : List Evaluated) → faults f vs ≡ faults f (up_to_first (is_result f) vs)
faults_first f vs = at (find (is_result f) vs) refl where
  at : (o : Option Evaluated) → find (is_result f) vs ≡ o → faults f vs ≡ faults f (up_to_first (is_result f) vs)
  at (Some v) is = rw (is, find-seen (is_result f) vs, is) refl
  at None is = sym (ap (faults f) (none-whole (is_result f) vs is))

-- a function of arguments rests on what they rest on
application-rests : {X : Type 0} (s t : World) (f : Function) (part : World → X → Part Evaluated) (xs : List X) → AllRest s t part xs → Rests s t (λ u. application f (map (part u) xs))
application-rests s t f part xs each h =
    ap (λ (p : Part (Evaluated × List Note)). record { value = p.value.0; notes = p.notes ++ p.value.1 })
    (whole-rests s t (is_result f) part (λ vs. (result_of f vs, faults f vs)) (λ vs. ap₂ (λ v ns. (v, ns)) (found_first f vs) (faults_first f vs)) xs each
    (first_looks (Same s t) (notes_of (seen_parts (is_result f) (map (part s) xs))) (faults f (values (map (part s) xs))) h))

-- a part that is another one rests on its look-ups
pub rests-by : {A : Type 0} (s t : World) (p q : World → Part A) → ((u : World) → p u ≡ q u) → Rests s t q → Rests s t p
rests-by s t p q e rests h = e t ∙ rests (subst (λ x. AllByRecursion (Same s t) x.notes) (e s) h) ∙ sym (e s)

module _ (s t : World) (refer : World → List ℕ → Part Evaluated) (each : (id : List ℕ) → Rests s t (λ u. refer u id)) where
  abbrev MeaningRests : Expression → Type 0
  MeaningRests e = Rests s t (λ u. meaning_with u.looks u.request (refer u) e)

  all_rest : (es : List ((e : Expression) × MeaningRests e)) → AllRest s t (λ u e. meaning_with u.looks u.request (refer u) e) (map (λ e. e.0) es)
  all_rest [] = tt
  all_rest (e ∷ es) = (e.1, all_rest es)

  meaning_rolls : (x : Expression-F Expression) (u : World) → meaning_with u.looks u.request (refer u) (roll-Expression x) ≡ meaning_step u.looks u.request (refer u) (map-Expression Expression (Part Evaluated) (meaning_with u.looks u.request (refer u)) x)
  meaning_rolls x u = fold-roll-Expression (Part Evaluated) (meaning_step u.looks u.request (refer u)) x

  layer-rests : (y : Expression-F ((e : Expression) × MeaningRests e)) → MeaningRests (roll-Expression (map-Expression ((e : Expression) × MeaningRests e) Expression (λ e. e.0) y))
  layer-rests (Expression-F.Value v) = rests-by s t _ _ (meaning_rolls (Expression-F.Value v)) (λ h. refl)
  layer-rests (Expression-F.Designator d) = rests-by s t _ _ (meaning_rolls (Expression-F.Designator d)) (mapped-rests s t (bag_of d) (λ u. demanded u.looks u.request d) (demanded-rests s t d))
  layer-rests (Expression-F.Variable id) = rests-by s t _ _ (meaning_rolls (Expression-F.Variable id)) (each id)
  layer-rests (Expression-F.Apply f arguments) =
      rests-by s t _ _ (meaning_rolls (Expression-F.Apply f (map (λ e. e.0) arguments)))
      (application-rests s t f (λ u e. meaning_with u.looks u.request (refer u) e) (map (λ e. e.0) arguments) (all_rest arguments))
  layer-rests (Expression-F.Function f) = rests-by s t _ _ (meaning_rolls (Expression-F.Function f)) (λ h. refl)

  pub meaning_with-rests : (e : Expression) → MeaningRests e
  meaning_with-rests = ind-Expression MeaningRests (λ x y is. subst (λ z. MeaningRests (roll-Expression z)) is (layer-rests y))

defined-rests : (s t : World) (part : World → Expression → Part Evaluated) → ((e : Expression) → Rests s t (λ u. part u e)) → (o : Option VariableDefinition) → Rests s t (λ u. defined_part (part u) o)
defined-rests s t part each None h = refl
defined-rests s t part each (Some d) h = each d.expression h

variable-rests : (s t : World) (definitions : List VariableDefinition) (n : ℕ) (id : List ℕ) → Rests s t (λ u. variable_part u.looks u.request definitions n id)
variable-rests s t definitions zero id = λ h. refl
variable-rests s t definitions (suc n) id =
    defined-rests s t (λ u e. meaning u.looks u.request definitions n e) (meaning_with-rests s t (λ u. variable_part u.looks u.request definitions n) (variable-rests s t definitions n)) (definition_of definitions id)

pub condition-rests : (s t : World) (definitions : List VariableDefinition) (condition : Option Expression) → Rests s t (λ u. condition_part u.looks u.request definitions condition)
condition-rests s t definitions None = λ h. refl
condition-rests s t definitions (Some e) =
    mapped-rests s t truth_of (λ u. and_fails (meaning u.looks u.request definitions (length definitions) e) unfit_condition)
    (fails-rests s t (λ u. meaning u.looks u.request definitions (length definitions) e) unfit_condition
    (meaning_with-rests s t (λ u. variable_part u.looks u.request definitions (length definitions)) (variable-rests s t definitions (length definitions)) e))

-- ---- obligations and advice

pub together-seen : {A : Type 0} (vs : List (Result (List A) Status)) → together vs ≡ together (up_to_first is_err vs)
together-seen [] = refl
together-seen (Err status ∷ vs) = refl
together-seen (Ok xs ∷ vs) = ap (joined (Ok xs)) (together-seen vs)

module _ (s t : World) (definitions : List VariableDefinition) where
  expression-rests : (e : Expression) → Rests s t (λ u. meaning u.looks u.request definitions (length definitions) e)
  expression-rests = meaning_with-rests s t (λ u. variable_part u.looks u.request definitions (length definitions)) (variable-rests s t definitions (length definitions))

  assignment-rests : (a : AssignmentExpression) → Rests s t (λ u. assignment_part u.looks u.request definitions a)
  assignment-rests a =
      mapped-rests s t (assigned a) (λ u. and_fails (meaning u.looks u.request definitions (length definitions) a.expression) unfit_assignment)
      (fails-rests s t (λ u. meaning u.looks u.request definitions (length definitions) a.expression) unfit_assignment (expression-rests a.expression))

  turn-rests : {X A : Type 0} (part : World → X → Part (Result (List A) Status)) → ((x : X) → Rests s t (λ u. part u x)) → (xs : List X) → Rests s t (λ u. given_in_turn (part u) xs)
  turn-rests part each xs = whole-rests s t is_err part together together-seen xs (each-rests s t part each xs)

  given-rests : (effect : Effect) (g : GivenExpression) → Rests s t (λ u. given_part u.looks u.request definitions effect g)
  given-rests effect g = at (goes_with effect g.effect) where
    at : (b : Bool) → Rests s t (λ u. if b then mapped (given_of g.id) (given_in_turn (assignment_part u.looks u.request definitions) g.assignments) else without_look (Ok []))
    at true = mapped-rests s t (given_of g.id) (λ u. given_in_turn (assignment_part u.looks u.request definitions) g.assignments) (turn-rests (λ u a. assignment_part u.looks u.request definitions a) assignment-rests g.assignments)
    at false = λ h. refl

  givens-rest : (effect : Effect) (gs : List GivenExpression) → Rests s t (λ u. givens_part u.looks u.request definitions effect gs)
  givens-rest effect gs = turn-rests (λ u g. given_part u.looks u.request definitions effect g) (given-rests effect) gs

  advice-rests : (given : GivenExpressions) (effect : Effect) (a : Answer) (obligations : Result (List Given) Status) → Rests s t (λ u. advice_after u.looks u.request definitions given effect a obligations)
  advice-rests given effect a (Ok obligations) = mapped-rests s t (with_own effect a obligations) (λ u. givens_part u.looks u.request definitions effect given.advice) (givens-rest effect given.advice)
  advice-rests given effect a (Err status) = λ h. refl

  with-rests : (given : GivenExpressions) (effect : Option Effect) (a : Answer) → Rests s t (λ u. given_with u.looks u.request definitions given effect a)
  with-rests given None a = λ h. refl
  with-rests given (Some effect) a =
      and_then-rests s t (λ u. givens_part u.looks u.request definitions effect given.obligations) (λ u. advice_after u.looks u.request definitions given effect a) (givens-rest effect given.obligations) (advice-rests given effect a)

  pub finished-rests : (given : GivenExpressions) (a : Answer) → Rests s t (λ u. finished u.looks u.request definitions given a)
  finished-rests given a = with-rests given (effect_of a.decision) a

-- ---- rules

rule_after-rests : (s t : World) (own : World → Answer → Part Answer) → ((a : Answer) → Rests s t (λ u. own u a)) → (condition : World → Part Truth) → Rests s t condition → (path : List DocKey) (rule : Rule) (targeted : Targeted) → Rests s t (λ u. rule_after (own u) (condition u) path rule targeted)
rule_after-rests s t own owns condition rests path rule is.Match = and_then-rests s t (λ u. mapped (decided path rule) (condition u)) own (mapped-rests s t (decided path rule) condition rests) owns
rule_after-rests s t own owns condition rests path rule is.NoMatch = λ h. refl
rule_after-rests s t own owns condition rests path rule (is.Indeterminate status) = λ h. refl

in_rule-rests : (s t : World) (definitions : List VariableDefinition) (path : List DocKey) (rule : Rule) → Rests s t (λ u. in_rule u.looks u.request definitions path rule)
in_rule-rests s t definitions path rule =
    and_then-rests s t (λ u. target_part u.looks u.request rule.target) (λ u. rule_after (finished u.looks u.request definitions rule.given) (condition_part u.looks u.request definitions rule.condition) path rule) (target-rests s t rule.target)
    (rule_after-rests s t (λ u. finished u.looks u.request definitions rule.given) (finished-rests s t definitions rule.given) (λ u. condition_part u.looks u.request definitions rule.condition) (condition-rests s t definitions rule.condition) path rule)

pub rule-rests : (s t : World) (definitions : List VariableDefinition) (path : List DocKey) (rule : Rule) → Rests s t (λ u. rule_part u.looks u.request definitions path rule)
rule-rests s t definitions path rule = of_rule-rests s t rule.id (λ u. in_rule u.looks u.request definitions path rule) (in_rule-rests s t definitions path rule)

-- ---- elements

pub children_seen : (here : List DocKey) (algorithm : RuleAlg) (answers : List Answer) → judgement_of here algorithm answers ≡ judgement_of here algorithm (up_to_first (stops algorithm) answers)
children_seen here algorithm answers =
    sym (judged_seen here algorithm answers) ∙ ap (judged_by here algorithm) (sym (seen_again (stops algorithm) answers)) ∙ judged_seen here algorithm (up_to_first (stops algorithm) answers)

pub combined-rests : {X : Type 0} (s t : World) (here : List DocKey) (algorithm : RuleAlg) (part : World → X → Part Answer) (xs : List X) → AllRest s t part xs → Rests s t (λ u. combined here algorithm (map (part u) xs))
combined-rests s t here algorithm part xs each = whole-rests s t (stops algorithm) part (judgement_of here algorithm) (children_seen here algorithm) xs each

children-rest : (s t : World) (own : World → Answer → Part Answer) → ((a : Answer) → Rests s t (λ u. own u a)) → (children : World → Part Answer) → Rests s t children → (targeted : Targeted)
    → Rests s t (λ u. children_after (own u) (children u) targeted)
children-rest s t own owns children rests is.Match = and_then-rests s t children own rests owns
children-rest s t own owns children rests is.NoMatch = λ h. refl
children-rest s t own owns children rests (is.Indeterminate status) = mapped-rests s t (with_target (is.Indeterminate status)) children rests

pub element-rests : (s t : World) (key : DocKey) (target : Target) (own : World → Answer → Part Answer) → ((a : Answer) → Rests s t (λ u. own u a)) → (children : World → Part Answer) → Rests s t children
    → Rests s t (λ u. element key (target_part u.looks u.request target) (children u) (own u))
element-rests s t key target own owns children rests =
    and_then-rests s t (λ u. within key (target_part u.looks u.request target)) (λ u targeted. within key (children_after (own u) (settled has_failed (children u)) targeted))
    (within-rests s t key (λ u. target_part u.looks u.request target) (target-rests s t target))
    (λ targeted. within-rests s t key (λ u. children_after (own u) (settled has_failed (children u)) targeted)
    (children-rest s t own owns (λ u. settled has_failed (children u)) (settled-rests s t has_failed children rests) targeted))

pub policy-rests : (s t : World) (path : List DocKey) (policy : Policy) → Rests s t (λ u. policy_part u.looks u.request path policy)
policy-rests s t path policy =
    let here = path ++ policy_key policy ∷ [] in
    element-rests s t (policy_key policy) policy.target (λ u. finished u.looks u.request policy.variables policy.given) (finished-rests s t policy.variables policy.given) (λ u. rules_part u.looks u.request here policy)
    (combined-rests s t here policy.algorithm (λ u r. rule_part u.looks u.request policy.variables here r) policy.rules (each-rests s t (λ u r. rule_part u.looks u.request policy.variables here r) (rule-rests s t policy.variables here) policy.rules))
