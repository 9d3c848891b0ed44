-- Tests ask for attributes alone.
use Rattle.std.proofs.Common.{◌≡◌, ℕ, zero, suc, Bool, true, false, List, [], ◌∷◌, ◌++◌, length, map, subst, sym, Option, Some, None}
use Rattle.std.specs.Prelude.{find, if◌then◌else◌, Result, Ok, Err, is_err}
use Rattle.std.specs.List.{AllByRecursion}
use Rattle.ent_combine.specs.Seen.{up_to_first}
use Rattle.ent_values.specs.declared.value.Value.{Value}
use Rattle.ent_values.specs.declared.value.Value.TheVariants as value
use Rattle.ent_functions.specs.Applied.{applied}
use Rattle.ent_functions.specs.declared.arg.Arg.{Arg}
use Rattle.ent_functions.specs.declared.arg.Arg.TheVariants.{One, Many, Fun}
use Rattle.ent_functions.specs.declared.arg.Fault.{Fault}
use Rattle.ent_functions.specs.declared.function.Function.{Function}
use Rattle.ent_policy.specs.Variables.{definition_of}
use Rattle.ent_policy.specs.declared.document.AllOf.{AllOf}
use Rattle.ent_policy.specs.declared.document.AnyOf.{AnyOf}
use Rattle.ent_policy.specs.declared.document.Designator.{Designator}
use Rattle.ent_policy.specs.declared.document.Effect.{Effect}
use Rattle.ent_policy.specs.declared.document.Target.{Target}
use Rattle.ent_policy.specs.declared.expression.Expression.{Expression}
use Rattle.ent_policy.specs.declared.expression.Expression.TheFolds.{fold-roll-Expression, ind-Expression, map-Expression}
use Rattle.ent_policy.specs.declared.expression.Expression.TheOpen.{Expression-F}
use Rattle.ent_policy.specs.declared.expression.Expression.TheViews.{roll-Expression}
use Rattle.ent_policy.specs.declared.expression.VariableDefinition.{VariableDefinition}
use Rattle.ent_policy.specs.declared.given.AssignmentExpression.{AssignmentExpression}
use Rattle.ent_policy.specs.declared.given.GivenExpression.{GivenExpression}
use Rattle.ent_policy.specs.declared.given.GivenExpressions.{GivenExpressions}
use Rattle.ent_request.proofs.Lists.{all_append}
use Rattle.ent_request.specs.Looks.{Looks}
use Rattle.ent_request.specs.Note.{Note, asks, fails, passed, passed_over}
use Rattle.ent_request.specs.Part.{Part, and_fails, and_then, mapped, notes_of, seen_parts, settled, whole, without_look}
use Rattle.ent_request.specs.Sources.{demanded, designated_values, missing}
use Rattle.ent_request.specs.declared.answer.Answer.{Answer}
use Rattle.ent_request.specs.declared.answer.Status.{Status}
use Rattle.ent_request.specs.declared.given.Given.{Given}
use Rattle.ent_request.specs.declared.request.Request.{Request}
use Rattle.ent_walk.specs.Expression.{application, arguments_of, defined_part, fault_unless, faults, is_result, meaning, meaning_step, meaning_with, variable_part}
use Rattle.ent_walk.specs.Given.{advice_after, assignment_part, effect_of, finished, given_in_turn, given_of, given_part, given_with, givens_part, goes_with, together, unfit_assignment}
use Rattle.ent_walk.specs.Rule.{condition_part, unfit_condition}
use Rattle.ent_walk.specs.Target.{all_match, all_of_part, any_of_part, is_indeterminate, is_match, is_no_match, match_part, one_matches, target_part}
use Rattle.ent_walk.specs.declared.evaluated.Evaluated.{Evaluated}
use Rattle.ent_walk.specs.declared.evaluated.Evaluated.TheVariants as evaluated
use Rattle.memo_bags.specs.Found.{IsAttribute}

-- a note that asks for an attribute, if it asks
abbrev pub OfAttribute : Note → Type 0
OfAttribute (asks question) = IsAttribute question
OfAttribute (fails cause) = Unit {0}
OfAttribute (passed cause) = Unit {0}

-- a part whose notes are such
abbrev pub Asks : {A : Type 0} → Part A → Type 0
Asks p = AllByRecursion OfAttribute p.notes

-- ---- parts

then-asks : {A B : Type 0} (p : Part A) (f : A → Part B) → Asks p → ((a : A) → Asks (f a)) → Asks (and_then p f)
then-asks p f first later = all_append OfAttribute p.notes (f p.value).notes first (later p.value)

fails-ask : {A : Type 0} (p : Part A) (failures : A → List Note) → Asks p → AllByRecursion OfAttribute (failures p.value) → Asks (and_fails p failures)
fails-ask p failures first later = all_append OfAttribute p.notes (failures p.value) first later

settled-asks : {A : Type 0} (is_so : A → Bool) (p : Part A) → Asks p → Asks (settled is_so p)
settled-asks is_so p all = at (is_so p.value) where
  inside : (ns : List Note) → AllByRecursion OfAttribute ns → AllByRecursion OfAttribute (map passed_over ns)
  inside [] h = tt
  inside (asks question ∷ ns) h = (h.0, inside ns h.1)
  inside (fails cause ∷ ns) h = (tt, inside ns h.1)
  inside (passed cause ∷ ns) h = (tt, inside ns h.1)

  at : (b : Bool) → AllByRecursion OfAttribute (if b then p.notes else map passed_over p.notes)
  at true = all
  at false = inside p.notes all

all_seen : {A : Type 0} (P : A → Type 0) (stop : A → Bool) (xs : List A) → AllByRecursion P xs → AllByRecursion P (up_to_first stop xs)
all_seen P stop [] all = tt
all_seen P stop (x ∷ xs) all = at (stop x) (all_seen P stop xs all.1) where
  at : (b : Bool) → AllByRecursion P (up_to_first stop xs) → AllByRecursion P (if b then x ∷ [] else x ∷ up_to_first stop xs)
  at true later = (all.0, tt)
  at false later = (all.0, later)

notes-ask : {A : Type 0} (ps : List (Part A)) → AllByRecursion (λ (p : Part A). Asks p) ps → AllByRecursion OfAttribute (notes_of ps)
notes-ask [] all = tt
notes-ask (p ∷ ps) all = all_append OfAttribute p.notes (notes_of ps) all.0 (notes-ask ps all.1)

whole-asks : {A B : Type 0} (stop : A → Bool) (of_values : List A → B) (ps : List (Part A)) → AllByRecursion (λ (p : Part A). Asks p) ps → Asks (whole stop of_values ps)
whole-asks {A} stop of_values ps all =
    notes-ask (seen_parts stop ps) (all_seen (λ (p : Part A). Asks p) (λ (p : Part A). stop p.value) ps all)

each-asks : {X A : Type 0} (part : X → Part A) → ((x : X) → Asks (part x)) → (xs : List X) → AllByRecursion (λ (p : Part A). Asks p) (map part xs)
each-asks part each [] = tt
each-asks part each (x ∷ xs) = (each x, each-asks part each xs)

-- ---- failures

missing-asks : (d : Designator) (vs : List Value) → AllByRecursion OfAttribute (missing d vs)
missing-asks d [] = at d.must_be_present where
  at : (b : Bool) → AllByRecursion OfAttribute (missing (record d { must_be_present = b }) [])
  at true = (tt, tt)
  at false = tt
missing-asks d (v ∷ vs) = tt

fault-asks : (f : Function) (o : Option Evaluated) (outcome : Result Arg Fault) → AllByRecursion OfAttribute (fault_unless f o outcome)
fault-asks f None (Ok a) = tt
fault-asks f None (Err fault) = (tt, tt)
fault-asks f (Some v) outcome = tt

unfit-asks : (e : Evaluated) → AllByRecursion OfAttribute (unfit_condition e)
unfit-asks (evaluated.Known (One (value.Boolean b))) = tt
unfit-asks (evaluated.Known (One (value.Text text))) = (tt, tt)
unfit-asks (evaluated.Known (One (value.Integer integer))) = (tt, tt)
unfit-asks (evaluated.Known (One (value.Date date))) = (tt, tt)
unfit-asks (evaluated.Known (One (value.AnyUri uri))) = (tt, tt)
unfit-asks (evaluated.Known (One (value.YearMonth duration))) = (tt, tt)
unfit-asks (evaluated.Known (One (value.Time time))) = (tt, tt)
unfit-asks (evaluated.Known (One (value.DateTime moment))) = (tt, tt)
unfit-asks (evaluated.Known (Many bag)) = (tt, tt)
unfit-asks (evaluated.Known (Fun function)) = (tt, tt)
unfit-asks (evaluated.Indeterminate status) = tt

unfit_assignment-asks : (e : Evaluated) → AllByRecursion OfAttribute (unfit_assignment e)
unfit_assignment-asks (evaluated.Known (One v)) = tt
unfit_assignment-asks (evaluated.Known (Many bag)) = tt
unfit_assignment-asks (evaluated.Known (Fun function)) = (tt, tt)
unfit_assignment-asks (evaluated.Indeterminate status) = tt

module _ (looks : Looks) (request : Request) where
  demanded-asks : (d : Designator) → Asks (demanded looks request d)
  demanded-asks d = (tt, missing-asks d (designated_values looks request d))

  -- ---- targets

  all_of-asks : (a : AllOf) → Asks (all_of_part looks request a)
  all_of-asks a =
      settled-asks is_indeterminate (whole is_no_match all_match (map (match_part looks request) a.matches))
      (whole-asks is_no_match all_match (map (match_part looks request) a.matches) (each-asks (match_part looks request) (λ m. demanded-asks m.designator) a.matches))

  any_of-asks : (a : AnyOf) → Asks (any_of_part looks request a)
  any_of-asks a =
      settled-asks is_indeterminate (whole is_match one_matches (map (all_of_part looks request) a.all_of))
      (whole-asks is_match one_matches (map (all_of_part looks request) a.all_of) (each-asks (all_of_part looks request) all_of-asks a.all_of))

  pub target-asks : (t : Target) → Asks (target_part looks request t)
  target-asks t =
      settled-asks is_indeterminate (whole is_no_match all_match (map (any_of_part looks request) t.any_of))
      (whole-asks is_no_match all_match (map (any_of_part looks request) t.any_of) (each-asks (any_of_part looks request) any_of-asks t.any_of))

  -- ---- expressions

  application-asks : (f : Function) (ps : List (Part Evaluated)) → AllByRecursion (λ (p : Part Evaluated). Asks p) ps → Asks (application f ps)
  application-asks f ps all =
      let arguments : Part (List Evaluated) = whole (is_result f) (λ vs. vs) ps in
      fails-ask arguments (faults f) (whole-asks (is_result f) (λ (vs : List Evaluated). vs) ps all)
      (fault-asks f (find (is_result f) arguments.value) (applied f (arguments_of arguments.value)))

  asks-by : {A : Type 0} (p q : Part A) → p ≡ q → Asks q → Asks p
  asks-by p q same all = subst (λ x. Asks x) (sym same) all

  module _ (refer : List ℕ → Part Evaluated) (each : (id : List ℕ) → Asks (refer id)) where
    abbrev MeaningAsks : Expression → Type 0
    MeaningAsks e = Asks (meaning_with looks request refer e)

    all_ask : (es : List ((e : Expression) × MeaningAsks e)) → AllByRecursion (λ (p : Part Evaluated). Asks p) (map (meaning_with looks request refer) (map (λ e. e.0) es))
    all_ask [] = tt
    all_ask (e ∷ es) = (e.1, all_ask es)

    meaning_rolls : (x : Expression-F Expression) → meaning_with looks request refer (roll-Expression x) ≡ meaning_step looks request refer (map-Expression Expression (Part Evaluated) (meaning_with looks request refer) x)
    meaning_rolls x = fold-roll-Expression (Part Evaluated) (meaning_step looks request refer) x

    layer-asks : (y : Expression-F ((e : Expression) × MeaningAsks e)) → MeaningAsks (roll-Expression (map-Expression ((e : Expression) × MeaningAsks e) Expression (λ e. e.0) y))
    layer-asks (Expression-F.Value v) = asks-by _ _ (meaning_rolls (Expression-F.Value v)) tt
    layer-asks (Expression-F.Designator d) = asks-by _ _ (meaning_rolls (Expression-F.Designator d)) (demanded-asks d)
    layer-asks (Expression-F.Variable id) = asks-by _ _ (meaning_rolls (Expression-F.Variable id)) (each id)
    layer-asks (Expression-F.Apply f arguments) =
        asks-by _ _ (meaning_rolls (Expression-F.Apply f (map (λ e. e.0) arguments)))
        (application-asks f (map (meaning_with looks request refer) (map (λ e. e.0) arguments)) (all_ask arguments))
    layer-asks (Expression-F.Function f) = asks-by _ _ (meaning_rolls (Expression-F.Function f)) tt

    meaning_with-asks : (e : Expression) → MeaningAsks e
    meaning_with-asks = ind-Expression MeaningAsks (λ x y is. subst (λ z. MeaningAsks (roll-Expression z)) is (layer-asks y))

  module _ (definitions : List VariableDefinition) where
    defined-asks : (part : Expression → Part Evaluated) → ((e : Expression) → Asks (part e)) → (o : Option VariableDefinition) → Asks (defined_part part o)
    defined-asks part each None = (tt, tt)
    defined-asks part each (Some d) = each d.expression

    variable-asks : (n : ℕ) (id : List ℕ) → Asks (variable_part looks request definitions n id)
    variable-asks zero id = (tt, tt)
    variable-asks (suc n) id =
        defined-asks (meaning_with looks request (variable_part looks request definitions n)) (meaning_with-asks (variable_part looks request definitions n) (variable-asks n)) (definition_of definitions id)

    expression-asks : (e : Expression) → Asks (meaning looks request definitions (length definitions) e)
    expression-asks = meaning_with-asks (variable_part looks request definitions (length definitions)) (variable-asks (length definitions))

    pub condition-asks : (condition : Option Expression) → Asks (condition_part looks request definitions condition)
    condition-asks None = tt
    condition-asks (Some e) =
        let p = meaning looks request definitions (length definitions) e in
        fails-ask p unfit_condition (expression-asks e) (unfit-asks p.value)

    -- ---- obligations and advice

    assignment-asks : (a : AssignmentExpression) → Asks (assignment_part looks request definitions a)
    assignment-asks a =
        let p = meaning looks request definitions (length definitions) a.expression in
        fails-ask p unfit_assignment (expression-asks a.expression) (unfit_assignment-asks p.value)

    turn-asks : {X A : Type 0} (part : X → Part (Result (List A) Status)) → ((x : X) → Asks (part x)) → (xs : List X) → Asks (given_in_turn part xs)
    turn-asks part each xs = whole-asks is_err together (map part xs) (each-asks part each xs)

    given-asks : (effect : Effect) (g : GivenExpression) → Asks (given_part looks request definitions effect g)
    given-asks effect g = at (goes_with effect g.effect) where
      at : (b : Bool) → Asks (if b then mapped (given_of g.id) (given_in_turn (assignment_part looks request definitions) g.assignments) else without_look (Ok []))
      at true = turn-asks (assignment_part looks request definitions) assignment-asks g.assignments
      at false = tt

    givens-ask : (effect : Effect) (gs : List GivenExpression) → Asks (givens_part looks request definitions effect gs)
    givens-ask effect gs = turn-asks (given_part looks request definitions effect) (given-asks effect) gs

    advice-asks : (given : GivenExpressions) (effect : Effect) (a : Answer) (obligations : Result (List Given) Status) → Asks (advice_after looks request definitions given effect a obligations)
    advice-asks given effect a (Ok obligations) = givens-ask effect given.advice
    advice-asks given effect a (Err status) = tt

    with-asks : (given : GivenExpressions) (effect : Option Effect) (a : Answer) → Asks (given_with looks request definitions given effect a)
    with-asks given None a = tt
    with-asks given (Some effect) a =
        then-asks (givens_part looks request definitions effect given.obligations) (advice_after looks request definitions given effect a) (givens-ask effect given.obligations) (advice-asks given effect a)

    pub finished-asks : (given : GivenExpressions) (a : Answer) → Asks (finished looks request definitions given a)
    finished-asks given a = with-asks given (effect_of a.decision) a
