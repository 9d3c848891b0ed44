-- An Indeterminate match, expression or condition has the status of the first cause of it; one that isn't has none.
use Rattle.std.proofs.Common.{◌≡◌, ℕ, zero, suc, Bool, true, false, List, [], ◌∷◌, ◌++◌, length, map, refl, sym, ap}
use Rattle.std.proofs.Common.{ap₂, ◌∙◌, subst, Option, Some, None, Result, Ok, Err}
use Rattle.std.specs.Prelude.{find, if◌then◌else◌, is_some, option_map, unwrap_or}
use Rattle.std.specs.Option.{option_or}
use Rattle.std.specs.List.{list_any}
use Rattle.ent_combine.proofs.Combining.{whole as up_to_none}
use Rattle.ent_combine.specs.Seen.{up_to_first}
use Rattle.ent_combine.specs.declared.outcome.Outcome.{Outcome}
use Rattle.ent_combine.specs.declared.outcome.Outcome.TheVariants as outcome
use Rattle.ent_values.specs.declared.value.Value.{Value}
use Rattle.ent_values.specs.declared.value.Value.TheVariants as value
use Rattle.ent_functions.specs.Applied.{applied}
use Rattle.ent_functions.specs.declared.arg.Arg.{Arg}
use Rattle.ent_functions.specs.declared.arg.Arg.TheVariants as arg
use Rattle.ent_functions.specs.declared.arg.Fault.{Fault}
use Rattle.ent_functions.specs.declared.function.Function.{Function}
use Rattle.ent_policy.specs.Variables.{definition_of}
use Rattle.ent_policy.specs.declared.document.AllOf.{AllOf}
use Rattle.ent_policy.specs.declared.document.AnyOf.{AnyOf}
use Rattle.ent_policy.specs.declared.document.Designator.{Designator}
use Rattle.ent_policy.specs.declared.document.Match.{Match}
use Rattle.ent_policy.specs.declared.document.Target.{Target}
use Rattle.ent_policy.specs.declared.expression.Expression.{Expression}
use Rattle.ent_policy.specs.declared.expression.Expression.TheOpen.{Expression-F}
use Rattle.ent_policy.specs.declared.expression.Expression.TheFolds.{fold-roll-Expression, ind-Expression}
use Rattle.ent_policy.specs.declared.expression.Expression.TheFolds.{map-Expression}
use Rattle.ent_policy.specs.declared.expression.Expression.TheViews.{roll-Expression}
use Rattle.ent_policy.specs.declared.expression.VariableDefinition.{VariableDefinition}
use Rattle.ent_request.specs.declared.answer.Answer.{Answer}
use Rattle.ent_request.specs.declared.answer.Status.{Status}
use Rattle.ent_request.specs.declared.answer.Status.TheVariants.{MissingAttribute}
use Rattle.ent_request.specs.declared.cause.Cause.{Cause}
use Rattle.ent_request.specs.declared.cause.What.TheVariants as what
use Rattle.ent_walk.specs.declared.evaluated.Evaluated.{Evaluated}
use Rattle.ent_walk.specs.declared.evaluated.Evaluated.TheVariants as evaluated
use Rattle.ent_walk.specs.declared.evaluated.Truth.{Truth}
use Rattle.ent_walk.specs.declared.evaluated.Truth.TheVariants as truth
use Rattle.ent_request.specs.declared.request.Request.{Request}
use Rattle.ent_walk.specs.declared.target.Targeted.{Targeted}
use Rattle.ent_walk.specs.declared.target.Targeted.TheVariants as is
use Rattle.ent_walk.specs.Expression.{application, arguments_of, bag_of, defined_part, evaluated_of, fault_in}
use Rattle.ent_walk.specs.Expression.{fault_unless, faults, is_result, meaning, meaning_step, meaning_with, settles}
use Rattle.ent_walk.specs.Expression.{variable_part}
use Rattle.ent_request.specs.Looks.{Looks}
use Rattle.ent_request.specs.Note.{Note, asks, failing, fails, first_cause, passed, passed_over}
use Rattle.ent_request.specs.Part.{Part, and_fails, and_then, mapped, notes_of, seen_parts, settled, values, whole}
use Rattle.ent_walk.specs.Rule.{condition_part, truth_of, unfit_condition}
use Rattle.ent_request.specs.Sources.{asked_of, designated_values, missing}
use Rattle.ent_walk.specs.Target.{all_match, all_of_part, all_part, any_of_part, first_indeterminate, is_indeterminate}
use Rattle.ent_walk.specs.Target.{is_match, is_no_match, is_true, match_part, matched, one_matches, one_part, target_part}
use Rattle.ent_walk.proofs.Rests.{values-seen}

-- ---- the statuses of what is Indeterminate

abbrev pub of_decision : Outcome → Status → Option Status
of_decision (outcome.Ind kind) status = Some status
of_decision decision status = None

abbrev pub of_answer : Answer → Option Status
of_answer a = of_decision a.decision a.status

abbrev pub of_target : Targeted → Option Status
of_target (is.Indeterminate status) = Some status
of_target t = None

abbrev pub of_evaluated : Evaluated → Option Status
of_evaluated (evaluated.Indeterminate status) = Some status
of_evaluated (evaluated.Known a) = None

abbrev pub of_truth : Truth → Option Status
of_truth (truth.Indeterminate status) = Some status
of_truth t = None

abbrev pub of_given : {A : Type 0} → Result (List A) Status → Option Status
of_given (Ok xs) = None
of_given (Err status) = Some status

-- the status of the first of several that is Indeterminate
abbrev pub first_of : {A : Type 0} → (A → Option Status) → List A → Option Status
first_of of [] = None
first_of of (v ∷ vs) = option_or (of v) (first_of of vs)

pub or_none : {A : Type 0} (o : Option A) → option_or o None ≡ o
or_none None = refl
or_none (Some x) = refl

-- ---- parts of which the first cause that is noted tells the status

-- the status of the first cause
abbrev pub status_in : List Note → Option Status
status_in notes = option_map (λ (c : Cause). c.status) (first_cause notes)

pub status_append : (ns ms : List Note) → status_in (ns ++ ms) ≡ option_or (status_in ns) (status_in ms)
status_append [] ms = refl
status_append (asks question ∷ ns) ms = status_append ns ms
status_append (fails cause ∷ ns) ms = refl
status_append (passed cause ∷ ns) ms = status_append ns ms

abbrev pub IsTold : {A : Type 0} → (A → Option Status) → Part A → Type 0
IsTold of p = status_in p.notes ≡ of p.value

abbrev pub AllTold : {A : Type 0} → (A → Option Status) → List (Part A) → Type 0
AllTold of [] = Unit {0}
AllTold of (p ∷ ps) = IsTold of p × AllTold of ps

pub each-told : {X A : Type 0} (of : A → Option Status) (part : X → Part A) → ((x : X) → IsTold of (part x))
    → (xs : List X) → AllTold of (map part xs)
each-told of part each [] = tt
each-told of part each (x ∷ xs) = (each x, each-told of part each xs)

pub told-notes : {A : Type 0} (of : A → Option Status) (ps : List (Part A)) → AllTold of ps
    → status_in (notes_of ps) ≡ first_of of (values ps)
told-notes of [] each = refl
told-notes of (p ∷ ps) each = status_append p.notes (notes_of ps) ∙ ap₂ option_or each.0 (told-notes of ps each.1)

seen-told : {A : Type 0} (of : A → Option Status) (stop : A → Bool) (ps : List (Part A)) → AllTold of ps
    → AllTold of (seen_parts stop ps)
seen-told of stop [] each = tt
seen-told of stop (p ∷ ps) each = at (stop p.value) (seen-told of stop ps each.1) where
  at : (b : Bool) → AllTold of (seen_parts stop ps) → AllTold of (if b then p ∷ [] else p ∷ seen_parts stop ps)
  at true later = (each.0, tt)
  at false later = (each.0, later)

-- of several, the first cause is that of the first that is seen to be Indeterminate
pub told-seen : {A : Type 0} (of : A → Option Status) (stop : A → Bool) (ps : List (Part A)) → AllTold of ps
    → status_in (notes_of (seen_parts stop ps)) ≡ first_of of (up_to_first stop (values ps))
told-seen of stop ps each =
    told-notes of (seen_parts stop ps) (seen-told of stop ps each) ∙ ap (first_of of) (values-seen stop ps)

pub fails-told : {A B : Type 0} (of : A → Option Status) (to : B → Option Status) (g : A → B) (p : Part A)
    (failures : A → List Note)
    → IsTold of p
    → ((v : A) → option_or (of v) (status_in (failures v)) ≡ to (g v)) → IsTold to (mapped g (and_fails p failures))
fails-told of to g p failures told tells =
    status_append p.notes (failures p.value) ∙ ap (λ o. option_or o (status_in (failures p.value))) told ∙ tells p.value

pub then-told : {A B : Type 0} (of : A → Option Status) (to : B → Option Status) (p : Part A) (f : A → Part B)
    → IsTold of p
    → ((v : A) → option_or (of v) (status_in (f v).notes) ≡ to (f v).value) → IsTold to (and_then p f)
then-told of to p f told tells =
    status_append p.notes (f p.value).notes ∙ ap (λ o. option_or o (status_in (f p.value).notes)) told ∙ tells p.value

none_passed : (ns : List Note) → status_in (map passed_over ns) ≡ None
none_passed [] = refl
none_passed (asks question ∷ ns) = none_passed ns
none_passed (fails cause ∷ ns) = none_passed ns
none_passed (passed cause ∷ ns) = none_passed ns

-- the same of an Indeterminate alone, whatever fails in what isn't
abbrev pub IsFirst : {A : Type 0} → (A → Option Status) → Part A → Type 0
IsFirst of p = (status : Status) → of p.value ≡ Some status → status_in p.notes ≡ Some status

-- then what fails in what isn't is passed over
pub settled-told : {A : Type 0} (of : A → Option Status) (is_so : A → Bool) (p : Part A)
    → is_so p.value ≡ is_some (of p.value) → IsFirst of p → IsTold of (settled is_so p)
settled-told of is_so p agree first = at (is_so p.value) (of p.value) agree first where
  at : (b : Bool) (o : Option Status) → b ≡ is_some o → ((status : Status) → o ≡ Some status → status_in p.notes ≡ Some status)
      → status_in (if b then p.notes else map passed_over p.notes) ≡ o
  at true (Some status) agree first = first status refl
  at false None agree first = none_passed p.notes
  at true None agree first = absurd (cc)
  at false (Some status) agree first = absurd (cc)

-- a whole that is Indeterminate as the first of its parts that is seen to be so
pub whole-first : {A B : Type 0} (of : A → Option Status) (to : B → Option Status) (stop : A → Bool)
    (of_values : List A → B)
    → ((vs : List A) (status : Status) → to (of_values vs) ≡ Some status → first_of of (up_to_first stop vs) ≡ Some status)
    → (ps : List (Part A)) → AllTold of ps → IsFirst to (whole stop of_values ps)
whole-first of to stop of_values first ps each status e = told-seen of stop ps each ∙ first (values ps) status e

target-agree : (t : Targeted) → is_indeterminate t ≡ is_some (of_target t)
target-agree is.Match = refl
target-agree is.NoMatch = refl
target-agree (is.Indeterminate status) = refl

-- ---- targets

matched-told : (m : Match) (vs : List Value) → status_in (missing m.designator vs) ≡ of_target (matched m vs)
matched-told m [] = at m.designator.must_be_present where
  at : (b : Bool)
      → status_in (if b then failing (what.Missing (asked_of m.designator)) else [])
      ≡ of_target (if b then is.Indeterminate MissingAttribute else is.NoMatch)
  at true = refl
  at false = refl
matched-told m (v ∷ vs) = at (list_any (is_true m.function m.literal) (v ∷ vs)) where
  at : (b : Bool) → None ≡ of_target (if b then is.Match else is.NoMatch)
  at true = refl
  at false = refl

match-told : (looks : Looks) (request : Request) (m : Match) → IsTold of_target (match_part looks request m)
match-told looks request m = matched-told m (designated_values looks request m.designator)

first_ind : (ts : List Targeted) (otherwise : Targeted)
    → of_target (first_indeterminate ts otherwise) ≡ option_or (first_of of_target ts) (of_target otherwise)
first_ind [] otherwise = refl
first_ind (is.Match ∷ ts) otherwise = first_ind ts otherwise
first_ind (is.NoMatch ∷ ts) otherwise = first_ind ts otherwise
first_ind (is.Indeterminate status ∷ ts) otherwise = refl

-- what has to match altogether is Indeterminate as the first of those that are seen
all-first : (ts : List Targeted) (status : Status) → of_target (all_match ts) ≡ Some status
    → first_of of_target (up_to_first is_no_match ts) ≡ Some status
all-first ts status = at (list_any is_no_match ts) refl where
  at : (b : Bool) → list_any is_no_match ts ≡ b
      → of_target (if b then is.NoMatch else first_indeterminate ts is.Match) ≡ Some status
      → first_of of_target (up_to_first is_no_match ts) ≡ Some status
  at true none e = absurd (cc)
  at false none e =
      ap (first_of of_target) (up_to_none is_no_match ts none) ∙ sym (or_none (first_of of_target ts))
      ∙ sym (first_ind ts is.Match) ∙ e

-- and so is that of which one has to match
one-first : (ts : List Targeted) (status : Status) → of_target (one_matches ts) ≡ Some status
    → first_of of_target (up_to_first is_match ts) ≡ Some status
one-first ts status = at (list_any is_match ts) refl where
  at : (b : Bool) → list_any is_match ts ≡ b
      → of_target (if b then is.Match else first_indeterminate ts is.NoMatch) ≡ Some status
      → first_of of_target (up_to_first is_match ts) ≡ Some status
  at true none e = absurd (cc)
  at false none e =
      ap (first_of of_target) (up_to_none is_match ts none) ∙ sym (or_none (first_of of_target ts))
      ∙ sym (first_ind ts is.NoMatch) ∙ e

all_of-told : (looks : Looks) (request : Request) (a : AllOf) → IsTold of_target (all_of_part looks request a)
all_of-told looks request a =
    let ps = map (match_part looks request) a.matches in
    settled-told of_target is_indeterminate (all_part ps) (target-agree (all_part ps).value)
    (whole-first of_target of_target is_no_match all_match all-first ps
    (each-told of_target (match_part looks request) (match-told looks request) a.matches))

any_of-told : (looks : Looks) (request : Request) (a : AnyOf) → IsTold of_target (any_of_part looks request a)
any_of-told looks request a =
    let ps = map (all_of_part looks request) a.all_of in
    settled-told of_target is_indeterminate (one_part ps) (target-agree (one_part ps).value)
    (whole-first of_target of_target is_match one_matches one-first ps
    (each-told of_target (all_of_part looks request) (all_of-told looks request) a.all_of))

pub target-told : (looks : Looks) (request : Request) (target : Target)
    → IsTold of_target (target_part looks request target)
target-told looks request target =
    let ps = map (any_of_part looks request) target.any_of in
    settled-told of_target is_indeterminate (all_part ps) (target-agree (all_part ps).value)
    (whole-first of_target of_target is_no_match all_match all-first ps
    (each-told of_target (any_of_part looks request) (any_of-told looks request) target.any_of))

-- ---- expressions

bag-told : (d : Designator) (vs : List Value) → status_in (missing d vs) ≡ of_evaluated (bag_of d vs)
bag-told d [] = at d.must_be_present where
  at : (b : Bool) → status_in (if b then failing (what.Missing (asked_of d)) else [])
      ≡ of_evaluated
      (if b then evaluated.Indeterminate MissingAttribute
      else evaluated.Known (arg.Many (record { datatype = d.datatype; values = [] })))
  at true = refl
  at false = refl
bag-told d (v ∷ vs) = refl

abbrev of_found : Option Evaluated → Option Status
of_found None = None
of_found (Some v) = of_evaluated v

-- the first argument that is the result is the only one that may be Indeterminate
found-status : (f : Function) (vs : List Evaluated)
    → first_of of_evaluated (up_to_first (is_result f) vs) ≡ of_found (find (is_result f) vs)
found-status f [] = refl
found-status f (evaluated.Indeterminate status ∷ vs) = refl
found-status f (evaluated.Known a ∷ vs) = at (settles f a) (found-status f vs) where
  at : (b : Bool) → first_of of_evaluated (up_to_first (is_result f) vs) ≡ of_found (find (is_result f) vs)
      → first_of of_evaluated (if b then evaluated.Known a ∷ [] else evaluated.Known a ∷ up_to_first (is_result f) vs)
      ≡ of_found (if b then Some (evaluated.Known a) else find (is_result f) vs)
  at true later = refl
  at false later = later

application-told : (f : Function) (ps : List (Part Evaluated)) → AllTold of_evaluated ps
    → IsTold of_evaluated (application f ps)
application-told f ps each =
    status_append (notes_of (seen_parts (is_result f) ps)) (faults f (values ps))
    ∙ ap (λ o. option_or o (status_in (faults f (values ps))))
    (told-seen of_evaluated (is_result f) ps each ∙ found-status f (values ps))
    ∙ at (find (is_result f) (values ps)) where
      of_fault : (r : Result Arg Fault) → status_in (fault_in f r) ≡ of_evaluated (evaluated_of r)
      of_fault (Ok outcome) = refl
      of_fault (Err fault) = refl

      at : (o : Option Evaluated)
          → option_or (of_found o) (status_in (fault_unless f o (applied f (arguments_of (values ps)))))
          ≡ of_evaluated (unwrap_or o (evaluated_of (applied f (arguments_of (values ps)))))
      at None = of_fault (applied f (arguments_of (values ps)))
      at (Some v) = or_none (of_evaluated v)

told-by : {A : Type 0} (of : A → Option Status) (p q : Part A) → p ≡ q → IsTold of q → IsTold of p
told-by of p q e told = subst (IsTold of) (sym e) told

module _ (looks : Looks) (request : Request) where
  module _ (refer : List ℕ → Part Evaluated) (each : (id : List ℕ) → IsTold of_evaluated (refer id)) where
    abbrev ExpressionTold : Expression → Type 0
    ExpressionTold e = IsTold of_evaluated (meaning_with looks request refer e)

    all_told : (es : List ((e : Expression) × ExpressionTold e))
        → AllTold of_evaluated (map (meaning_with looks request refer) (map (λ e. e.0) es))
    all_told [] = tt
    all_told (e ∷ es) = (e.1, all_told es)

    rolls : (x : Expression-F Expression)
        → meaning_with looks request refer (roll-Expression x)
        ≡ meaning_step looks request refer
        (map-Expression Expression (Part Evaluated) (meaning_with looks request refer) x)
    rolls x = fold-roll-Expression (Part Evaluated) (meaning_step looks request refer) x

    layer-told : (y : Expression-F ((e : Expression) × ExpressionTold e))
        → ExpressionTold
        (roll-Expression (map-Expression ((e : Expression) × ExpressionTold e) Expression (λ e. e.0) y))
    layer-told (Expression-F.Value v) = told-by of_evaluated _ _ (rolls (Expression-F.Value v)) refl
    layer-told (Expression-F.Designator d) =
        told-by of_evaluated _ _ (rolls (Expression-F.Designator d)) (bag-told d (designated_values looks request d))
    layer-told (Expression-F.Variable id) = told-by of_evaluated _ _ (rolls (Expression-F.Variable id)) (each id)
    layer-told (Expression-F.Apply f arguments) =
        told-by of_evaluated _ _ (rolls (Expression-F.Apply f (map (λ e. e.0) arguments)))
        (application-told f (map (meaning_with looks request refer) (map (λ e. e.0) arguments)) (all_told arguments))
    layer-told (Expression-F.Function f) = told-by of_evaluated _ _ (rolls (Expression-F.Function f)) refl

    meaning_with-told : (e : Expression) → ExpressionTold e
    meaning_with-told =
        ind-Expression ExpressionTold (λ x y is. subst (λ z. ExpressionTold (roll-Expression z)) is (layer-told y))

  defined-told : (part : Expression → Part Evaluated) → ((e : Expression) → IsTold of_evaluated (part e))
      → (o : Option VariableDefinition) → IsTold of_evaluated (defined_part part o)
  defined-told part each None = refl
  defined-told part each (Some d) = each d.expression

  variable-told : (definitions : List VariableDefinition) (n : ℕ) (id : List ℕ)
      → IsTold of_evaluated (variable_part looks request definitions n id)
  variable-told definitions zero id = refl
  variable-told definitions (suc n) id =
      defined-told (meaning looks request definitions n)
      (meaning_with-told (variable_part looks request definitions n) (variable-told definitions n))
      (definition_of definitions id)

  pub expression-told : (definitions : List VariableDefinition) (e : Expression)
      → IsTold of_evaluated (meaning looks request definitions (length definitions) e)
  expression-told definitions =
      meaning_with-told (variable_part looks request definitions (length definitions))
      (variable-told definitions (length definitions))

  truth-told : (v : Evaluated) → option_or (of_evaluated v) (status_in (unfit_condition v)) ≡ of_truth (truth_of v)
  truth-told (evaluated.Indeterminate status) = refl
  truth-told (evaluated.Known (arg.One (value.Boolean true))) = refl
  truth-told (evaluated.Known (arg.One (value.Boolean false))) = refl
  truth-told (evaluated.Known (arg.One (value.Text t))) = refl
  truth-told (evaluated.Known (arg.One (value.Integer t))) = refl
  truth-told (evaluated.Known (arg.One (value.Date t))) = refl
  truth-told (evaluated.Known (arg.One (value.AnyUri t))) = refl
  truth-told (evaluated.Known (arg.One (value.YearMonth t))) = refl
  truth-told (evaluated.Known (arg.One (value.Time t))) = refl
  truth-told (evaluated.Known (arg.One (value.DateTime t))) = refl
  truth-told (evaluated.Known (arg.Many bag)) = refl
  truth-told (evaluated.Known (arg.Fun f)) = refl

  pub condition-told : (definitions : List VariableDefinition) (condition : Option Expression)
      → IsTold of_truth (condition_part looks request definitions condition)
  condition-told definitions None = refl
  condition-told definitions (Some e) =
      fails-told of_evaluated of_truth truth_of
      (meaning looks request definitions (length definitions) e) unfit_condition
      (expression-told definitions e) truth-told
