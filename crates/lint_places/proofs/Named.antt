-- Definitions as read, of which some are set aside: their names, and what they say beside all of them.
use Rattle.std.proofs.Common.{◌≡◌, ℕ, suc, ◌<◌, ◌≤◌, min, List, [], ◌∷◌, get_or, map, Bool, true, false, Option, Some, None, Result, Ok, Err, refl, sym, ap, subst, ◌∙◌, codes, inl, inr, arith}
use Rattle.std.specs.Prelude.{if◌then◌else◌}
use Rattle.std.specs.List.{flat_map}
use Rattle.serde_json.specs.Data.{Data}
use Rattle.serde_json.specs.Find.{get}
use Rattle.ent_json.specs.Objects.{has_only, text_at}
use Rattle.ent_policy.specs.First.{earlier, if_so}
use Rattle.ent_policy.specs.Limits.{definition_fault, expression_fault, expression_limits, name_fault}
use Rattle.ent_policy.specs.Names.{is_bad_name}
use Rattle.ent_policy.specs.Reading.{definition_read, designator_read, each_read, expression_read, expression_step, function_read, literal_as, value_read}
use Rattle.ent_policy.specs.Variables.{variables, variables_step}
use Rattle.ent_policy.specs.declared.expression.Expression.{Expression}
use Rattle.ent_policy.specs.declared.expression.Expression.TheFolds.{fold-roll-Expression, map-Expression}
use Rattle.ent_policy.specs.declared.expression.Expression.TheOpen.{Expression-F}
use Rattle.ent_policy.specs.declared.expression.Expression.TheViews.{roll-Expression}
use Rattle.ent_policy.specs.declared.fault.DocFault.{DocFault}
use Rattle.ent_policy.specs.declared.fault.DocFault.TheVariants as fault
use Rattle.ent_policy.specs.declared.expression.Expression.TheVariants as expressions
use Rattle.ent_values.specs.declared.value.Value.TheVariants as values
use Rattle.ent_policy.specs.declared.raw.RawLiteral.TheVariants as literals
use Rattle.ent_policy.specs.declared.raw.RawExpression.TheVariants as raw
use Rattle.ent_policy.specs.declared.raw.RawExpression.{RawExpression}
use Rattle.ent_policy.specs.declared.raw.RawExpression.TheFolds.{fold-roll-RawExpression, ind-RawExpression, map-RawExpression}
use Rattle.ent_policy.specs.declared.raw.RawExpression.TheOpen.{RawExpression-F}
use Rattle.ent_policy.specs.declared.raw.RawExpression.TheViews.{roll-RawExpression}
use Rattle.ent_policy.specs.declared.raw.RawVariableDefinition.{RawVariableDefinition}
use Rattle.ent_policy.proofs.Wholes.{ReadOf}
use Rattle.ent_polform.specs.Expressions.{expression_of}
use Rattle.ent_polform.specs.Form.{definition_of}
use Rattle.ent_polform.specs.Objects.{◌>>=◌}
use Rattle.ent_polform.specs.Reading.{formed, part}
use Rattle.lint_places.specs.Told.{id_or_dash, numbered, set_aside, variable_at, variable_by}
use Rattle.lint_places.specs.proofs_only.Suspects.{names_of, uses, uses_step}
use Rattle.lint_places.proofs.Judged.{local, local_append, local_none, stored}
use Rattle.lint_places.proofs.Ranks.{rank, rank_earlier}
use Rattle.lint_places.proofs.Resolved.{AreUnder, IsUnder}

-- ---- the variables of what is read

-- an expression uses the variables that it was read with
abbrev UsesThem : RawExpression → Type 0
UsesThem e = variables (expression_read e).value ≡ uses e

arguments_use : (es : List ((e : RawExpression) × UsesThem e))
    → flat_map (λ ids. ids) (map variables (each_read expression_read (map (λ e. e.0) es)).value) ≡ flat_map (λ ids. ids) (map uses (map (λ e. e.0) es))
arguments_use [] = refl
arguments_use (e ∷ es) = rw (e.1, arguments_use es) refl

level : (y : RawExpression-F RawExpression) (x : Expression-F Expression) → (expression_step (map-RawExpression RawExpression (ReadOf Expression) expression_read y)).value ≡ roll-Expression x
    → variables_step (map-Expression Expression (List (List ℕ)) variables x) ≡ uses_step (map-RawExpression RawExpression (List (List ℕ)) uses y) → UsesThem (roll-RawExpression y)
level y x read same =
    ap (λ (r : ReadOf Expression). variables r.value) (fold-roll-RawExpression (ReadOf Expression) expression_step y) ∙ ap variables read
    ∙ fold-roll-Expression (List (List ℕ)) variables_step x ∙ same ∙ sym (fold-roll-RawExpression (List (List ℕ)) uses_step y)

layer : (y : RawExpression-F ((e : RawExpression) × UsesThem e)) → UsesThem (roll-RawExpression (map-RawExpression ((e : RawExpression) × UsesThem e) RawExpression (λ e. e.0) y))
unfolding roll-Expression denote.Hole.Carrier.roll
layer (RawExpression-F.Value v) = level (RawExpression-F.Value v) (Expression-F.Value (value_read v).value) refl refl
layer (RawExpression-F.Designator d) = level (RawExpression-F.Designator d) (Expression-F.Designator (designator_read d).value) refl refl
layer (RawExpression-F.Variable id) = level (RawExpression-F.Variable id) (Expression-F.Variable id) refl refl
layer (RawExpression-F.Apply id es) =
    let read = (each_read expression_read (map (λ (e : (e : RawExpression) × UsesThem e). e.0) es)).value in
    level (RawExpression-F.Apply id (map (λ e. e.0) es)) (Expression-F.Apply (function_read id).value read) refl (arguments_use es)
layer (RawExpression-F.Function id) = level (RawExpression-F.Function id) (Expression-F.Function (function_read id).value) refl refl

pub uses_what_is_read : (e : RawExpression) → variables (expression_read e).value ≡ uses e
uses_what_is_read = ind-RawExpression UsesThem (λ x y is. subst (λ z. UsesThem (roll-RawExpression z)) is (layer y))

-- ---- a definition that is set aside

-- what stands in the place of its expression
abbrev true_value : RawExpression
true_value = raw.Value (record { datatype = None; literal = literals.Boolean true })

true_uses_none : uses true_value ≡ []
unfolding roll-RawExpression denote.Hole.Carrier.roll
true_uses_none = fold-roll-RawExpression (List (List ℕ)) uses_step (RawExpression-F.Value (record { datatype = None; literal = literals.Boolean true }))

true_is_read : expression_read true_value ≡ record { value = expressions.Value (values.Boolean true); fault = None }
unfolding roll-RawExpression denote.Hole.Carrier.roll value_read literal_as
true_is_read = fold-roll-RawExpression (ReadOf Expression) expression_step (RawExpression-F.Value (record { datatype = None; literal = literals.Boolean true }))

true_has_no_fault : expression_fault (expressions.Value (values.Boolean true)) ≡ None
unfolding roll-Expression denote.Hole.Carrier.roll
true_has_no_fault = fold-roll-Expression (Option DocFault) expression_limits (Expression-F.Value (values.Boolean true))

dash_is_good : (id : List ℕ) (b : Bool) → is_bad_name id ≡ b → is_bad_name (if b then codes "-" else id) ≡ false
dash_is_good id true is = refl
dash_is_good id false is = is

name_is_good : (o : Option (List ℕ)) → is_bad_name (id_or_dash o) ≡ false
name_is_good None = refl
name_is_good (Some id) = dash_is_good id (is_bad_name id) refl

-- it has no fault
pub aside_has_none : (d : Data) → local (set_aside d ∷ []) ≡ 9
unfolding set_aside definition_read definition_fault local
aside_has_none d = rw (true_is_read, name_is_good (text_at (codes "VariableId") d), true_has_no_fault) refl

-- ---- names

-- a definition has the name that stands there
of_parts : (b : Bool) (t : Option (List ℕ)) (r : Result RawExpression DocFault) (v : RawVariableDefinition)
    → formed b (part t >>= λ id. r >>= λ e. Ok (record { id = id; expression = e })) ≡ Ok v → t ≡ Some v.id
of_parts true (Some id) (Ok e) v h = let same : ◌≡◌ {A = RawVariableDefinition} (record { id = id; expression = e }) v = cc in ap (λ (w : RawVariableDefinition). Some w.id) same
of_parts true (Some id) (Err f) v h = absurd cc
of_parts true None r v h = absurd cc
of_parts false t r v h = absurd cc

pub name_as_read : (d : Data) (v : RawVariableDefinition) → definition_of d ≡ Ok v → text_at (codes "VariableId") d ≡ Some v.id
unfolding definition_of
name_as_read d v h = of_parts (has_only (codes "Expression" ∷ codes "VariableId" ∷ []) d) (text_at (codes "VariableId") d) (part (get (codes "Expression") d) >>= expression_of) v h

-- a definition that is set aside has the name of what is read, if that is a name
aside_name : (d : Data) (v : RawVariableDefinition) → definition_of d ≡ Ok v → is_bad_name v.id ≡ false → (set_aside d).id ≡ v.id
unfolding set_aside
aside_name d v h good = rw (name_as_read d v h, good) refl

-- the names are good
abbrev pub AreNamed : List RawVariableDefinition → Type 0
AreNamed [] = Unit {0}
AreNamed (v ∷ vs) = (is_bad_name v.id ≡ false) × AreNamed vs

bad_name : (v : RawVariableDefinition) → is_bad_name v.id ≡ true → local (v ∷ []) ≤ 1
unfolding definition_read definition_fault local
bad_name v is =
    let e : rank (name_fault v.id) ≡ 1 = ap (λ b. rank (if_so b fault.Identifier)) is in
    let x = expression_fault (expression_read v.expression).value in
    omega (arith, e, rank_earlier (name_fault v.id) x, rank_earlier (earlier (name_fault v.id) x) None)

good_name : (v : RawVariableDefinition) (b : Bool) → is_bad_name v.id ≡ b → 5 < local (v ∷ []) → b ≡ false
good_name v true is late = absurd (omega (arith, bad_name v is, late))
good_name v false is late = refl

-- where each definition by itself has a fault that is told later than a bad variable, if it has one, they are
pub named : (vs : List RawVariableDefinition) → 5 < local vs → AreNamed vs
named [] h = tt
named (v ∷ vs) h =
    let split : 5 < min (local (v ∷ [])) (local vs) = subst (λ n. 5 < n) (local_append (v ∷ []) vs) h in
    (good_name v (is_bad_name v.id) refl (omega (arith, split)), named vs (omega (arith, split)))

-- ---- lists in which some are set aside

-- the first of a list and the others, as read
pub record IsConsed {A : Type 0} (first : Result A DocFault) (others : Result (List A) DocFault) (all : List A) : Type 0 where
  pub head : A
  pub tail : List A
  pub read_head : first ≡ Ok head
  pub read_tail : others ≡ Ok tail
  pub is : all ≡ head ∷ tail

pub consed : {A : Type 0} (r : Result A DocFault) (rs : Result (List A) DocFault) (all : List A) → (r >>= λ x. rs >>= λ xs. Ok (x ∷ xs)) ≡ Ok all → IsConsed r rs all
consed (Ok x) (Ok xs) all h = let same : x ∷ xs ≡ all = cc in record { head = x; tail = xs; read_head = refl; read_tail = refl; is = sym same }
consed (Ok x) (Err f) all h = absurd cc
consed (Err f) rs all h = absurd cc

empty_is : {A : Type 0} (all : List A) → ◌≡◌ {A = Result (List A) DocFault} (Ok []) (Ok all) → all ≡ []
empty_is all h = let same : [] ≡ all = cc in sym same

-- two readings of one definition have the same name
one_name : (a b : Bool) (d : Data) (v w : RawVariableDefinition) → variable_by a d ≡ Ok v → variable_by b d ≡ Ok w → is_bad_name v.id ≡ false → is_bad_name w.id ≡ false → v.id ≡ w.id
one_name true true d v w h k g m = let same : v ≡ w = cc in ap (λ (x : RawVariableDefinition). x.id) same
one_name true false d v w h k g m = let same : set_aside d ≡ w = cc in sym (aside_name d v h g) ∙ ap (λ (x : RawVariableDefinition). x.id) same
one_name false true d v w h k g m = let same : set_aside d ≡ v = cc in sym (ap (λ (x : RawVariableDefinition). x.id) same) ∙ aside_name d w k m
one_name false false d v w h k g m = let same : v ≡ w = cc in ap (λ (x : RawVariableDefinition). x.id) same

pub same_names : (p q : List Bool) (i : ℕ) (ds : List Data) (vs ws : List RawVariableDefinition) → numbered (variable_at p) i ds ≡ Ok vs → numbered (variable_at q) i ds ≡ Ok ws
    → AreNamed vs → AreNamed ws → names_of vs ≡ names_of ws
same_names p q i [] vs ws h k g m = rw (empty_is vs h, empty_is ws k) refl
same_names p q i (d ∷ ds) vs ws h k g m =
    let a = consed (variable_at p i d) (numbered (variable_at p) (suc i) ds) vs h in
    let b = consed (variable_at q i d) (numbered (variable_at q) (suc i) ds) ws k in
    let good_a = subst AreNamed a.is g in
    let good_b = subst AreNamed b.is m in
    let first = one_name (get_or p i true) (get_or q i true) d a.head b.head a.read_head b.read_head good_a.0 good_b.0 in
    ap names_of a.is ∙ rw (first, same_names p q (suc i) ds a.tail b.tail a.read_tail b.read_tail good_a.1 good_b.1) refl ∙ sym (ap names_of b.is)

-- ---- beside all of them

aside_uses_none : (d : Data) → uses (set_aside d).expression ≡ []
unfolding set_aside
aside_uses_none d = true_uses_none

-- one that may be set aside says what is read, or uses no variable, and has no fault but those of what is read
one_under : (a : Bool) (d : Data) (v u : RawVariableDefinition) → variable_by a d ≡ Ok v → definition_of d ≡ Ok u → is_bad_name u.id ≡ false → IsUnder (definition_read v).value (definition_read u).value
unfolding definition_read
one_under true d v u h k g =
    let same : v ≡ u = cc in
    record { same_id = ap (λ (x : RawVariableDefinition). x.id) same; says = inl (ap (λ (x : RawVariableDefinition). (expression_read x.expression).value) same) }
one_under false d v u h k g =
    let same : set_aside d ≡ v = cc in
    record {
      same_id = sym (ap (λ (x : RawVariableDefinition). x.id) same) ∙ aside_name d u k g;
      says = inr (uses_what_is_read v.expression ∙ sym (ap (λ (x : RawVariableDefinition). uses x.expression) same) ∙ aside_uses_none d);
    }

one_late : (a : Bool) (d : Data) (v u : RawVariableDefinition) → variable_by a d ≡ Ok v → definition_of d ≡ Ok u → 5 < local (u ∷ []) → 5 < local (v ∷ [])
one_late true d v u h k late = let same : u ≡ v = cc in subst (λ (x : RawVariableDefinition). 5 < local (x ∷ [])) same late
one_late false d v u h k late = let same : set_aside d ≡ v = cc in subst (λ (x : RawVariableDefinition). 5 < local (x ∷ [])) same (omega (arith, aside_has_none d))

module _ (p : List Bool) where
  pub all_under : (i : ℕ) (ds : List Data) (vs us : List RawVariableDefinition) → numbered (variable_at p) i ds ≡ Ok vs → numbered (λ n. definition_of) i ds ≡ Ok us → AreNamed us → AreUnder (stored vs) (stored us)
  all_under i [] vs us h k g = rw (empty_is vs h, empty_is us k) tt
  all_under i (d ∷ ds) vs us h k g =
      let a = consed (variable_at p i d) (numbered (variable_at p) (suc i) ds) vs h in
      let b = consed (definition_of d) (numbered (λ n. definition_of) (suc i) ds) us k in
      let good = subst AreNamed b.is g in
      let first = one_under (get_or p i true) d a.head b.head a.read_head b.read_head good.0 in
      rw (a.is, b.is) (first, all_under (suc i) ds a.tail b.tail a.read_tail b.read_tail good.1)

  pub all_late : (i : ℕ) (ds : List Data) (vs us : List RawVariableDefinition) → numbered (variable_at p) i ds ≡ Ok vs → numbered (λ n. definition_of) i ds ≡ Ok us → 5 < local us → 5 < local vs
  all_late i [] vs us h k late = rw (empty_is vs h) (omega (arith, local_none))
  all_late i (d ∷ ds) vs us h k late =
      let a = consed (variable_at p i d) (numbered (variable_at p) (suc i) ds) vs h in
      let b = consed (definition_of d) (numbered (λ n. definition_of) (suc i) ds) us k in
      let split : 5 < min (local (b.head ∷ [])) (local b.tail) = subst (λ n. 5 < n) (local_append (b.head ∷ []) b.tail) (subst (λ xs. 5 < local xs) b.is late) in
      let first = one_late (get_or p i true) d a.head b.head a.read_head b.read_head (omega (arith, split)) in
      let rest = all_late (suc i) ds a.tail b.tail a.read_tail b.read_tail (omega (arith, split)) in
      subst (λ xs. 5 < local xs) (sym a.is) (subst (λ n. 5 < n) (sym (local_append (a.head ∷ []) a.tail)) (omega (arith, first, rest)))
