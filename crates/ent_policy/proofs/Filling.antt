-- A table that is filled in the order of the definitions.
use Rattle.std.proofs.Common.{◌≡◌, ℕ, zero, suc, ◌+◌, ◌<◌, ◌≤◌, min, List, [], ◌∷◌, length, map, drop, get_or, add-one, drop-cons, drop_of_length-le, Bool, true, false, cond, ◌||◌, Option, Some, None, is_some, unwrap_or, Bor, nat_cmp, refl, sym, ap, ◌∙◌, bytes_eq, arith}
use Rattle.std.proofs.lemmas.Bool.{false≢true}
use Rattle.std.proofs.lemmas.Map.Text.{btree_map_updates_str}
use Rattle.std.proofs.lemmas.Slice.Eq.{bytes_eq-Decides}
use Rattle.std.specs.BTreeMap.{UpdatesBy, get_by}
use Rattle.std.specs.Cmp.Lexicographic.{slice_cmp}
use Rattle.std.specs.List.{list_all}
use Rattle.ent_functions.specs.declared.types.ArgType.{ArgType}
use Rattle.ent_policy.specs.declared.expression.VariableDefinition.{VariableDefinition}
use Rattle.ent_policy.specs.declared.measure.Measured.{Measured}
use Rattle.ent_policy.specs.Depths.{depth_with}
use Rattle.ent_policy.specs.Limits.{is_among}
use Rattle.ent_policy.specs.proofs_only.Measure.{IsTableOf, Table, found, measured_variable, measured_with}
use Rattle.ent_policy.specs.proofs_only.Order.{IsInOrder, IsOrderOf}
use Rattle.ent_policy.specs.Sizes.{nodes_with}
use Rattle.ent_policy.specs.Typing.{held, variable_type}
use Rattle.ent_policy.specs.Variables.{defined, definition_of, followed, ids_of, is_resolved, uses_only}
use Rattle.ent_policy.proofs.Ids.{same_id, text_cmp}
use Rattle.ent_policy.proofs.Measures.{alike, cut, measured_agrees}
use Rattle.ent_policy.proofs.References.{all_among, defined_ids}

-- ---- variables

-- what a variable comes to through at most this many references, without limits
abbrev pub through : List VariableDefinition → ℕ → List ℕ → Measured
through ds n id = record { nodes = followed nodes_with 0 ds n id; depth = followed depth_with 0 ds n id; datatype = variable_type ds n id }

pub cut_once : (m : Measured) → cut (cut m) ≡ cut m
cut_once m = alike (again 65537 m.nodes) (again 17 m.depth) refl
  where
    again : (l x : ℕ) → min l (min l x) ≡ min l x
    again l x = omega arith

-- what is kept of a definition
abbrev pub kept : Measured → Measured
kept m = record { nodes = m.nodes; depth = m.depth; datatype = held m.datatype }

pub kept_of : (one m : Measured) (t : Option ArgType) → one ≡ m → t ≡ held one.datatype → ◌≡◌ {A = Measured} (record { nodes = one.nodes; depth = one.depth; datatype = t }) (kept m)
kept_of one m t e f = rw (f, e) refl

-- a definition is what its expression is
defined_through : (ds : List VariableDefinition) (n : ℕ) (q : List ℕ) (d : VariableDefinition) → definition_of ds q ≡ Some d → cut (through ds (suc n) q) ≡ kept (measured_with (through ds n) d.expression)
defined_through ds n q d here = rw here refl

defined_once_more : (ds : List VariableDefinition) (n : ℕ) (q : List ℕ) (o : Option VariableDefinition) → definition_of ds q ≡ o → ((p : List ℕ) → followed uses_only false ds n p ≡ true → cut (through ds n p) ≡ cut (through ds (suc n) p))
    → defined (uses_only (followed uses_only false ds n)) false o ≡ true → cut (through ds (suc n) q) ≡ cut (through ds (suc (suc n)) q)
defined_once_more ds n q None here before e = absurd (false≢true e)
defined_once_more ds n q (Some d) here before e =
    defined_through ds n q d here ∙ ap kept (measured_agrees (through ds n) (through ds (suc n)) (followed uses_only false ds n) before d.expression e) ∙ sym (defined_through ds (suc n) q d here)

-- what leads to an end stays through one reference more
once_more : (ds : List VariableDefinition) (n : ℕ) (q : List ℕ) → followed uses_only false ds n q ≡ true → cut (through ds n q) ≡ cut (through ds (suc n) q)
once_more ds zero q e = absurd (false≢true e)
once_more ds (suc n) q e = defined_once_more ds n q (definition_of ds q) refl (once_more ds n) e

-- nothing is what a variable without definition comes to
undefined_through : (ds : List VariableDefinition) (n : ℕ) (q : List ℕ) → definition_of ds q ≡ None → cut (through ds n q) ≡ record { nodes = 0; depth = 0; datatype = None }
undefined_through ds zero q h = refl
undefined_through ds (suc n) q h = rw h refl

-- ---- the table

-- nothing is measured
abbrev pub nothing : Measured
nothing = record { nodes = 0; depth = 0; datatype = None }

abbrev look : Table → List ℕ → Option Measured
look table id = get_by (λ k. slice_cmp nat_cmp id k.now) table

-- the table has what is measured of the variables that pass, which are those of the definitions so far
pub record IsFilling (ds left : List VariableDefinition) (table : Table) : Type 0 where
  pub passes : List ℕ → Bool
  pub resolved : list_all (is_resolved ds) (ids_of ds) ≡ true
  pub in_order : IsInOrder ds passes left
  pub right : (q : List ℕ) → found table q ≡ cond (passes q) (measured_variable ds q) nothing
  pub covers : (q : List ℕ) → is_some (definition_of ds q) ≡ true → (passes q || is_among (ids_of left) q) ≡ true

pub filling_first : (ds os : List VariableDefinition) (table : Table) → table.entries ≡ [] → IsOrderOf ds os → IsFilling ds os table
filling_first ds os table none o = record { passes = λ q. false; resolved = o.resolved; in_order = o.in_order; right = λ q. rw none refl; covers = o.whole }

pub filling_last : (ds left : List VariableDefinition) (table : Table) → left ≡ [] → IsFilling ds left table → IsTableOf ds table
filling_last ds left table none f0 q =
    let f : IsFilling ds [] table = rw none at f0 in
    f.right q ∙ at (f.passes q) (definition_of ds q) refl (f.covers q)
  where
    at : (b : Bool) (o : Option VariableDefinition) → definition_of ds q ≡ o → (is_some o ≡ true → (b || false) ≡ true) → cond b (measured_variable ds q) nothing ≡ measured_variable ds q
    at true o e h = refl
    at false None e h = sym (undefined_through ds (length ds) q e)
    at false (Some d) e h = absurd (false≢true (h refl))

pub filling_next : (ds left rest : List VariableDefinition) (d : VariableDefinition) (table more : Table) (key : Bor (List ℕ)) (one : Measured) → left ≡ d ∷ rest → key.now ≡ d.id
    → UpdatesBy text_cmp (text_cmp key) table more (Some one) → one ≡ kept (measured_with (found table) d.expression) → IsFilling ds left table → IsFilling ds rest more
filling_next ds left rest d table more key one first same updates is f0 =
    let f : IsFilling ds (d ∷ rest) table = rw first at f0 in
    let seen : measured_with (found table) d.expression ≡ measured_with (through ds (length ds)) d.expression =
    measured_agrees (found table) (through ds (length ds)) f.passes (λ q h. ap cut (rw h at (f.right q)) ∙ cut_once (through ds (length ds) q)) d.expression f.in_order.1 in
    let own : one ≡ measured_variable ds d.id =
    is ∙ ap kept seen ∙ sym (defined_through ds (length ds) d.id d f.in_order.0) ∙ sym (once_more ds (length ds) d.id (all_among (is_resolved ds) (ids_of ds) d.id f.resolved (sym (defined_ids ds d.id) ∙ rw f.in_order.0 refl))) in
    let after : (q : List ℕ) → look more q ≡ cond (bytes_eq q d.id) (Some one) (look table q) =
    λ q. btree_map_updates_str key.now table more (Some one) updates q ∙ ap (λ b. cond b (Some one) (look table q)) (ap (λ k. bytes_eq k q) same ∙ same_id.symm d.id q) in
    record {
      passes = λ q. bytes_eq q d.id || f.passes q;
      resolved = f.resolved;
      in_order = f.in_order.2;
      right = λ q. ap (λ o. unwrap_or o nothing) (after q) ∙ at q (f.passes q) (bytes_eq q d.id) own refl (f.right q);
      covers = λ q h. moved (bytes_eq q d.id) (f.passes q) (is_among (ids_of rest) q) (f.covers q h);
    }
  where
    at : (q : List ℕ) (p b : Bool) → one ≡ measured_variable ds d.id → bytes_eq q d.id ≡ b → found table q ≡ cond p (measured_variable ds q) nothing → unwrap_or (cond b (Some one) (look table q)) nothing ≡ cond (b || p) (measured_variable ds q) nothing
    at q p true own e old = own ∙ ap (measured_variable ds) (sym ((bytes_eq-Decides q d.id).0 e))
    at q p false own e old = old

    moved : (k h r : Bool) → (h || (k || r)) ≡ true → ((k || h) || r) ≡ true
    moved true h r e = refl
    moved false h r e = e

-- the next one left stands first
pub next_left : (xs : List (Bor VariableDefinition)) (i : ℕ) (x : Bor VariableDefinition) → i < length xs → x ≡ get_or xs i x → map (λ d. d.now) (drop i xs) ≡ x.now ∷ map (λ d. d.now) (drop (i + 1) xs)
next_left xs i x lt here = rw (add-one, drop-cons xs i x, ← here) refl

pub none_left : (xs : List (Bor VariableDefinition)) (i : ℕ) → length xs ≤ i → map (λ d. d.now) (drop i xs) ≡ []
none_left xs i le = rw (drop_of_length-le xs le) refl
