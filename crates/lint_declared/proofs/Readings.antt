-- The attributes, and the values of one, that are read one after another.
use Rattle.std.proofs.Common.{◌≡◌, ℕ, suc, ◌<◌, ◌≤◌, ◌+◌, List, [], ◌∷◌, ◌++◌, length, get_or, drop, map, Some, None, Result, Ok, Err, refl, sym, ap, ◌∙◌, arith}
use mathlib.Core.List.{append_assoc}
use Rattle.std.proofs.lemmas.List.{append-nil, at_drop_all, at_drop_more}
use Rattle.serde_json.specs.Data.{Data}
use Rattle.serde_json.specs.View.{items_of}
use Rattle.ent_polform.specs.Objects.{◌>>=◌}
use Rattle.ent_values.specs.declared.datatype.DataType.{DataType}
use Rattle.ent_values.specs.declared.value.Value.{Value}
use Rattle.ent_polform.specs.Values.{value_in}
use Rattle.lint_declared.specs.Attributes.{attribute_of, attributes_from, behind, values_from}
use Rattle.lint_declared.specs.declared.attribute.DeclaredAttribute.{DeclaredAttribute}
use Rattle.lint_declared.specs.declared.fault.AttributeFault.{AttributeFault}
use Rattle.lint_declared.specs.declared.fault.AttributeFault.TheVariants as fault
use Rattle.lint_declared.specs.declared.fault.AttributesFault.{AttributesFault}
use Rattle.lint_declared.specs.declared.fault.AttributesFault.TheVariants as faults

-- what is left is read behind those that were read
abbrev pub read_from : {J : Type 0} (content : J → Data) → List DeclaredAttribute → List J → ℕ → Result (List DeclaredAttribute) AttributesFault
read_from content all ds n = behind all (attributes_from n (items_of (map content (drop n ds))))

one_behind : {A E : Type 0} (all : List A) (a : A) (r : Result (List A) E) → behind all (r >>= λ more. Ok (a ∷ more)) ≡ behind (all ++ a ∷ []) r
one_behind all a (Ok more) = ap Ok (sym (append_assoc all (a ∷ []) more))
one_behind all a (Err f) = refl

pub one_more : {J : Type 0} (content : J → Data) (all : List DeclaredAttribute) (ds : List J) (n : ℕ) (v : J) (a : DeclaredAttribute) → n < length ds → v ≡ get_or ds n v → Ok a ≡ attribute_of (content v)
    → read_from content all ds n ≡ read_from content (all ++ a ∷ []) ds (n + 1)
one_more content all ds n v a lt is read =
    let rest = attributes_from (n + 1) (items_of (map content (drop (n + 1) ds))) in
    let next : suc n ≡ n + 1 = omega arith in
    at_drop_more (λ xs. behind all (attributes_from n (items_of (map content xs)))) ds n v lt
    ∙ rw (← is, ← read, next) (one_behind all a rest)

pub bad_one : {J : Type 0} (content : J → Data) (all : List DeclaredAttribute) (ds : List J) (n : ℕ) (v : J) (f : AttributeFault) → n < length ds → v ≡ get_or ds n v → Err f ≡ attribute_of (content v)
    → read_from content all ds n ≡ Err (faults.Member n f)
bad_one content all ds n v f lt is read =
    at_drop_more (λ xs. behind all (attributes_from n (items_of (map content xs)))) ds n v lt ∙ rw (← is, ← read) refl

pub no_more : {J : Type 0} (content : J → Data) (all : List DeclaredAttribute) (ds : List J) (n : ℕ) → length ds ≤ n → read_from content all ds n ≡ Ok all
no_more content all ds n le = at_drop_all (λ xs. behind all (attributes_from n (items_of (map content xs)))) ds n le ∙ ap Ok (append-nil all)

-- what is left of the values is read behind those that were read
abbrev pub values_read : {J : Type 0} (content : J → Data) → DataType → List Value → List J → ℕ → Result (List Value) AttributeFault
values_read content datatype all ds n = behind all (values_from datatype n (items_of (map content (drop n ds))))

pub one_more_value : {J : Type 0} (content : J → Data) (datatype : DataType) (all : List Value) (ds : List J) (n : ℕ) (v : J) (a : Value) → n < length ds → v ≡ get_or ds n v
    → value_in datatype (content v) ≡ Some a → values_read content datatype all ds n ≡ values_read content datatype (all ++ a ∷ []) ds (n + 1)
one_more_value content datatype all ds n v a lt is read =
    let rest = values_from datatype (n + 1) (items_of (map content (drop (n + 1) ds))) in
    let next : suc n ≡ n + 1 = omega arith in
    at_drop_more (λ xs. behind all (values_from datatype n (items_of (map content xs)))) ds n v lt
    ∙ rw (← is, read, next) (one_behind all a rest)

pub no_such_value : {J : Type 0} (content : J → Data) (datatype : DataType) (all : List Value) (ds : List J) (n : ℕ) (v : J) → n < length ds → v ≡ get_or ds n v
    → value_in datatype (content v) ≡ None → values_read content datatype all ds n ≡ Err (fault.Value n)
no_such_value content datatype all ds n v lt is read =
    at_drop_more (λ xs. behind all (values_from datatype n (items_of (map content xs)))) ds n v lt ∙ rw (← is, read) refl

pub no_more_values : {J : Type 0} (content : J → Data) (datatype : DataType) (all : List Value) (ds : List J) (n : ℕ) → length ds ≤ n → values_read content datatype all ds n ≡ Ok all
no_more_values content datatype all ds n le = at_drop_all (λ xs. behind all (values_from datatype n (items_of (map content xs)))) ds n le ∙ ap Ok (append-nil all)
