-- The JSON form of expressions.
use Rattle.std.specs.Prelude.{ℕ, List, [], ◌∷◌, if◌then◌else◌, option_map, Result, Ok, Err, codes, bytes_eq}
use Rattle.serde_json.specs.Data as json
use Rattle.serde_json.specs.Data.{Data}
use Rattle.serde_json.specs.Find.{get, as_i64}
use Rattle.ent_policy.specs.declared.fault.DocFault.{DocFault}
use Rattle.ent_policy.specs.declared.fault.DocFault.TheVariants as fault
use Rattle.ent_policy.specs.declared.raw.RawDesignator.{RawDesignator}
use Rattle.ent_policy.specs.declared.raw.RawExpression.{RawExpression}
use Rattle.ent_policy.specs.declared.raw.RawExpression.TheVariants as raw
use Rattle.ent_policy.specs.declared.raw.RawLiteral.{RawLiteral}
use Rattle.ent_policy.specs.declared.raw.RawLiteral.TheVariants as literal
use Rattle.ent_policy.specs.declared.raw.RawValue.{RawValue}
use Rattle.ent_json.specs.Objects.{has_only, one_member, text_at, flag_at, list_at}
use Rattle.ent_polform.specs.Objects.{◌>>=◌, list_by}
use Rattle.ent_polform.specs.Reading.{part, formed, maybe, text_of, nested}

-- ---- values

-- a literal: a text, a boolean, or a number that is a whole one of 64 bits
abbrev pub literal_of : Data → Result RawLiteral DocFault
literal_of json.null = Err fault.Form
literal_of (json.boolean b) = Ok (literal.Boolean b)
literal_of (json.number n) = part (option_map literal.Integer (as_i64 n))
literal_of (json.string s) = Ok (literal.Text s)
literal_of (json.array ds) = Err fault.Form
literal_of (json.object ms) = Err fault.Form

-- an AttributeValue (section 5.31), of any data type or of none
unfoldable pub value_of : Data → Result RawValue DocFault
value_of d = formed (has_only (codes "DataType" ∷ codes "Value" ∷ []) d) (do
  datatype ← maybe text_of (get (codes "DataType") d)
  literal ← part (get (codes "Value") d) >>= literal_of
  Ok (record { datatype = datatype; literal = literal }))

-- ---- attributes

-- an AttributeDesignator (section 5.29)
unfoldable pub designator_of : Data → Result RawDesignator DocFault
designator_of d = formed (has_only (codes "AttributeId" ∷ codes "Category" ∷ codes "DataType" ∷ codes "Issuer" ∷ codes "MustBePresent" ∷ []) d) (do
  category ← part (text_at (codes "Category") d)
  attribute ← part (text_at (codes "AttributeId") d)
  datatype ← part (text_at (codes "DataType") d)
  issuer ← maybe text_of (get (codes "Issuer") d)
  must_be_present ← part (flag_at (codes "MustBePresent") d)
  Ok (record { category = category; attribute = attribute; datatype = datatype; issuer = issuer; must_be_present = must_be_present }))

-- ---- expressions

-- an object with one key, at which a text stands
unfoldable pub name_of : List ℕ → Data → Result (List ℕ) DocFault
name_of key d = formed (has_only (key ∷ []) d) (part (text_at key d))

-- an Apply (section 5.27) whose arguments f reads
unfoldable pub apply_by : (Data → Result RawExpression DocFault) → Data → Result RawExpression DocFault
apply_by f d = formed (has_only (codes "Arguments" ∷ codes "FunctionId" ∷ []) d) (do
  function ← part (text_at (codes "FunctionId") d)
  arguments ← list_by fault.Form f (list_at (codes "Arguments") d)
  Ok (raw.Apply function arguments))

-- the expression of that key (section 5.25), any arguments read by f
unfoldable pub expression_named : (Data → Result RawExpression DocFault) → List ℕ → Data → Result RawExpression DocFault
expression_named f key d =
    if bytes_eq key (codes "AttributeValue") then (value_of d >>= λ v. Ok (raw.Value v))
    else (if bytes_eq key (codes "AttributeDesignator") then (designator_of d >>= λ a. Ok (raw.Designator a))
    else (if bytes_eq key (codes "VariableReference") then (name_of (codes "VariableId") d >>= λ id. Ok (raw.Variable id))
    else (if bytes_eq key (codes "Apply") then apply_by f d
    else (if bytes_eq key (codes "Function") then (name_of (codes "FunctionId") d >>= λ id. Ok (raw.Function id))
    else Err fault.Form))))

-- one level of an expression: an object with one key, any arguments read by f
abbrev pub expression_by : (Data → Result RawExpression DocFault) → Data → Result RawExpression DocFault
expression_by f d = part (one_member d) >>= λ m. expression_named f m.0 m.1

-- an expression
unfoldable pub expression_of : Data → Result RawExpression DocFault
expression_of d = nested expression_by d
