-- What data is, to a reader that asks in turn for a text, a flag and a whole number.
use Rattle.std.proofs.Common.{◌≡◌, ℕ, ℤ, List, Bool, Option, Some, None, Ok, Err, option_and_then, option_map, refl}
use Rattle.serde_json.specs.Data as json
use Rattle.serde_json.specs.Data.{Data}
use Rattle.serde_json.specs.Find.{as_bool, as_i64, as_number, as_str}
use Rattle.ent_values.specs.declared.datatype.DataType.{DataType}
use Rattle.ent_values.specs.Reading.{value_of}
use Rattle.ent_policy.specs.Reading.{boolean_as, integer_as}
use Rattle.ent_policy.specs.declared.fault.DocFault.TheVariants as fault
use Rattle.ent_policy.specs.declared.raw.RawLiteral.TheVariants as literal
use Rattle.ent_polform.specs.Expressions.{literal_of}
use Rattle.ent_polform.specs.Reading.{part}
use Rattle.ent_polform.specs.Values.{value_in}

module _ {A : Type 0} (of_text : List ℕ → A) (of_flag : Bool → A) (of_whole : ℤ → A) (of_other : A) where
  -- the first of a text, a flag and a whole number that is there
  abbrev pub first_of : Option (List ℕ) → Option Bool → Option ℤ → A
  first_of (Some s) flag whole = of_text s
  first_of None (Some b) whole = of_flag b
  first_of None None (Some z) = of_whole z
  first_of None None None = of_other

  -- what stands for data
  abbrev pub scalar : Data → A
  scalar d = first_of (as_str d) (as_bool d) (option_and_then as_i64 (as_number d))

whole_literal : (o : Option ℤ) → part (option_map literal.Integer o) ≡ first_of (λ s. Ok (literal.Text s)) (λ b. Ok (literal.Boolean b)) (λ z. Ok (literal.Integer z)) (Err fault.Form) None None o
whole_literal None = refl
whole_literal (Some z) = refl

pub literal_is : (d : Data) → literal_of d ≡ scalar (λ s. Ok (literal.Text s)) (λ b. Ok (literal.Boolean b)) (λ z. Ok (literal.Integer z)) (Err fault.Form) d
literal_is json.null = refl
literal_is (json.boolean b) = refl
literal_is (json.number n) = whole_literal (as_i64 n)
literal_is (json.string s) = refl
literal_is (json.array ds) = refl
literal_is (json.object ms) = refl

whole_value : (datatype : DataType) (o : Option ℤ) → option_and_then (λ z. integer_as z datatype) o ≡ first_of (value_of datatype) (λ b. boolean_as b datatype) (λ z. integer_as z datatype) None None None o
whole_value datatype None = refl
whole_value datatype (Some z) = refl

pub value_is : (datatype : DataType) (d : Data) → value_in datatype d ≡ scalar (value_of datatype) (λ b. boolean_as b datatype) (λ z. integer_as z datatype) None d
unfolding value_in
value_is datatype json.null = refl
value_is datatype (json.boolean b) = refl
value_is datatype (json.number n) = whole_value datatype (as_i64 n)
value_is datatype (json.string s) = refl
value_is datatype (json.array ds) = refl
value_is datatype (json.object ms) = refl
