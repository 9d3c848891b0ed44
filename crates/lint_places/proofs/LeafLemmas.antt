-- When data is a literal.
use Rattle.std.proofs.Common.{◌≡◌, ℤ, not, ◌||◌, Option, Some, None, is_some, option_and_then, option_map, refl}
use Rattle.serde_json.specs.Data as json
use Rattle.serde_json.specs.Data.{Data}
use Rattle.serde_json.specs.Find.{as_bool, as_i64, as_number, as_str}
use Rattle.ent_policy.specs.First.{if_so}
use Rattle.ent_policy.specs.declared.fault.DocFault.TheVariants as fault
use Rattle.ent_policy.specs.declared.raw.RawLiteral.TheVariants as literal
use Rattle.ent_polform.specs.Expressions.{literal_of}
use Rattle.ent_polform.specs.Reading.{part}
use Rattle.lint_places.specs.Told.{fault_of_read}

whole : (o : Option ℤ) → fault_of_read (part (option_map literal.Integer o)) ≡ if_so (not (is_some o)) fault.Form
whole None = refl
whole (Some z) = refl

-- a text, a flag, or a whole number of 64 bits
pub literal_is : (d : Data) → fault_of_read (literal_of d) ≡ if_so (not (is_some (as_str d) || (is_some (as_bool d) || is_some (option_and_then as_i64 (as_number d))))) fault.Form
literal_is json.null = refl
literal_is (json.boolean b) = refl
literal_is (json.number n) = whole (as_i64 n)
literal_is (json.string s) = refl
literal_is (json.array ds) = refl
literal_is (json.object ms) = refl
