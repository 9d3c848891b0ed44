-- The JSON form of obligation expressions and advice expressions. Both have the same parts under keys of their own.
use Rattle.std.specs.Prelude.{ℕ, List, [], ◌∷◌, if◌then◌else◌, Option, Some, None, option_and_then, Result, Ok, codes, bytes_eq}
use Rattle.serde_json.specs.Data.{Data}
use Rattle.serde_json.specs.Find.{get}
use Rattle.ent_policy.specs.declared.document.Effect.{Effect}
use Rattle.ent_policy.specs.declared.document.Effect.TheVariants.{Permit, Deny}
use Rattle.ent_policy.specs.declared.fault.DocFault.{DocFault}
use Rattle.ent_policy.specs.declared.fault.DocFault.TheVariants as fault
use Rattle.ent_policy.specs.declared.raw.RawAssignment.{RawAssignment}
use Rattle.ent_policy.specs.declared.raw.RawGivenExpression.{RawGivenExpression}
use Rattle.ent_policy.specs.declared.raw.RawGivenExpressions.{RawGivenExpressions}
use Rattle.ent_json.specs.Objects.{has_only, text_at, list_at}
use Rattle.ent_polform.specs.Objects.{◌>>=◌, list_by}
use Rattle.ent_polform.specs.Reading.{part, formed, maybe, text_of}
use Rattle.ent_polform.specs.Expressions.{expression_of}

-- an Effect (section 5.22)
abbrev pub effect_of : List ℕ → Option Effect
effect_of word = if bytes_eq word (codes "Permit") then Some Permit else (if bytes_eq word (codes "Deny") then Some Deny else None)

-- an AttributeAssignmentExpression (section 5.41)
unfoldable pub assignment_of : Data → Result RawAssignment DocFault
assignment_of d = formed (has_only (codes "AttributeId" ∷ codes "Category" ∷ codes "Expression" ∷ codes "Issuer" ∷ []) d) (do
  attribute ← part (text_at (codes "AttributeId") d)
  category ← maybe text_of (get (codes "Category") d)
  issuer ← maybe text_of (get (codes "Issuer") d)
  expression ← part (get (codes "Expression") d) >>= expression_of
  Ok (record { attribute = attribute; category = category; issuer = issuer; expression = expression }))

-- an ObligationExpression (section 5.39) or an AdviceExpression (section 5.40), by the keys of its id and of its effect
unfoldable pub given_by : List ℕ → List ℕ → Data → Result RawGivenExpression DocFault
given_by id_key effect_key d = formed (has_only (codes "AttributeAssignmentExpression" ∷ effect_key ∷ id_key ∷ []) d) (do
  id ← part (text_at id_key d)
  effect ← part (option_and_then effect_of (text_at effect_key d))
  assignments ← list_by fault.Form assignment_of (list_at (codes "AttributeAssignmentExpression") d)
  Ok (record { id = id; effect = effect; assignments = assignments }))

-- the ObligationExpressions (section 5.37) and the AdviceExpressions (section 5.38) of a rule, a policy or a set
unfoldable pub given_of : Data → Result RawGivenExpressions DocFault
given_of d = do
  obligations ← list_by fault.Form (given_by (codes "ObligationId") (codes "FulfillOn")) (list_at (codes "ObligationExpressions") d)
  advice ← list_by fault.Form (given_by (codes "AdviceId") (codes "AppliesTo")) (list_at (codes "AdviceExpressions") d)
  Ok (record { obligations = obligations; advice = advice })
