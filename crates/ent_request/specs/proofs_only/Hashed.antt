-- What a hasher is fed for questions.
use Rattle.std.specs.Prelude.{◌≡◌, ℕ, ◌++◌, [], List, Option, None, Some, true}
use Rattle.std.specs.Hash as fed
use Rattle.std.specs.Hash.{HashWrites}
use Rattle.std.specs.List.{flat_map}
use Rattle.std.proofs.Common.{ap}
use Rattle.ent_values.proofs.Telling.{Tells, decided, enum, last}
use Rattle.ent_policy.proofs.Same.{same_reference-Decides}
use Rattle.ent_policy.specs.declared.key.Reference.{Reference}
use Rattle.ent_policy.specs.declared.pattern.PatternPart.{PatternPart}
use Rattle.ent_policy.specs.declared.pattern.PatternPart.TheVariants.{Any, More, Number}
use Rattle.ent_request.specs.contracts.question.Question as question
use Rattle.ent_request.specs.declared.question.Question.{Question}
use Rattle.ent_request.specs.declared.question.Question.TheVariants.{Of, Ref, Root}
use Rattle.ent_request.specs.proofs_only.Telling.{asked-tells}
use Rattle.ent_request.specs.Questions.{same_question}

-- of a part of a pattern: its number, or one that no part has
abbrev pub part_input : PatternPart → HashWrites
part_input (Number n) = fed.u32 n
part_input Any = fed.u32 4294967293
part_input More = fed.u32 4294967294

-- of a pattern, if there is one: its parts, and where it ends
abbrev pub pattern_input : Option (List PatternPart) → HashWrites
pattern_input None = fed.u32 4294967295
pattern_input (Some parts) = flat_map part_input parts ++ fed.u32 4294967295

-- of a reference: its id and its patterns
abbrev pub reference_input : Reference → HashWrites
reference_input r = fed.str r.id ++ (pattern_input r.constraints.version ++ (pattern_input r.constraints.earliest ++ pattern_input r.constraints.latest))

-- of an attribute: its id, its category and its issuer
abbrev pub attribute_input : List ℕ → List ℕ → Option (List ℕ) → HashWrites
attribute_input attribute category issuer = fed.str attribute ++ (fed.str category ++ fed.option fed.str issuer)

-- of a question
abbrev pub question_input : Question → HashWrites
question_input Root = []
question_input (Ref reference) = reference_input reference
question_input (Of a) = attribute_input a.attribute a.category a.issuer

pub question-tells : (q : Question) → Tells same_question q
question-tells = enum question.enum _ (last (decided same_reference-Decides), (last asked-tells, tt))

-- equal questions are fed alike
pub question_alike : (a b : Question) → same_question a b ≡ true → question_input a ≡ question_input b
question_alike a b h = ap question_input (question-tells a b h)
