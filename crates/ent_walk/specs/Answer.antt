-- The answer to a request, what is asked for it, and the look-ups that it rests on.
use Rattle.std.specs.Prelude.{ℕ, List, [], Bool, Option, Some, None}
use Rattle.std.specs.List.{flat_map}
use Rattle.ent_policy.specs.declared.key.Reference.{Reference}
use Rattle.ent_request.specs.declared.answer.Answer.{Answer}
use Rattle.ent_request.specs.declared.cause.Cause.{Cause}
use Rattle.ent_request.specs.declared.key.ReadKey.{ReadKey}
use Rattle.ent_request.specs.declared.question.Question.{Question}
use Rattle.ent_request.specs.declared.question.Question.TheVariants.{Root}
use Rattle.ent_request.specs.declared.request.Request.{Request}
use Rattle.ent_request.specs.Causes.{are_any, named_first, told_once}
use Rattle.ent_request.specs.Plain.{nothing}
use Rattle.ent_request.specs.Looks.{Looks}
use Rattle.ent_walk.specs.Judged.{has_failed}
use Rattle.ent_walk.specs.Node.{followed, refer}
use Rattle.ent_request.specs.Note.{causes_in, first_cause, questions_in}
use Rattle.ent_request.specs.Noted.{noted}
use Rattle.ent_request.specs.Part.{Part, settled, without_look, after_look}
use Rattle.ent_request.specs.Sources.{keys_of}

-- on each path from the root at most six references are followed; the seventh looks nothing up
abbrev pub most_hops : ℕ
most_hops = 6

-- the root's document, if there is a root, which counts as none of the six
abbrev pub root_part : Looks → Request → Option Reference → Part Answer
root_part looks request None = without_look nothing
root_part looks request (Some reference) =
    settled has_failed ((followed looks request (refer looks request most_hops) reference).answer [])

-- the answer, with its questions, of which the first is the root
abbrev pub answer_part : Looks → Request → Part Answer
answer_part looks request = after_look Root (root_part looks request looks.root)

-- the answer to a request
abbrev pub answer : Looks → Request → Answer
answer looks request = (answer_part looks request).value

-- the questions that are asked for it, each as often as it is
abbrev pub asked : Looks → Request → List Question
asked looks request = questions_in (answer_part looks request).notes

-- the keys that are looked up for it, each as often as it is
abbrev pub looked_up : Looks → Request → List ReadKey
looked_up looks request = flat_map (keys_of request) (asked looks request)

-- the same keys, each once
abbrev pub recorded : Looks → Request → List ReadKey
recorded looks request = noted [] (looked_up looks request)

-- the causes: the parts that came to Indeterminate by themselves, in the order of evaluation, each once
abbrev pub causes : Looks → Request → List Cause
causes looks request = told_once [] (causes_in (answer_part looks request).notes)

-- the cause that is named of an Indeterminate answer: the first that isn't passed over. So it is that of the target of
-- an element, or else of its first child that is seen to be Indeterminate, or else of what it gives itself
abbrev pub named : Looks → Request → Option Cause
named looks request = first_cause (answer_part looks request).notes

-- the causes, the one that is named before the others
abbrev pub causes_told : Looks → Request → List Cause
causes_told looks request = named_first (named looks request) (causes looks request)

-- whether there is a cause
abbrev pub has_cause : Looks → Request → Bool
has_cause looks request = are_any (causes looks request)
