-- When the parts of an evaluator fit each other, and what they are then.
use Rattle.ent_eval.specs.Evaluator.{Evaluator}
use Rattle.ent_eval.specs.LooksOf.{looks_of}
use Rattle.ent_evaluator.specs.Memory.{Remembers}
use Rattle.ent_evaluator.specs.declared.parts.EvaluatorParts.{EvaluatorParts}

-- what is remembered is so over what is held, by the numbers of the questions
abbrev pub Knows : {A P : Type 0} → EvaluatorParts A P → Type 0
Knows parts = Remembers (looks_of parts.pdp) parts.questions parts.memory

-- the evaluator that they are
abbrev pub evaluator_in : {A P : Type 0} → EvaluatorParts A P → Evaluator
evaluator_in parts = record { pdp = parts.pdp; questions = parts.questions }
