-- How what a decision point is can be told apart by the kit: a word of the code's own contracts.
use Rattle.std.specs.Prelude.{ℕ, List, Option, refl}
use Rattle.std.specs.Coded.{Coded, code_by, coded×, coded_list, coded_option, coded_ℕ}
use Rattle.std.specs.FinMap.{code}
use Rattle.ent_policy.specs.contracts.document.Document as document
use Rattle.ent_policy.specs.contracts.key.DocKey as key
use Rattle.ent_policy.specs.contracts.key.Reference as reference
use Rattle.ent_policy.specs.declared.key.Reference.{Reference}
use Rattle.ent_values.specs.contracts.value.Value as value
use Rattle.ent_finder.specs.contracts.row.RowKey as row
use Rattle.ent_finder.specs.Rows.{Source}
use Rattle.ent_finder.specs.Slots.{Slots}
use Rattle.ent_finder.specs.proofs_only.Rows.{source_code}
use Rattle.ent_request.specs.contracts.environment.Environment as environment
use Rattle.ent_request.specs.declared.environment.Environment.{Environment}
use Rattle.ent_request.specs.contracts.question.Question as question
use Rattle.ent_request.specs.declared.question.Question.{Question}
use Rattle.ent_eval.specs.Evaluator.{Evaluator}
use Rattle.ent_eval.specs.Point.{Point}

-- a decision point is stored as its five parts
abbrev pub point_code : Coded Point
point_code =
    code_by (List Source × (List Slots × (Option Reference × (Environment × ℕ))))
    (coded× (coded_list (source_code row.the_row.coded value.the_row.coded))
    (coded× (coded_list (code key.the_row.coded (coded_option document.the_row.coded)))
    (coded× (coded_option reference.the_row.coded) (coded× environment.the_row.coded coded_ℕ))))
    (λ p. (p.sources, (p.slots, (p.root, (p.environment, p.evaluations)))))
    (λ p. record { sources = p.0; slots = p.1.0; root = p.1.1.0; environment = p.1.1.1.0; evaluations = p.1.1.1.1 })
    (λ _. refl)

-- an evaluator, as the pair of both
abbrev pub evaluator_code : Coded Evaluator
evaluator_code =
    code_by (Point × List Question) (coded× point_code (coded_list question.the_row.coded)) (λ e. (e.pdp, e.questions))
    (λ p. record { pdp = p.0; questions = p.1 }) (λ _. refl)
