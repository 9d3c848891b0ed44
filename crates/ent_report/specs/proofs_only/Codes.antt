-- How what a desk is can be told apart by the kit: a word of the code's own contracts.
use Rattle.std.specs.Prelude.{ℕ, List, Option, refl}
use Rattle.std.specs.Coded.{Coded, code_by, coded×, coded_list, coded_option, coded_ℕ}
use Rattle.std.specs.FinMap.{code}
use Rattle.ent_request.specs.contracts.answer.Answer as answer
use Rattle.ent_eval.specs.contracts.who.Who as whose
use Rattle.ent_table.specs.AnswerMap.{AnswerMap}
use Rattle.ent_table.specs.Reviewed.{Past}
use Rattle.ent_table.specs.State.{State}
use Rattle.ent_table.specs.proofs_only.Codes.{past_code, state_code}
use Rattle.ent_report.specs.contracts.counts.Counts as counts
use Rattle.ent_report.specs.declared.counts.Counts.{Counts}
use Rattle.ent_report.specs.Desk.{Desked}
use Rattle.ent_report.specs.World.{Mark, World}

-- a mark is stored as the pair of both
abbrev pub mark_code : Coded Mark
mark_code =
    code_by (ℕ × AnswerMap) (coded× coded_ℕ (code whose.the_row.coded answer.the_row.coded))
    (λ m. (m.serial, m.table)) (λ p. record { serial = p.0; table = p.1 }) (λ _. refl)

-- a world, as the pair of both
abbrev pub world_code : Coded World
world_code =
    code_by (State × List (Option Mark)) (coded× state_code (coded_list (coded_option mark_code)))
    (λ w. (w.state, w.marks)) (λ p. record { state = p.0; marks = p.1 }) (λ _. refl)

-- a desk, as its four parts
abbrev pub desked_code : Coded Desked
desked_code =
    code_by (World × (Past × (ℕ × Option Counts)))
    (coded× world_code (coded× past_code (coded× coded_ℕ (coded_option counts.the_row.coded))))
    (λ d. (d.world, (d.past, (d.evaluations, d.counts))))
    (λ p. record { world = p.0; past = p.1.0; evaluations = p.1.1.0; counts = p.1.1.1 }) (λ _. refl)
