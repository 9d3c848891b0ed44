-- The permits among the cells that a report is made of.
use Rattle.std.specs.Prelude.{ℕ, List, filter, map}
use Rattle.ent_request.specs.declared.answer.Answer.{Answer}
use Rattle.ent_table.specs.Names.{Triple}
use Rattle.ent_report.specs.Reports.{is_permit}

-- the action and the resource of each Permit cell
abbrev pub permitted : List (Triple × Answer) → List (List ℕ × List ℕ)
permitted cells = map (λ c. (c.0.action, c.0.resource)) (filter (λ c. is_permit c.1.decision) cells)

-- each person whose answer is a Permit
abbrev pub permitted_people : List (List ℕ × Answer) → List (List ℕ)
permitted_people answers = map (λ c. c.0) (filter (λ c. is_permit c.1.decision) answers)
