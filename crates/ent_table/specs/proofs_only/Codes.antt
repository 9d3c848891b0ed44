-- How what a review is can be told apart by the kit: a word of the code's own contracts.
use Rattle.std.specs.Prelude.{ℕ, List, Option, refl}
use Rattle.std.specs.Coded.{Coded, code_by, coded×, coded_list, coded_option, coded_ℕ}
use Rattle.std.specs.FinMap.{code}
use Rattle.ent_policy.specs.contracts.document.Document as document
use Rattle.ent_policy.specs.contracts.key.DocKey as key
use Rattle.ent_policy.specs.contracts.key.Reference as reference
use Rattle.ent_policy.specs.declared.key.Reference.{Reference}
use Rattle.ent_values.specs.contracts.value.Value as value
use Rattle.ent_finder.specs.contracts.row.RowKey as row
use Rattle.ent_finder.specs.Rows.{Source}
use Rattle.ent_finder.specs.Slots.{Docs}
use Rattle.ent_finder.specs.proofs_only.Rows.{source_code}
use Rattle.ent_request.specs.contracts.answer.Answer as answer
use Rattle.ent_request.specs.contracts.environment.Environment as environment
use Rattle.ent_request.specs.declared.answer.Answer.{Answer}
use Rattle.ent_request.specs.declared.environment.Environment.{Environment}
use Rattle.ent_request.specs.Held.{Held}
use Rattle.ent_eval.specs.contracts.who.Who as whose
use Rattle.ent_eval.specs.declared.who.Who.{Who}
use Rattle.ent_log.specs.contracts.entry.Logged as logged
use Rattle.ent_log.specs.declared.entry.Logged.{Logged}
use Rattle.ent_table.specs.contracts.limits.Limits as limits
use Rattle.ent_table.specs.declared.limits.Limits.{Limits}
use Rattle.ent_table.specs.Names.{Names}
use Rattle.ent_table.specs.Reviewed.{Past, Reviewed}
use Rattle.ent_table.specs.State.{State}

-- what is held is stored as its four parts
abbrev pub held_code : Coded Held
held_code =
    code_by (Option Reference × (List Docs × (List Source × Environment)))
    (coded× (coded_option reference.the_row.coded) (coded× (coded_list (code key.the_row.coded document.the_row.coded))
    (coded× (coded_list (source_code row.the_row.coded value.the_row.coded)) environment.the_row.coded)))
    (λ h. (h.root, (h.modules, (h.sources, h.environment))))
    (λ p. record { root = p.0; modules = p.1.0; sources = p.1.1.0; environment = p.1.1.1 }) (λ _. refl)

-- names, as the three lists
abbrev pub names_code : Coded Names
names_code =
    code_by (List (List ℕ) × (List (List ℕ) × List (List ℕ)))
    (coded× (coded_list (coded_list coded_ℕ))
    (coded× (coded_list (coded_list coded_ℕ)) (coded_list (coded_list coded_ℕ))))
    (λ n. (n.people, (n.actions, n.resources)))
    (λ p. record { people = p.0; actions = p.1.0; resources = p.1.1 }) (λ _. refl)

-- a state, as its four parts
abbrev pub state_code : Coded State
state_code =
    code_by (Held × (Names × (ℕ × Limits))) (coded× held_code (coded× names_code (coded× coded_ℕ limits.the_row.coded)))
    (λ s. (s.held, (s.names, (s.serial, s.limits))))
    (λ p. record { held = p.0; names = p.1.0; serial = p.1.1.0; limits = p.1.1.1 }) (λ _. refl)

-- what is known of earlier tables, as the pair of both
abbrev pub past_code : Coded Past
past_code =
    code_by (ℕ × List (Logged Who Answer))
    (coded× coded_ℕ (coded_list (logged.the_row whose.the_row answer.the_row).coded))
    (λ p. (p.from, p.logged)) (λ p. record { from = p.0; logged = p.1 }) (λ _. refl)

-- a review, as its three parts
abbrev pub reviewed_code : Coded Reviewed
reviewed_code =
    code_by (State × (Past × ℕ)) (coded× state_code (coded× past_code coded_ℕ))
    (λ r. (r.state, (r.past, r.evaluations)))
    (λ p. record { state = p.0; past = p.1.0; evaluations = p.1.1 }) (λ _. refl)
