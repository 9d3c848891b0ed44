-- Reports of the fresh table, in list order.
use Rattle.std.specs.Prelude.{ℕ, ◌-◌, List, map, filter, length, Bool, true, false, ◌&&◌, if◌then◌else◌, bytes_eq, Option, Some, None, slice_get, Result, Ok, Err}
use Rattle.std.specs.List.{list_any}
use Rattle.std.specs.Option.{option_map_or}
use Rattle.ent_combine.specs.declared.outcome.Outcome.{Outcome}
use Rattle.ent_combine.specs.declared.outcome.Outcome.TheVariants.{Permit, Deny, NotApplicable, Ind}
use Rattle.ent_request.specs.declared.answer.Answer.{Answer}
use Rattle.ent_request.specs.declared.answer.WhyEntry.{WhyEntry}
use Rattle.ent_policy.specs.declared.key.DocKey.{DocKey}
use Rattle.ent_table.specs.Failed.{has_failed}
use Rattle.ent_table.specs.Names.{Triple, has_name}
use Rattle.ent_table.specs.State.{State, table_of}
use Rattle.ent_report.specs.declared.counts.Counts.{Counts}
use Rattle.ent_report.specs.declared.fault.ReportFault.{ReportFault}
use Rattle.ent_report.specs.declared.fault.ReportFault.TheVariants.{NotThere}

-- ---- counts

abbrev pub is_deny : Outcome → Bool
is_deny Deny = true
is_deny _ = false

abbrev pub is_indeterminate : Outcome → Bool
is_indeterminate (Ind kind) = true
is_indeterminate _ = false

abbrev pub is_not_applicable : Outcome → Bool
is_not_applicable NotApplicable = true
is_not_applicable _ = false

abbrev pub is_permit : Outcome → Bool
is_permit Permit = true
is_permit _ = false

-- how many cells have a decision of a sort
abbrev pub counted : (Outcome → Bool) → List (Triple × Answer) → ℕ
counted test cells = length (filter (λ c. test c.1.decision) cells)

-- how many have each sort
abbrev pub counts_in : List (Triple × Answer) → Counts
counts_in cells = record {
  deny = counted is_deny cells;
  indeterminate = counted is_indeterminate cells;
  not_applicable = counted is_not_applicable cells;
  permit = counted is_permit cells;
}

-- of all cells
abbrev pub counts : State → Counts
counts s = counts_in (table_of s)

-- ---- what a person can do, and who can do something

-- whether a cell is a Permit of that person
abbrev pub is_permit_of : List ℕ → Triple × Answer → Bool
is_permit_of person c = bytes_eq c.0.person person && is_permit c.1.decision

-- whether a cell is a Permit of that action and that resource
abbrev pub is_permit_to : List ℕ → List ℕ → Triple × Answer → Bool
is_permit_to action resource c = bytes_eq c.0.action action && (bytes_eq c.0.resource resource && is_permit c.1.decision)

-- the action and the resource of each Permit cell of a person
abbrev pub can_in : List ℕ → List (Triple × Answer) → List (List ℕ × List ℕ)
can_in person cells = map (λ c. (c.0.action, c.0.resource)) (filter (is_permit_of person) cells)

-- the person of each Permit cell of an action and a resource
abbrev pub who_in : List ℕ → List ℕ → List (Triple × Answer) → List (List ℕ)
who_in action resource cells = map (λ c. c.0.person) (filter (is_permit_to action resource) cells)

-- ---- what a rule decides

-- whether two optional ids are the same
abbrev pub same_rule : Option (List ℕ) → Option (List ℕ) → Bool
same_rule None None = true
same_rule (Some a) (Some b) = bytes_eq a b
same_rule _ _ = false

-- whether a path ends in a document or an element of that id, of any kind and version
abbrev pub ends_in : List ℕ → List DocKey → Bool
ends_in id path = option_map_or (λ key. bytes_eq key.id id) (slice_get path (length path - 1)) false

-- whether a rule of an element of that id, or its default, gave a decision
abbrev pub is_entry_of : List ℕ → Option (List ℕ) → WhyEntry → Bool
is_entry_of policy rule entry = ends_in policy entry.path && same_rule entry.rule rule

-- whether an answer has an entry of that rule
abbrev pub has_rule : List ℕ → Option (List ℕ) → Answer → Bool
has_rule policy rule answer = list_any (is_entry_of policy rule) answer.why

-- the request of each cell that has one, person first
abbrev pub by_rule_in : List ℕ → Option (List ℕ) → List (Triple × Answer) → List (List ℕ × List ℕ × List ℕ)
by_rule_in policy rule cells = map (λ c. (c.0.person, c.0.action, c.0.resource)) (filter (λ c. has_rule policy rule c.1) cells)

-- ---- over a state

-- the cells of which a part failed, whatever their decision
abbrev pub faults : State → List (Triple × Answer)
faults s = filter (λ c. has_failed s c.0) (table_of s)

abbrev pub can : State → List ℕ → Result (List (List ℕ × List ℕ)) ReportFault
can s person = if has_name person s.names.people then Ok (can_in person (table_of s)) else Err NotThere

abbrev pub who : State → List ℕ → List ℕ → Result (List (List ℕ)) ReportFault
who s action resource =
    if has_name action s.names.actions && has_name resource s.names.resources then Ok (who_in action resource (table_of s)) else Err NotThere

abbrev pub by_rule : State → List ℕ → Option (List ℕ) → List (List ℕ × List ℕ × List ℕ)
by_rule s policy rule = by_rule_in policy rule (table_of s)
