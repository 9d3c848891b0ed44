-- Which cells are asked for.
use Rattle.std.specs.Prelude.{ℕ, List, codes, [], ◌∷◌, Bool, true, false, ◌&&◌, ◌||◌, Option, Some, None, option_map, bytes_eq, if◌then◌else◌}
use Rattle.ent_combine.specs.declared.outcome.IndKind.TheVariants as kind
use Rattle.ent_combine.specs.declared.outcome.Outcome.{Outcome}
use Rattle.ent_combine.specs.declared.outcome.Outcome.TheVariants as outcome
use Rattle.std.specs.List.{list_any}
use Rattle.std.specs.Option.{option_map_or}
use Rattle.serde_json.specs.Data as json
use Rattle.serde_json.specs.Data.{Data, Items}
use Rattle.serde_json.specs.Find.{as_array, as_str, get}
use Rattle.ent_combine.specs.declared.outcome.IndKind.TheVariants.{P, D, DP}
use Rattle.ent_combine.specs.declared.outcome.Outcome.TheVariants.{Permit, Deny, NotApplicable, Ind}
use Rattle.ent_request.specs.declared.answer.Answer.{Answer}
use Rattle.ent_json.specs.Objects.{text_at, text_or_absent}
use Rattle.ent_table.specs.Names.{Names, Triple, has_name}
use Rattle.ent_command.specs.Keys.{◌>>=◌}

-- the word of a decision; what an Indeterminate could have been stands in braces
abbrev pub decision_text : Outcome → List ℕ
decision_text outcome.Permit = codes "Permit"
decision_text outcome.Deny = codes "Deny"
decision_text outcome.NotApplicable = codes "NotApplicable"
decision_text (outcome.Ind kind.P) = codes "Indeterminate{P}"
decision_text (outcome.Ind kind.D) = codes "Indeterminate{D}"
decision_text (outcome.Ind kind.DP) = codes "Indeterminate{DP}"

-- the person, the action, the resource and the decisions of the cells that are asked for, where they are given
pub record Wanted : Type 0 where
  pub person : Option (List ℕ)
  pub action : Option (List ℕ)
  pub resource : Option (List ℕ)
  pub decisions : Option Items

-- ---- what a line asks for

-- the text at a key, which may be absent
abbrev pub optional_text : List ℕ → Data → Option (Option (List ℕ))
optional_text key d = if text_or_absent key d then Some (text_at key d) else None

-- the decisions that there are
abbrev pub every_decision : List Outcome
every_decision = Permit ∷ Deny ∷ NotApplicable ∷ Ind P ∷ Ind D ∷ Ind DP ∷ []

-- a value is the word of a decision, as a cell writes it
abbrev pub is_word_of : Data → Outcome → Bool
is_word_of d decision = option_map_or (λ word. bytes_eq word (decision_text decision)) (as_str d) false

-- each member of a list is that of some decision
abbrev pub are_decisions : Items → Bool
are_decisions json.no_items = true
are_decisions (json.item d ds) = list_any (is_word_of d) every_decision && are_decisions ds

-- the decisions in an array, which may be absent
abbrev pub optional_decisions : Data → Option (Option Items)
optional_decisions d = option_map_or (λ v. as_array v >>= λ ds. if are_decisions ds then Some (Some ds) else None) (get (codes "decisions") d) (Some None)

-- what is wanted, where the shape is right
unfoldable pub wanted_in : Data → Option Wanted
wanted_in d = do
  person ← optional_text (codes "person") d
  action ← optional_text (codes "action") d
  resource ← optional_text (codes "resource") d
  option_map (λ decisions. record { person = person; action = action; resource = resource; decisions = decisions }) (optional_decisions d)

-- ---- which cells these are

-- a list has a decision
abbrev pub has_decision : Outcome → Items → Bool
has_decision decision json.no_items = false
has_decision decision (json.item d ds) = is_word_of d decision || has_decision decision ds

-- a cell is asked for: it has all that is given
abbrev pub is_asked : Wanted → Triple × Answer → Bool
is_asked w c =
    option_map_or (bytes_eq c.0.person) w.person true && (option_map_or (bytes_eq c.0.action) w.action true
    && (option_map_or (bytes_eq c.0.resource) w.resource true && option_map_or (has_decision c.1.decision) w.decisions true))

-- the names that are given are listed
abbrev pub are_listed : Names → Wanted → Bool
are_listed names w =
    option_map_or (λ person. has_name person names.people) w.person true
    && (option_map_or (λ action. has_name action names.actions) w.action true
    && option_map_or (λ resource. has_name resource names.resources) w.resource true)
