-- The cells that a selection of the code has.
use Rattle.std.specs.Prelude.{ℕ, List, Option, Bool, true, ◌&&◌, option_copied, bytes_eq}
use Rattle.std.specs.Option.{option_map_or}
use Rattle.ent_combine.specs.declared.outcome.IndKind.TheVariants as kind
use Rattle.ent_combine.specs.declared.outcome.Outcome.{Outcome}
use Rattle.ent_combine.specs.declared.outcome.Outcome.TheVariants as outcome
use Rattle.ent_request.specs.declared.answer.Answer.{Answer}
use Rattle.ent_table.specs.Names.{Names, Triple, has_name}
use Rattle.ent_line.specs.declared.selecting.Decisions.{Decisions}
use Rattle.ent_line.specs.declared.selecting.Selection.{Selection}

-- a decision is one of some
abbrev pub holds : Decisions → Outcome → Bool
holds decisions outcome.Permit = decisions.permit
holds decisions outcome.Deny = decisions.deny
holds decisions outcome.NotApplicable = decisions.not_applicable
holds decisions (outcome.Ind kind.P) = decisions.p
holds decisions (outcome.Ind kind.D) = decisions.d
holds decisions (outcome.Ind kind.DP) = decisions.dp

-- a cell is one of a selection
abbrev pub selects : Selection → Triple × Answer → Bool
selects s c =
    option_map_or (bytes_eq c.0.person) (option_copied s.person) true && (option_map_or (bytes_eq c.0.action) (option_copied s.action) true
    && (option_map_or (bytes_eq c.0.resource) (option_copied s.resource) true && holds s.decisions c.1.decision))

-- the names that are given are listed
abbrev pub names_listed : Names → Option (List ℕ) → Option (List ℕ) → Option (List ℕ) → Bool
names_listed names person action resource =
    option_map_or (λ n. has_name n names.people) person true
    && (option_map_or (λ n. has_name n names.actions) action true && option_map_or (λ n. has_name n names.resources) resource true)
