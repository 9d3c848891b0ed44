-- A decision point as plain data.
use Rattle.std.specs.Prelude.{ℕ, List, Option, None}
use Rattle.ent_finder.specs.Rows.{Source}
use Rattle.ent_finder.specs.Slots.{Slots}
use Rattle.ent_policy.specs.declared.key.Reference.{Reference}
use Rattle.ent_request.specs.declared.environment.Environment.{Environment}
use Rattle.ent_request.specs.declared.environment.Environment.TheVariants.{Empty}

-- what each module of attributes has, and each module of documents, the root, what is known of the time, and how many
-- times a request was evaluated
pub record Point : Type 0 where
  pub sources : List Source
  pub slots : List Slots
  pub root : Option Reference
  pub environment : Environment
  pub evaluations : ℕ

-- these modules, without a root, where nothing is known of the time and nothing was evaluated
abbrev pub point_of : List Source → List Slots → Point
point_of sources slots = record { sources = sources; slots = slots; root = None; environment = Empty; evaluations = 0 }
