-- Which definitions refer to which, as the code keeps it: words of its own contracts.
use Rattle.std.specs.Prelude.{ℕ, List, [], Bool, false, ◌||◌, Option, Some, None, get_or}
use Rattle.std.specs.Borrow.{Bor}
use Rattle.std.specs.BTreeSet.{BTreeSet}
use Rattle.std.specs.Global.{Vec}
use Rattle.std.specs.List.{list_any}
use Rattle.serde_json.specs.Data.{Data}
use Rattle.ent_policy.specs.declared.raw.RawVariableDefinition.{RawVariableDefinition}
use Rattle.ent_policy.specs.proofs_only.Order.{has_id}
use Rattle.lint_places.specs.Led.{links, numbers_of}
use Rattle.lint_places.specs.declared.part.Part.{Part}
use Rattle.lint_places.specs.declared.part.Part.TheVariants as part

-- a definition is led to, or one of those that refer to its variable is
abbrev pub is_reached_by : List Bool → Bool × Vec ℕ → Bool
is_reached_by led d = d.0 || list_any (λ number. get_or led number false) d.1.items

-- the numbers of the definitions that refer to the variable of one of them, by the ids that each refers to
abbrev pub by_noted : List (BTreeSet (Bor (List ℕ))) → Option RawVariableDefinition → List ℕ
by_noted noted None = []
by_noted noted (Some v) = numbers_of (λ ids. has_id ids v.id) 0 noted

-- of a list of definitions, which refer to which; of another part nothing
abbrev pub links_in : Part → List Data → List (List ℕ)
links_in part.Definitions ds = links ds
links_in _ ds = []
