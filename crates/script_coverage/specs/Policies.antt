-- The policies of documents.
use Rattle.std.specs.Prelude.{ℕ, zero, suc, List, [], ◌∷◌, ◌++◌, Option, Some, None, codes}
use Rattle.std.specs.List.{flat_map}
use Rattle.serde_json.specs.Data.{Data}
use Rattle.serde_json.specs.Find.{get}
use Rattle.script_compare.specs.Shown.{members_at}

-- a policy, if there is one
abbrev pub policy_if : Option Data → List Data
policy_if None = []
policy_if (Some policy) = policy ∷ []

-- those of the children of a set, if there is one
abbrev pub set_policies : (Data → List Data) → Option Data → List Data
set_policies inner None = []
set_policies inner (Some set) = flat_map inner (members_at (codes "Children") set)

-- the policies of a document or of a child of a set, looked into so many levels deep (sections 5.1 and 5.14)
abbrev pub policies_in : ℕ → Data → List Data
policies_in zero child = []
policies_in (suc levels) child = policy_if (get (codes "Policy") child) ++ set_policies (policies_in levels) (get (codes "PolicySet") child)
