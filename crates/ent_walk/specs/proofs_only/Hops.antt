-- What children, references and sets come to where so many references may be followed on the way down from them.
use Rattle.std.specs.Prelude.{ℕ, List, [], ◌∷◌, ◌++◌, map}
use Rattle.ent_combine.specs.declared.outcome.RuleAlg.{RuleAlg}
use Rattle.ent_policy.specs.declared.document.Child.{Child}
use Rattle.ent_policy.specs.declared.document.PolicySet.{PolicySet}
use Rattle.ent_policy.specs.declared.key.DocKey.{DocKey}
use Rattle.ent_policy.specs.declared.key.Reference.{Reference}
use Rattle.ent_request.specs.declared.answer.Answer.{Answer}
use Rattle.ent_request.specs.declared.request.Request.{Request}
use Rattle.ent_walk.specs.declared.target.Targeted.{Targeted}
use Rattle.ent_walk.specs.Given.{finished}
use Rattle.ent_walk.specs.Judged.{has_failed}
use Rattle.ent_request.specs.Looks.{Looks}
use Rattle.ent_walk.specs.Node.{Node, children_after, children_part, combined, followed, node_with, refer, set_key}
use Rattle.ent_walk.specs.proofs_only.Node.{set_node_with}
use Rattle.ent_walk.specs.Only.{only_one}
use Rattle.ent_request.specs.Part.{Part, settled, within}
use Rattle.ent_walk.specs.Target.{target_part}

-- a child
abbrev pub node_of : Looks → Request → ℕ → Child → Node
node_of looks request hops = node_with looks request (refer looks request hops)

-- a set
abbrev pub set_node_of : Looks → Request → ℕ → PolicySet → Node
set_node_of looks request hops = set_node_with looks request (refer looks request hops)

-- what a child comes to
abbrev pub child_part : Looks → Request → ℕ → List DocKey → Child → Part Answer
child_part looks request hops path child = (node_of looks request hops child).answer path

-- what it comes to among others, where what fails in it is passed over unless it is Indeterminate
abbrev pub settled_child : Looks → Request → ℕ → List DocKey → Child → Part Answer
settled_child looks request hops path child = settled has_failed (child_part looks request hops path child)

-- the target of a child
abbrev pub child_target : Looks → Request → ℕ → Child → Part Targeted
child_target looks request hops child = (node_of looks request hops child).target

-- what a reference comes to
abbrev pub reference_part : Looks → Request → ℕ → List DocKey → Reference → Part Answer
reference_part looks request hops path reference = (refer looks request hops reference).answer path

-- the target of a reference
abbrev pub reference_target : Looks → Request → ℕ → Reference → Part Targeted
reference_target looks request hops reference = (refer looks request hops reference).target

-- what a reference that is followed comes to
abbrev pub followed_part : Looks → Request → ℕ → List DocKey → Reference → Part Answer
followed_part looks request hops path reference = (followed looks request (refer looks request hops) reference).answer path

-- children together, where `here` leads from the root to their set
abbrev pub children_combined : Looks → Request → ℕ → List DocKey → RuleAlg → List Child → Part Answer
children_combined looks request hops here algorithm children =
    combined here algorithm (map (settled_child looks request hops here) children)

-- the only one of some children that applies
abbrev pub only_child : Looks → Request → ℕ → List DocKey → List Child → Part Answer
only_child looks request hops here children = only_one (map (child_target looks request hops) children) (map (child_part looks request hops here) children)

-- the children of a set, where `path` leads from the root to what the set stands in
abbrev pub set_children : Looks → Request → ℕ → List DocKey → PolicySet → Part Answer
set_children looks request hops path set =
    children_part set.algorithm (map (node_of looks request hops) set.children) (path ++ set_key set.id set.version ∷ [])

-- what stands in a set behind its target
abbrev pub in_set : Looks → Request → ℕ → List DocKey → PolicySet → Targeted → Part Answer
in_set looks request hops path set =
    children_after (finished looks request [] set.given) (settled has_failed (set_children looks request hops path set))

-- what comes behind the target of a set
abbrev pub set_after : Looks → Request → ℕ → List DocKey → PolicySet → Targeted → Part Answer
set_after looks request hops path set targeted = within (set_key set.id set.version) (in_set looks request hops path set targeted)

-- the target of a set
abbrev pub set_target : Looks → Request → PolicySet → Part Targeted
set_target looks request set = within (set_key set.id set.version) (target_part looks request set.target)

-- what a set comes to
abbrev pub set_part : Looks → Request → ℕ → List DocKey → PolicySet → Part Answer
set_part looks request hops path set = (set_node_of looks request hops set).answer path
