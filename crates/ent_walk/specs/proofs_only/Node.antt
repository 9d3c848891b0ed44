-- What a policy and a set come to, step by step: words of the code's own contracts.
use Rattle.std.specs.Prelude.{List}
use Rattle.ent_policy.specs.declared.document.Policy.{Policy}
use Rattle.ent_policy.specs.declared.document.PolicySet.{PolicySet}
use Rattle.ent_policy.specs.declared.document.Child.TheFolds.{fold-PolicySet}
use Rattle.ent_policy.specs.declared.key.DocKey.{DocKey}
use Rattle.ent_policy.specs.declared.key.Reference.{Reference}
use Rattle.ent_request.specs.declared.answer.Answer.{Answer}
use Rattle.ent_request.specs.declared.request.Request.{Request}
use Rattle.ent_walk.specs.declared.target.Targeted.{Targeted}
use Rattle.ent_walk.specs.Given.{finished}
use Rattle.ent_request.specs.Looks.{Looks}
use Rattle.ent_walk.specs.Target.{target_part}
use Rattle.ent_request.specs.Part.{Part, settled, within}
use Rattle.ent_walk.specs.Judged.{has_failed}
use Rattle.ent_walk.specs.Node.{Node, child_step, children_after, policy_key, policy_rules, set_step}

-- what stands in a policy behind its target
abbrev pub in_policy : Looks → Request → List DocKey → Policy → Targeted → Part Answer
in_policy looks request path policy =
    children_after (finished looks request policy.variables policy.given)
    (settled has_failed (policy_rules looks request path policy))

-- what comes behind the target of a policy
abbrev pub policy_after : Looks → Request → List DocKey → Policy → Targeted → Part Answer
policy_after looks request path policy targeted = within (policy_key policy) (in_policy looks request path policy targeted)

-- the target of a policy
abbrev pub policy_target : Looks → Request → Policy → Part Targeted
policy_target looks request policy = within (policy_key policy) (target_part looks request policy.target)

-- a set, where `refer` gives what a reference comes to
abbrev pub set_node_with : Looks → Request → (Reference → Node) → PolicySet → Node
set_node_with looks request refer = fold-PolicySet Node Node (child_step looks request refer) (set_step looks request)
