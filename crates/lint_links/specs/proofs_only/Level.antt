-- One level of the references of a document.
use Rattle.std.specs.Prelude.{map}
use Rattle.ent_policy.specs.declared.document.PolicySet.{PolicySet}
use Rattle.lint_links.specs.References.{Below, numbered, references_below}

-- the references of a policy set
abbrev pub references_in_set : PolicySet → Below
references_in_set set path = numbered 0 (map references_below set.children) path
