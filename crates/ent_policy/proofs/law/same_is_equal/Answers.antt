use Rattle.ent_policy.proofs.Documents.{same_document-Decides}
use Rattle.ent_policy.proofs.Patterns.{same_constraints-Decides, same_pattern-Decides}
use Rattle.ent_policy.proofs.Same.{same_key-Decides, same_kind-Decides, same_name-Decides, same_reference-Decides, same_version-Decides}
use Rattle.ent_policy.proofs.law.same_is_equal.Goals as goal

pub returns-clause-kinds : goal.returns-clause-kinds
returns-clause-kinds c = same_kind-Decides

pub returns-clause-names : goal.returns-clause-names
returns-clause-names c = same_name-Decides

pub returns-clause-versions : goal.returns-clause-versions
returns-clause-versions c = same_version-Decides

pub returns-clause-patterns : goal.returns-clause-patterns
returns-clause-patterns c = same_pattern-Decides

pub returns-clause-constraints : goal.returns-clause-constraints
returns-clause-constraints c = same_constraints-Decides

pub returns-clause-keys : goal.returns-clause-keys
returns-clause-keys c = same_key-Decides

pub returns-clause-references : goal.returns-clause-references
returns-clause-references c = same_reference-Decides

pub returns-clause-documents : goal.returns-clause-documents
returns-clause-documents c = same_document-Decides
