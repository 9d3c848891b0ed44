use Rattle.ent_policy.proofs.Orders.{keys_by_name, patterns_by_part, policies_first, references_by_name}
use Rattle.ent_policy.proofs.law.order_is_by_kind_id_and_version.Goals as goal

pub returns-clause-kinds : goal.returns-clause-kinds
returns-clause-kinds c = policies_first

pub returns-clause-patterns : goal.returns-clause-patterns
returns-clause-patterns c = patterns_by_part

pub returns-clause-keys : goal.returns-clause-keys
returns-clause-keys c = keys_by_name

pub returns-clause-references : goal.returns-clause-references
returns-clause-references c = references_by_name
