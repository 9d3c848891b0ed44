use Rattle.ent_combine.proofs.Naming.{rule_ids_read_back, policy_ids_read_back}
use Rattle.ent_combine.proofs.identifiers.identifiers_read_back.Goals as goal

pub returns-clause-rules : goal.returns-clause-rules
returns-clause-rules c = rule_ids_read_back

pub returns-clause-policies : goal.returns-clause-policies
returns-clause-policies c = policy_ids_read_back
