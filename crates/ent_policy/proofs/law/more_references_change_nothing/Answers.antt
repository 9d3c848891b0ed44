use Rattle.ent_policy.proofs.Ending.{ends_by_definitions}
use Rattle.ent_policy.proofs.References.{more_references}
use Rattle.ent_policy.proofs.law.more_references_change_nothing.Goals as goal

pub returns-clause-counts : goal.returns-clause-counts
returns-clause-counts c = more_references

pub returns-clause-types : goal.returns-clause-types
returns-clause-types c = more_references

pub returns-clause-ends : goal.returns-clause-ends
returns-clause-ends c = ends_by_definitions
