use Rattle.ent_policy.proofs.Wholes.{passed, passed_typed}
use Rattle.ent_policy.proofs.Within.{passed_within}
use Rattle.ent_policy.proofs.document.Document.tree.Goals as goal

pub returns-clause-same : goal.returns-clause-same
returns-clause-same c = c.self.view_is

pub returns-clause-checked : goal.returns-clause-checked
returns-clause-checked c = c.self.invariant

pub returns-clause-sound : goal.returns-clause-sound
returns-clause-sound c = passed c.self.inside.tree c.self.invariant

pub returns-clause-typed : goal.returns-clause-typed
returns-clause-typed c = passed_typed c.self.inside.tree c.self.invariant

pub returns-clause-within : goal.returns-clause-within
returns-clause-within c = passed_within c.self.inside.tree c.self.invariant
