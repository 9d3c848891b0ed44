use Rattle.std.proofs.Common.{◌≡◌, ◌++◌}
use Rattle.ent_log.specs.Difference.{changes_among}
use Rattle.ent_log.proofs.since.changes_of.Given as goal

abbrev pub invariant-loop-key : goal.invariant-loop-key
invariant-loop-key g l =
    let eq = g.A.PartialEq.eq in
    let now = g.P.Present.answers l.present in
    l.changes.items ++ changes_among eq now l.key-iterator ≡ changes_among eq now l.fn.old_answers.entries
