use Rattle.std.proofs.Common.{◌∙◌, Some, ap}
use Rattle.ent_request.specs.proofs_only.Reason.{cause_of}
use Rattle.ent_trace.proofs.MetBefore.{cause_again, cause_at, same_there}
use Rattle.ent_trace.proofs.distinct.met.Goals as goal

pub returns-in-Ok-clause-causes : goal.returns-in-Ok-clause-causes
returns-in-Ok-clause-causes c =
    let causes = c.args.causes.now.keys in
    let cause = cause_of c.args.trail.now c.args.rule.now c.args.reason in
    cause_again causes cause (cause_at causes c.in-Ok.place cause c.in-Ok.ensures)

pub returns-in_ok-insert-in-Err-clause-place : goal.returns-in_ok-insert-in-Err-clause-place
returns-in_ok-insert-in-Err-clause-place c =
    let stored = c.in_ok-place-in-Err.ensures.stored in
    same_there c.insert_full.new.self.keys c.in_ok-cause-in-Err.cause stored.0 c.in_ok-place-in-Err.place stored.1
    stored.2 ∙ ap Some c.in_ok-cause-in-Err.ensures
