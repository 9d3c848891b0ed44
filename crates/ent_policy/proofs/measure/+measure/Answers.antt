use Rattle.std.proofs.Common.{◌≡◌, cond, Some, None}
use Rattle.ent_policy.specs.proofs_only.Measure.{found}
use Rattle.ent_policy.proofs.Arguments.{measured_more, with_none, with_some, with_type}
use Rattle.ent_policy.proofs.measure.+measure.Goals as goal
use Rattle.ent_policy.proofs.measure.+measure.Goals.{all_measured-in-Some+in_ok-push-in-Some, all_measured-in-None}

pub all_measured-loop-argument-preserved : goal.all_measured-loop-argument-preserved
all_measured-loop-argument-preserved t c =
    let one = c.in_ok-one.one in
    let l = c.loop-argument in
    let types : cond c.match-one.typed (Some c.match-one.types.items) None ≡ with_type one.datatype (cond l.typed (Some l.types.items) None) =
    elim c.match-one.branch [
      | all_measured-in-Some+in_ok-push-in-Some w ↦ with_some l.typed c.match-one.typed l.types.items c.match-one.types.items one.datatype w.in-Some.datatype w.typed-is (rw w.types-is w.in_ok-push-in-Some.ensures.items) w.in-Some.is
      | all_measured-in-None w ↦ with_none l.typed c.match-one.typed l.types.items c.match-one.types.items one.datatype w.typed-is w.in-None.is
    ] in
    measured_more (found c.args.table.now) c.args.arguments.now l.argument-index c.argument-item.result one l.nodes l.depth c.added-nodes.result c.max-depth.result _ _
    c.loop-argument-test.true c.argument-item.is c.in_ok-one.ensures c.added-nodes.ensures c.max-depth.ensures types l.invariant
