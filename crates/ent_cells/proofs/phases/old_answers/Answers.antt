use Rattle.std.proofs.Common.{None, Some, append-nil, ap, sym, ◌∙◌}
use Rattle.ent_cells.proofs.Olds.{olds_more}
use Rattle.ent_cells.proofs.phases.old_answers.Goals as goal
use Rattle.ent_cells.proofs.phases.old_answers.Goals.{in-Some+in_ok-push, in_default}

pub loop-key-preserved : goal.loop-key-preserved
loop-key-preserved g c =
    let s = c.args.store.now.cells in
    let keys = c.args.keys.now in
    let i = c.loop-key.key-index in
    elim c.match-branch-2.branch [
      | in-Some+in_ok-push w ↦
          ap (λ v. v.items) w.olds-is ∙ w.in_ok-push.ensures.items
          ∙ olds_more s keys i (Some w.in-Some.old) c.loop-key.olds.items c.loop-key-test.true (sym w.in-Some.is ∙ c.in_ok-old.ensures) c.loop-key.invariant
      | in_default w ↦
          ap (λ v. v.items) w.olds-is ∙ sym (append-nil c.loop-key.olds.items)
          ∙ olds_more s keys i None c.loop-key.olds.items c.loop-key-test.true (sym w.in_default.is ∙ c.in_ok-old.ensures) c.loop-key.invariant
    ]
