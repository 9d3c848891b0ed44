use Rattle.std.proofs.Common.{◌∙◌}
use Rattle.ent_index.proofs.Members.{has_same}
use Rattle.ent_index.proofs.WantedOf.{asking_next, asking_start, more_then}
use Rattle.ent_index.proofs.groups.Groups.add_asking.Goals as goal

pub loop-group-init : goal.loop-group-init
loop-group-init c = (
  tt,
  tt,
  asking_start c.args.self.now.groups c.args.number _ c.args.cells.now (c.into_iter-group-iterator.ensures.into_iter_gives ∙ c.iter-group-items.ensures.rest),
  has_same c.args.cells.now,
)

pub loop-group-preserved : goal.loop-group-preserved
loop-group-preserved c = (
  tt,
  tt,
  asking_next c.args.self.now.groups c.args.number _ _ _ _ c.loop-group.cells c.add_group.new.cells c.in-Some.ensures.steps c.in_ok-add_group.ensures.cells c.in_ok-add_group.ensures.more c.loop-group.invariant.2,
  more_then c.args.cells.now c.loop-group.cells c.add_group.new.cells c.loop-group.invariant.3 c.in_ok-add_group.ensures.more,
)
