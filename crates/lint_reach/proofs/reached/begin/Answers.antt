use Rattle.std.proofs.Common.{map}
use Rattle.ent_finder.specs.Slots.{held}
use Rattle.lint_reach.proofs.Searching.{sound_new}
use Rattle.lint_reach.proofs.reached.begin.Goals as goal

pub look_for-requires : goal.look_for-requires
look_for-requires g c =
    sound_new (map held (g.P.Policies.slots c.args.policies.now)) c.new-search.result c.new-search.ensures.references
