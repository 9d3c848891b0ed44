use Rattle.ent_trace.proofs.MetBefore.{taken_first}
use Rattle.ent_trace.proofs.distinct.taken_at.Goals as goal

pub returns-clause-others : goal.returns-clause-others
returns-clause-others c =
    taken_first c.args.causes.now.keys c.shift_remove_index.new.self.keys c.args.place c.shift_remove_index.result
    c.requires c.shift_remove_index.ensures.key c.shift_remove_index.ensures.keys
