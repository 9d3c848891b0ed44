use Rattle.std.proofs.Common.{subst, ◌∙◌}
use Rattle.ent_index.proofs.Changes.{adds_all, restored}
use Rattle.ent_index.specs.Index.{IsSound}
use Rattle.ent_index.proofs.index.Index.add.Goals as goal

pub returns-in-Err-clause-err : goal.returns-in-Err-clause-err
returns-in-Err-clause-err c =
    restored c.args.self.now c.args.keys.now c.as_slice-new.result.now c.args.cell (c.as_slice-new.ensures ∙ c.in_ok-unread.ensures) c.in-Err.ensures.err.0
    c.put_all.new.self c.forget.new.self (subst IsSound c.self.view_is c.self.invariant) c.in-Err.ensures.err.1 c.forget.ensures

pub returns-clause-ok : goal.returns-clause-ok
returns-clause-ok c =
    adds_all c.args.self.now c.args.keys.now c.as_slice-new.result.now c.args.cell (c.as_slice-new.ensures ∙ c.in_ok-unread.ensures) c.put_all.new.self c.in_default.ensures.ok
