use Rattle.std.proofs.lemmas.Result.{IfOk-weaker}
use Rattle.ent_trace.specs.proofs_only.Path.{keys_of}
use Rattle.ent_walk.specs.proofs_only.Judged.{or_nothing}
use Rattle.ent_walk.proofs.PathKeys.{keys_of_below}
use Rattle.memo_replay.specs.proofs_only.Stands.{looks_in, request_in}
use Rattle.memo_replay.proofs.Ruling.{rules_joined}
use Rattle.memo_replay.proofs.over.Over.rules_of.Goals as goal

pub returns : goal.returns
returns g c =
    let over = c.args.self.now in
    let policy = c.args.policy.now in
    IfOk-weaker c.rules.result _ _ (λ a by.
    rules_joined over (looks_in g.L.LookUps.looks over) (request_in over) policy (keys_of c.args.path.now) _ c.as_slice.result.now
    c.args.state.now c.rules.new.state (or_nothing a) (keys_of_below _ _ _ _) c.as_slice.ensures (by policy.variables)) c.rules.ensures
