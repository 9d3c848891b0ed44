use Rattle.std.proofs.Common.{refl}
use Rattle.memo_replay.proofs.Hearing.{asked_heard}
use Rattle.memo_replay.proofs.state.JoinState.ask.Goals as goal

pub returns-clause-heard : goal.returns-clause-heard
returns-clause-heard c = asked_heard c.note.result c.args.number c.args.self.now (record c.args.self.now { asked = c.note.new.self }) c.note.ensures.ok refl
