use Rattle.std.proofs.Common.{Bor, Option}
use Rattle.ent_policy.specs.declared.document.Tree.{Tree}
use Rattle.memo_replay.proofs.Cursor.{named_heard}
use Rattle.memo_replay.proofs.over.Over.named.Goals as goal

pub returns : goal.returns
returns g c =
    named_heard {L = g.row.L.Denot} c.args.self.now (λ (d : Bor (Option Tree)). d.now) c.document.result c.args.reference.now c.in_ok-number.number
    c.args.state.now c.number_of.new.state c.ask.new.self c.document.new.state
    c.in_ok-number.ensures.number c.in_ok-number.ensures.heard c.in_ok-number.ensures.stays
    c.in_ok-ask.ensures.heard c.in_ok-ask.ensures.stays c.document.ensures.heard c.document.ensures.named
