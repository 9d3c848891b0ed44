use Rattle.std.proofs.Common.{◌∙◌, codes, subst}
use Rattle.ent_wire.specs.Pieces.{Sends}
use Rattle.cli_replies.specs.Comparing.{told_at}
use Rattle.cli_test.proofs.untested.tell_mistake.Goals as goal

pub returns : goal.returns
returns g c =
    let contents = g.W.Write.contents in
    subst
    (λ said. Sends (contents c.args.writer.now) (contents c.tell.new.writer)
    (told_at c.args.name.now c.args.number (codes ": this line can't stand here: ") said) c.tell.result)
    (c.as_bytes-said.ensures.value ∙ c.mistake_text.ensures) c.tell.ensures
