use Rattle.std.proofs.Common.{codes, subst}
use Rattle.std.specs.Io.KnownBytes.{Appends}
use Rattle.cli_replies.specs.Comparing.{told_at}
use Rattle.cli_replies.proofs.Compared.{places_more}
use Rattle.cli_replies.proofs.comparing.tell_places.Goals as goal

pub loop-place-preserved : goal.loop-place-preserved
loop-place-preserved g c =
    let contents = g.W.Write.contents in
    places_more c.args.places.now (λ p. p.items) c.args.name.now c.args.number c.loop-place.place-index c.place-item.result
    (contents c.args.writer.now) (contents c.loop-place.writer) (contents c.tell.new.writer) c.loop-place-test.true c.place-item.is c.loop-place.invariant
    (subst
    (λ place. Appends (contents c.loop-place.writer) (contents c.tell.new.writer) (told_at c.args.name.now c.args.number (codes ": differs at ") place))
    c.as_slice.ensures.value c.in_ok-tell.ensures)
