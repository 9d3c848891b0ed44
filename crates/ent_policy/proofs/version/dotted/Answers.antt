use Rattle.std.proofs.Common.{◌≡◌, ◌<◌, length, get_or, ◌∙◌, lit<, length-set, arith}
use Rattle.std.proofs.lemmas.Iterator.Consumers.{YieldsList-turn, YieldsList-end}
use Rattle.std.proofs.lemmas.Iterator.Splits.{YieldsList-from_str_split}
use Rattle.std.proofs.lemmas.List.{length_push}
use Rattle.ent_policy.specs.Versions.{pieces}
use Rattle.ent_policy.proofs.Dotted.{one_missing, too_many, all_read, one_more}
use Rattle.ent_policy.proofs.version.dotted.Goals as goal

pub loop-piece-preserved : goal.loop-piece-preserved
loop-piece-preserved g c =
    let t = YieldsList-turn (YieldsList-from_str_split 46 c.args.text.now (lit< tt) (cc) (cc) (cc)) c.loop-piece.yielded _
    c.loop-piece.yielded_by _ _ c.in-Some.piece c.in-Some.is c.next.ensures.steps in
    let at : c.in-Some.piece.now ≡ get_or (pieces c.args.text.now) c.loop-piece.count c.in-Some.piece.now =
    rw c.loop-piece.invariant.counted t.1 in
    let lt : c.loop-piece.count < length (pieces c.args.text.now) = rw c.loop-piece.invariant.counted t.0 in
    record {
      counted = omega (arith, c.loop-piece.invariant.counted, length_push c.loop-piece.yielded c.in-Some.piece);
      room = length-set c.loop-piece.parts c.loop-piece.count c.in_ok-parts.field-0 ∙ c.loop-piece.invariant.room;
      few = omega (arith, c.loop-piece.invariant.few);
      read = one_more g.P.VersionPiece.spelled (pieces c.args.text.now) c.loop-piece.count c.in-Some.piece.now c.in_ok-parts.field-0 c.loop-piece.parts lt
          (omega (arith, c.loop-piece.invariant.few, c.loop-piece.invariant.room)) at c.in_ok-parts.ensures c.loop-piece.invariant.read;
    }

pub returns-then-count-eq8 : goal.returns-then-count-eq8
returns-then-count-eq8 g c =
    let t = YieldsList-turn (YieldsList-from_str_split 46 c.args.text.now (lit< tt) (cc) (cc) (cc)) c.loop-piece.yielded _
    c.loop-piece.yielded_by _ _ c.in-Some.piece c.in-Some.is c.next.ensures.steps in
    too_many g.P.VersionPiece.spelled c.args.text.now (omega (arith, t.0, c.loop-piece.invariant.counted))

pub returns-in_err-parts : goal.returns-in_err-parts
returns-in_err-parts g c =
    let t = YieldsList-turn (YieldsList-from_str_split 46 c.args.text.now (lit< tt) (cc) (cc) (cc)) c.loop-piece.yielded _
    c.loop-piece.yielded_by _ _ c.in-Some.piece c.in-Some.is c.next.ensures.steps in
    let at : c.in-Some.piece.now ≡ get_or (pieces c.args.text.now) c.loop-piece.count c.in-Some.piece.now =
    rw c.loop-piece.invariant.counted t.1 in
    let lt : c.loop-piece.count < length (pieces c.args.text.now) = rw c.loop-piece.invariant.counted t.0 in
    rw c.from_residual.ensures (one_missing g.P.VersionPiece.spelled c.args.text.now c.loop-piece.count c.in-Some.piece.now lt at c.in_err-parts.ensures)

pub returns : goal.returns
returns g c =
    let t = YieldsList-end (YieldsList-from_str_split 46 c.args.text.now (lit< tt) (cc) (cc) (cc)) c.loop-piece.yielded _
    c.loop-piece.yielded_by _ _ c.in-None.is c.next.ensures.steps in
    let whole = c.loop-piece.invariant.counted ∙ t.1 in
    (c.loop-piece.invariant.few, all_read g.P.VersionPiece.spelled c.args.text.now c.loop-piece.parts c.loop-piece.count whole c.loop-piece.invariant.few c.loop-piece.invariant.read)
