use Rattle.serde_json.specs.View.{view}
use Rattle.cli_compare.proofs.Differences.{compared}
use Rattle.cli_compare.proofs.differing.compare_from.Goals as goal

pub returns-in-Some-3 : goal.returns-in-Some-3
returns-in-Some-3 g c =
    let contents = g.W.Write.contents in
    compared c.args.limits c.args.form c.args.state c.args.changes c.in_ok-base.base.now c.in-Some.first.items c.in-Some-2.second.items (view c.in-Some-3.told)
    (contents c.args.writer.now) (contents c.table_behind.new.writer) (contents c.table_behind-2.new.writer) (contents c.send_difference.new.writer)
    c.in_ok-base.ensures (rw c.in-Some.is at c.in_ok-first.ensures.table) (rw c.in-Some-2.is at c.in_ok-second.ensures.table)
    (rw (c.in-Some-3.is, c.as_slice.ensures.value, c.as_slice-2.ensures.value) at c.in_ok-told.ensures)
    c.send_difference.result c.send_difference.ensures.sent c.send_difference.ensures.ended c.send_difference.ensures.fault
