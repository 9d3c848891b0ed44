use Rattle.std.proofs.Common.{rules}
use Rattle.cli_compare.proofs.Differences.{gives_table, refuses}
use Rattle.cli_compare.proofs.differing.table_behind.Goals as goal

pub returns-then-not-accepted-also-clause-table : goal.returns-then-not-accepted-also-clause-table
returns-then-not-accepted-also-clause-table g c =
    let contents = g.W.Write.contents in
    refuses c.args.limits c.args.name.now c.args.base.now c.args.lines c.in_ok-replies.replies.items c.in_ok-accepted.rest.now
    (contents c.args.writer.now) (contents c.compare.new.writer) (contents c.compare-2.new.writer) c.in_ok-accepted.accepted c.in_ok-also.also
    (search rules) (search rules) (search rules) (search rules) (search rules) (search rules) (search rules) (search rules) (search rules)

pub returns-clause-table : goal.returns-clause-table
returns-clause-table g c =
    let contents = g.W.Write.contents in
    gives_table c.args.limits c.args.name.now c.args.base.now c.args.lines c.in_ok-replies.replies.items c.in_ok-accepted.rest.now
    (contents c.args.writer.now) (contents c.compare.new.writer) (contents c.compare-2.new.writer) c.in_ok-accepted.accepted c.in_ok-also.also
    (search rules) (search rules) (search rules) (search rules) (search rules) (search rules)
    c.in_ok-also.rest.now c.in_ok-from_slice.field-0.items (search rules) (search rules) (search rules) (search rules)
