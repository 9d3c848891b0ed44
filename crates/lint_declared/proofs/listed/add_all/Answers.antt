use Rattle.std.proofs.Common.{◌+◌, map, take}
use Rattle.lint_declared.specs.Settings.{names_in}
use Rattle.lint_declared.proofs.Names.{one_more_line, read_more}
use Rattle.lint_declared.proofs.listed.add_all.Goals as goal

pub loop-line-preserved : goal.loop-line-preserved
loop-line-preserved c = λ name.
    let lines = c.args.lines.now in
    let i = c.loop-line.line-index in
    read_more name c.args.names.now.keys c.loop-line.names.keys c.add.new.names.keys (names_in (map (λ l. l.now) (take i lines))) (names_in (map (λ l. l.now) (take (i + 1) lines)))
    c.in_ok-name.name (c.loop-line.invariant name) (c.in_ok-add.ensures name) (one_more_line lines i _ c.in_ok-name.name c.loop-line-test.true c.in_ok-name.ensures)
