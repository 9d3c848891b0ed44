use Rattle.std.proofs.Common.{map, ◌∙◌, sym}
use Rattle.lint_declared.specs.proofs_only.Claims.{claimed_in}
use Rattle.lint_declared.proofs.Noted.{no_more_lines, one_more_line}
use Rattle.lint_declared.proofs.lines.faulty_among.Goals as goal

pub loop-index-preserved : goal.loop-index-preserved
loop-index-preserved c =
    let commands = map (λ w. w.now) c.args.commands.now in
    c.loop-index.invariant
    ∙ one_more_line commands c.args.attributes.now c.args.listed.now c.loop-index.all.items c.put_fault.new.all.items (claimed_in c.loop-index.claims) (claimed_in c.note_line.new.claims)
    c.args.lines.now c.loop-index.index _ c.in_ok-fault.fault c.loop-index-test.true c.in_ok-fault.ensures c.in_ok-put_fault.ensures c.in_ok-note_line.ensures

pub returns : goal.returns
returns c =
    let commands = map (λ w. w.now) c.args.commands.now in
    sym (c.loop-index.invariant ∙ no_more_lines commands c.args.attributes.now c.args.listed.now c.loop-index.all.items (claimed_in c.loop-index.claims) c.args.lines.now c.loop-index.index c.loop-index-test.false)
