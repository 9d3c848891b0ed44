use Rattle.std.proofs.Common.{ap, sym, ◌∙◌}
use Rattle.script_files.proofs.Firsts.{slice_split_here, slice_split_nowhere}
use Rattle.script_files.specs.Sessions.{is_empty}
use Rattle.script_files.proofs.building.split_paragraph.Goals as goal

pub returns-then-is_empty-clause-some : goal.returns-then-is_empty-clause-some
returns-then-is_empty-clause-some c =
    slice_split_here (λ line. is_empty line.content) c.args.lines.now c.loop-i.i c.loop-i.invariant c.index-lines-i.result
    c.loop-i-test.true (ap (λ line. is_empty line.content) (sym c.index-lines-i.is) ∙ sym c.is_empty.ensures ∙ c.if-is_empty.true)

pub returns-clause-none : goal.returns-clause-none
returns-clause-none c = slice_split_nowhere (λ line. is_empty line.content) c.args.lines.now c.loop-i.i c.loop-i.invariant c.loop-i-test.false
