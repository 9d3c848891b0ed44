use Rattle.std.proofs.Common.{ap, sym, ◌∙◌}
use Rattle.script_files.proofs.Firsts.{before_first_at, before_first_nowhere}
use Rattle.script_files.specs.Standing.{is_heading}
use Rattle.script_files.proofs.building.up_to_heading.Goals as goal

pub returns-then-is_heading : goal.returns-then-is_heading
returns-then-is_heading c =
    before_first_at (λ line. is_heading line.content) c.args.lines.now c.loop-i.i c.loop-i.invariant c.index-lines-i.result
    c.loop-i-test.true (ap (λ line. is_heading line.content) (sym c.index-lines-i.is) ∙ sym c.is_heading.ensures ∙ c.if-is_heading.true)

pub returns : goal.returns
returns c = before_first_nowhere (λ line. is_heading line.content) c.args.lines.now c.loop-i.i c.loop-i.invariant c.loop-i-test.false
