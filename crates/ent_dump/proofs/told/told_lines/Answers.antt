use Rattle.std.proofs.Common.{◌∙◌, ap, map, sym}
use Rattle.std.specs.Prelude.{option_and_then}
use Rattle.serde_json.specs.Find.{as_array}
use Rattle.serde_json.specs.View.{items_of}
use Rattle.ent_dump.proofs.Telling.{texts_are, told_is}
use Rattle.ent_dump.specs.Reply.{text_of}
use Rattle.ent_dump.proofs.told.told_lines.Goals as goal

pub returns-then-are_lines : goal.returns-then-are_lines
returns-then-are_lines g c =
    let content = g.J.JsonTree.content in
    let lines = c.in_ok-lines.lines.now in
    told_is (content c.args.value.now) (items_of (map content lines)) (map (λ j. text_of (content j)) lines) (sym c.has_only.ensures ∙ c.if-not-has_only.false)
    (ap (option_and_then as_array) (sym c.in_ok-get.ensures) ∙ sym c.in_ok-lines.ensures)
    (texts_are content lines (rw c.if-are_lines.true at c.are_lines.ensures))
