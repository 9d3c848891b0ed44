use Rattle.std.proofs.Common.{◌∷◌, [], map}
use Rattle.std.specs.Prelude.{string_bytes}
use Rattle.std.proofs.lemmas.List.{map-append}
use Rattle.lint_places.specs.Views.{fault_at}
use Rattle.lint_messages.proofs.Lines.{next_placed}
use Rattle.lint_messages.proofs.every.lines_of.Goals as goal

pub loop-faulty-preserved : goal.loop-faulty-preserved
loop-faulty-preserved g c =
    rw (c.in_ok-push.ensures.items, map-append string_bytes c.loop-faulty.lines.items (c.in_ok-line_of.field-0 ∷ []))
    (next_placed (fault_at g.J.JsonTree.content) c.args.faults.now c.loop-faulty.faulty-index c.faulty-item.result _ _ c.loop-faulty-test.true c.faulty-item.is c.loop-faulty.invariant c.in_ok-line_of.ensures)
