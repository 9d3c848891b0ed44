use Rattle.std.proofs.Common.{◌∷◌, [], map}
use Rattle.std.specs.Prelude.{string_bytes}
use Rattle.std.proofs.lemmas.List.{map-append}
use Rattle.cli_check.proofs.Telling.{next_told}
use Rattle.cli_check.proofs.meant.lines_of.Goals as goal

pub loop-warning-preserved : goal.loop-warning-preserved
loop-warning-preserved c =
    rw (c.in_ok-push.ensures.items, map-append string_bytes c.loop-warning.lines.items (c.in_ok-line_of.field-0 ∷ []))
    (next_told c.args.warnings.now c.loop-warning.warning-index c.warning-item.result _ _ c.loop-warning-test.true c.warning-item.is c.loop-warning.invariant c.in_ok-line_of.ensures)
