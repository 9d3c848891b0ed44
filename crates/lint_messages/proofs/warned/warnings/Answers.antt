use Rattle.std.proofs.Common.{◌∷◌, [], refl, string_bytes}
use Rattle.std.proofs.lemmas.List.Folds.{list_all-append}
use Rattle.lint_messages.specs.Told.{is_one_line}
use Rattle.lint_messages.proofs.warned.warnings.Goals as goal

pub loop-pointer-preserved : goal.loop-pointer-preserved
loop-pointer-preserved c =
    rw (c.in_ok-push.ensures.items, list_all-append (λ line. is_one_line (string_bytes line)) c.loop-pointer.lines.items (c.in_ok-warning_of.field-0 ∷ []), c.loop-pointer.invariant, c.in_ok-warning_of.ensures)
    refl
