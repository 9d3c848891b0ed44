use Rattle.std.proofs.Common.{◌≡◌, string_bytes, true}
use Rattle.std.specs.List.{list_all}
use Rattle.lint_messages.specs.Told.{is_one_line}
use Rattle.lint_messages.proofs.warned.warnings.Given as goal

-- each line so far is one
abbrev pub invariant-loop-pointer : goal.invariant-loop-pointer
invariant-loop-pointer l = list_all (λ line. is_one_line (string_bytes line)) l.lines.items ≡ true
