use Rattle.std.proofs.Common.{◌≡◌, string_bytes, true}
use Rattle.lint_messages.specs.Told.{is_one_line}
use Rattle.lint_messages.proofs.line.one_line.Given as goal

-- what is written so far stays on one line
abbrev pub invariant-loop-character : goal.invariant-loop-character
invariant-loop-character l = is_one_line (string_bytes l.line) ≡ true
