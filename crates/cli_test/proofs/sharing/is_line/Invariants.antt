use Rattle.std.proofs.Common.{◌≡◌, drop}
use Rattle.std.specs.List.{list_any}
use Rattle.cli_replies.specs.Comparing.{is_newline}
use Rattle.cli_test.proofs.sharing.is_line.Given as goal

-- no byte so far is a newline
abbrev pub invariant-loop-byte : goal.invariant-loop-byte
invariant-loop-byte l = list_any is_newline (drop l.byte-index l.line) ≡ list_any is_newline l.line
