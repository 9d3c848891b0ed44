use Rattle.std.proofs.Common.{◌≡◌, length, drop}
use Rattle.lint_links.specs.Stored.{after_lines, lines_of, stored_in, stored_of}
use Rattle.lint_links.proofs.state.StoredState.of.Given as goal

abbrev pub invariant-loop-line : goal.invariant-loop-line
invariant-loop-line l = after_lines (stored_in l.state) (drop (length l.yielded) (lines_of l.text)) ≡ stored_of l.text
